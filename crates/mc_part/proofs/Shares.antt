-- Things by the part that each is assigned to.
use Rattle.std.proofs.Common.{◌≡◌, ◌<◌, ◌≤◌, ◌+◌, inl, inr, if◌then◌else◌, Bool, true, false, ℕ, zero, suc, List, [], ◌∷◌, ◌++◌, length, map, get_or, set, take, drop, replicate, refl, ap, ap₂, sym, ◌∙◌, subst, arith, eq-eqb, ne_eqb, take_all, append-nil, map-id, length-set, length-drop, get_or-set_same, get_or-set_other}
use Rattle.std.proofs.lemmas.Bool.{cases_eq}
use Rattle.std.proofs.lemmas.List.{get_or-map, length-map, length-replicate, map-set, map_push, replicate_more}
use Rattle.std.proofs.lemmas.List.FromFn.{fill_by_all, get_or-range_with_len, length-range_with_len, get_or-map-range_with_len, length-map-range_with_len}
use Rattle.std.specs.List.{range_with_len}
use Rattle.std.specs.declared.alloc.Global.{Global}
use Rattle.std.specs.declared.vec.Vec.{Vec}
use Rattle.mc_box.specs.Boxes.{no_box}
use Rattle.mc_model.specs.Worlds.{WorldState, box_at}
use Rattle.mc_part.specs.DivisionLaws.{SharesAreBoxes}
use Rattle.mc_part.specs.Divisions.{boxes_in, is_part, members, members_from}
use Rattle.mc_part.specs.DividedParts.{inner_lists, share_of}

-- ---- the boxes of a part

share_by : {A : Type 0} (b : Bool) (x : A) (n : ℕ) (f : ℕ → A) (xs : List A) (ns : List ℕ) → x ≡ f n → xs ≡ map f ns → (if b then x ∷ xs else xs) ≡ map f (if b then n ∷ ns else ns)
share_by true x n f xs ns one rest = ap₂ (λ z zs. z ∷ zs) one rest
share_by false x n f xs ns one rest = rest

next_at : (first k : ℕ) → ((first + 1) + k ≡ first + suc k) × (first ≡ first + 0)
next_at first k = (omega arith, omega arith)

shared_from : {A : Type 0} (f : ℕ → A) (d : A) (things : List A) (assigned : List ℕ) (part first : ℕ) → length things ≡ length assigned → ((k : ℕ) → k < length things → get_or things k d ≡ f (first + k))
    → share_of things assigned part ≡ map f (members_from part first assigned)
shared_from f d [] [] part first same each = refl
shared_from f d [] (other ∷ assigned) part first same each = absurd (omega arith)
shared_from f d (x ∷ things) [] part first same each = absurd (omega arith)
shared_from f d (x ∷ things) (other ∷ assigned) part first same each =
    share_by (is_part part other) x first f (share_of things assigned part) (members_from part (first + 1) assigned)
    (each 0 (omega arith) ∙ ap f (sym (next_at first 0).1))
    (shared_from f d things assigned part (first + 1) (omega arith) (λ k below. each (suc k) (omega arith) ∙ ap f (sym (next_at first k).0)))

no_start : (k : ℕ) → 0 + k ≡ k
no_start k = omega arith

share_is_boxes : (world : WorldState) (assigned : List ℕ) (part : ℕ) → length assigned ≡ length world.boxes → share_of world.boxes assigned part ≡ boxes_in world assigned part
share_is_boxes world assigned part same =
    shared_from (box_at world) no_box world.boxes assigned part 0 (sym same) (λ k below. ap (λ (n : ℕ). get_or world.boxes n no_box) (sym (no_start k)))

share_is_numbers : (assigned : List ℕ) (part : ℕ) → share_of (range_with_len 0 (length assigned)) assigned part ≡ members assigned part
share_is_numbers assigned part =
    let long : length (range_with_len 0 (length assigned)) ≡ length assigned = length-range_with_len 0 (length assigned) in
    shared_from (λ (n : ℕ). n) 0 (range_with_len 0 (length assigned)) assigned part 0 long (λ k below. get_or-range_with_len 0 (length assigned) k 0 (subst (λ (n : ℕ). k < n) long below))
    ∙ map-id (members assigned part)

map_same : {A : Type 0} (f g : ℕ → List A) (ns : List ℕ) → ((n : ℕ) → f n ≡ g n) → map f ns ≡ map g ns
map_same f g [] same = refl
map_same f g (n ∷ ns) same = ap₂ (λ z zs. z ∷ zs) (same n) (map_same f g ns same)

pub shares_are_boxes : SharesAreBoxes
shares_are_boxes world assigned count same = (
  map_same (share_of world.boxes assigned) (boxes_in world assigned) (range_with_len 0 count) (λ part. share_is_boxes world assigned part same),
  map_same (share_of (range_with_len 0 (length assigned)) assigned) (members assigned) (range_with_len 0 count) (λ part. share_is_numbers assigned part),
)

-- ---- one more

more_by : {A : Type 0} (b : Bool) (x : A) (before after end : List A) → after ≡ before ++ end → (if b then x ∷ after else after) ≡ (if b then x ∷ before else before) ++ end
more_by true x before after end is = ap (λ zs. x ∷ zs) is
more_by false x before after end is = is

share_step : {A : Type 0} (things : List A) (assigned : List ℕ) (i part d : ℕ) (e : A) → i < length things → i < length assigned
    → share_of (take (suc i) things) (take (suc i) assigned) part ≡ share_of (take i things) (take i assigned) part ++ (if is_part part (get_or assigned i d) then get_or things i e ∷ [] else [])
share_step [] assigned i part d e one two = absurd (omega arith)
share_step (x ∷ things) [] i part d e one two = absurd (omega arith)
share_step (x ∷ things) (other ∷ assigned) zero part d e one two = refl
share_step (x ∷ things) (other ∷ assigned) (suc i) part d e one two =
    more_by (is_part part other) x (share_of (take i things) (take i assigned) part) (share_of (take (suc i) things) (take (suc i) assigned) part)
    (if is_part part (get_or assigned i d) then get_or things i e ∷ [] else []) (share_step things assigned i part d e (omega arith) (omega arith))

-- what each of so many parts has of the first so many things
abbrev pub shares_so_far : {A : Type 0} → List A → List ℕ → ℕ → ℕ → List (List A)
shares_so_far {A} things assigned count n = map (share_of (take n things) (take n assigned)) (range_with_len 0 count)

pub share_more : {A : Type 0} (things : List A) (assigned : List ℕ) (i part d : ℕ) (e : A) → i < length things → i < length assigned
    → share_of (take (i + 1) things) (take (i + 1) assigned) part ≡ share_of (take i things) (take i assigned) part ++ (if is_part part (get_or assigned i d) then get_or things i e ∷ [] else [])
share_more things assigned i part d e one two =
    let next : i + 1 ≡ suc i = omega arith in
    ap (λ (n : ℕ). share_of (take n things) (take n assigned) part) next ∙ share_step things assigned i part d e one two

pub given : {A : Type 0} (things : List A) (assigned : List ℕ) (lists after : List (List A)) (count i d : ℕ) (p : ℕ) (thing : A)
    → i < length things → i < length assigned → p ≡ get_or assigned i d → p < count
    → lists ≡ shares_so_far things assigned count i → thing ≡ get_or things i thing → after ≡ set lists p (get_or lists p [] ++ thing ∷ []) → after ≡ shares_so_far things assigned count (i + 1)
given {A} things assigned lists after count i d p thing one two is inside so_far thing_is changed =
    changed ∙ fill_by_all (share_of (take (i + 1) things) (take (i + 1) assigned)) (set lists p (get_or lists p [] ++ thing ∷ [])) count [] long each where
      short : length lists ≡ count
      short = ap length so_far ∙ length-map-range_with_len (share_of (take i things) (take i assigned)) 0 count

      long : length (set lists p (get_or lists p [] ++ thing ∷ [])) ≡ count
      long = length-set lists p (get_or lists p [] ++ thing ∷ []) ∙ short

      at : (k : ℕ) → k < count → get_or lists k [] ≡ share_of (take i things) (take i assigned) k
      at k there = ap (λ (l : List (List A)). get_or l k []) so_far ∙ get_or-map-range_with_len (share_of (take i things) (take i assigned)) 0 count k k [] there (no_start k)

      each : (k : ℕ) → k < count → get_or (set lists p (get_or lists p [] ++ thing ∷ [])) k [] ≡ share_of (take (i + 1) things) (take (i + 1) assigned) k
      each k there = elim (cases_eq k p) [
        | inl same ↦
            let test : is_part k (get_or assigned i d) ≡ true = eq-eqb (get_or assigned i d) k (sym (same ∙ is)) in
            ap (λ (n : ℕ). get_or (set lists p (get_or lists p [] ++ thing ∷ [])) n []) same
            ∙ (get_or-set_same lists p (get_or lists p [] ++ thing ∷ []) [] (subst (λ (n : ℕ). p < n) (sym short) inside)
            ∙ (ap (λ (n : ℕ). get_or lists n [] ++ thing ∷ []) (sym same)
            ∙ (ap₂ (λ (l : List A) (x : A). l ++ x ∷ []) (at k there) thing_is
            ∙ sym (share_more things assigned i k d thing one two ∙ ap (λ (b : Bool). share_of (take i things) (take i assigned) k ++ (if b then get_or things i thing ∷ [] else [])) test))))
        | inr other ↦
            let test : is_part k (get_or assigned i d) ≡ false = ne_eqb (get_or assigned i d) k (λ same. other (sym same ∙ sym is)) in
            get_or-set_other lists p k (get_or lists p [] ++ thing ∷ []) [] other
            ∙ (at k there
            ∙ sym (share_more things assigned i k d thing one two ∙ (ap (λ (b : Bool). share_of (take i things) (take i assigned) k ++ (if b then get_or things i thing ∷ [] else [])) test
            ∙ append-nil (share_of (take i things) (take i assigned) k))))
      ]

-- ---- what is left of the things

none_left : {A : Type 0} (thing : A) (later : List A) → [] ≡ thing ∷ later → 0 ≡ suc (length later)
none_left thing later same = ap length same

abbrev empty : {A : Type 0} → List A
empty {A} = []

drop_none : {A : Type 0} (i : ℕ) → drop i (empty {A = A}) ≡ empty {A = A}
drop_none zero = refl
drop_none (suc i) = refl

-- the next one, and those after it
next_by : {A : Type 0} (things rest later : List A) (i : ℕ) (thing : A) → rest ≡ drop i things → rest ≡ thing ∷ later → (i < length things) × (thing ≡ get_or things i thing) × (later ≡ drop (suc i) things)
next_by {A} [] rest later i thing left is =
    let some : 0 ≡ suc (length later) = none_left thing later (sym (drop_none {A = A} i) ∙ (sym left ∙ is)) in
    absurd (omega arith)
next_by (x ∷ things) rest later zero thing left is =
    let same : x ∷ things ≡ thing ∷ later = sym left ∙ is in
    (omega arith, sym (ap (λ l. get_or l 0 thing) same), sym (ap (λ l. drop 1 l) same))
next_by (x ∷ things) rest later (suc i) thing left is =
    let next = next_by things rest later i thing left is in
    (omega (arith, next.0), next.1, next.2)

-- ---- lists of lists, as code changes them

-- what a list has that is read
pub read_list : {A : Type 0} (lists : List (Vec A Global)) (part : ℕ) (list : Vec A Global) → part < length lists → list ≡ get_or lists part list → get_or (inner_lists lists) part [] ≡ list.items
read_list {A} lists part list here is =
    get_or-map (λ (v : Vec A Global). v.items) lists part list [] here ∙ ap (λ (v : Vec A Global). v.items) (sym is)

-- one of them is longer
pub list_longer : {A : Type 0} (lists : List (Vec A Global)) (part : ℕ) (old new : Vec A Global) (x : A) → part < length lists → old ≡ get_or lists part old → new.items ≡ old.items ++ x ∷ []
    → inner_lists (set lists part new) ≡ set (inner_lists lists) part (get_or (inner_lists lists) part [] ++ x ∷ [])
list_longer {A} lists part old new x here is longer =
    map-set (λ (v : Vec A Global). v.items) lists part new
    ∙ ap (λ (l : List A). set (inner_lists lists) part l) (longer ∙ ap (λ (l : List A). l ++ x ∷ []) (sym (read_list lists part old here is)))

-- one empty list more
pub empty_lists_more : {A : Type 0} (lists : List (Vec A Global)) (list : Vec A Global) (n : ℕ) → inner_lists lists ≡ replicate n [] → list.items ≡ [] → inner_lists (lists ++ list ∷ []) ≡ replicate (n + 1) []
empty_lists_more {A} lists list n before empty = rw (map_push (λ (v : Vec A Global). v.items) lists list, before, empty) (replicate_more n [])

pub next_thing : {A : Type 0} (things rest later : List A) (i : ℕ) (thing : A) → rest ≡ drop i things → rest ≡ thing ∷ later → (i < length things) × (thing ≡ get_or things i thing) × (later ≡ drop (i + 1) things)
next_thing things rest later i thing left is =
    let next = next_by things rest later i thing left is in
    let more : suc i ≡ i + 1 = omega arith in
    (next.0, next.1, next.2 ∙ ap (λ (n : ℕ). drop n things) more)

all_none : {A : Type 0} (n k : ℕ) → get_or (replicate n (empty {A = A})) k (empty {A = A}) ≡ empty {A = A}
all_none zero k = refl
all_none (suc n) zero = refl
all_none {A} (suc n) (suc k) = all_none {A = A} n k

-- nothing was given yet
pub none_shared : {A : Type 0} (things : List A) (assigned : List ℕ) (count : ℕ) (lists : List (List A)) → lists ≡ replicate count [] → lists ≡ shares_so_far things assigned count 0
none_shared {A} things assigned count lists is =
    is ∙ fill_by_all (share_of (take 0 things) (take 0 assigned)) (replicate count []) count [] (length-replicate count []) (λ k below. all_none {A = A} count k)

-- each part has its list
pub part_there : {A : Type 0} (things : List A) (assigned : List ℕ) (count n p : ℕ) (lists : List (Vec A Global)) → inner_lists lists ≡ shares_so_far things assigned count n → p < count → p < length lists
part_there {A} things assigned count n p lists is below =
    let long : length lists ≡ count = sym (length-map lists (λ (v : Vec A Global). v.items)) ∙ (ap length is ∙ length-map-range_with_len (share_of (take n things) (take n assigned)) 0 count) in
    subst (λ (m : ℕ). p < m) (sym long) below
