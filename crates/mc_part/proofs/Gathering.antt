-- Things that were shared out, taken back one after another, the last one first.
use Rattle.std.proofs.Common.{◌≡◌, ◌<◌, ◌≤◌, ◌+◌, ◌-◌, inl, inr, if◌then◌else◌, Bool, true, false, ℕ, suc, List, [], ◌∷◌, ◌++◌, length, get_or, set, take, take_all, drop, ap, ap₂, sym, ◌∙◌, subst, arith, eq-eqb, ne_eqb, length-append, length-set, append-nil, get_or-set_same, get_or-set_other}
use Rattle.std.proofs.lemmas.Bool.{cases_eq}
use Rattle.std.proofs.lemmas.List.{length-map, map-set, take-append-le}
use Rattle.std.specs.declared.alloc.Global.{Global}
use Rattle.std.specs.declared.vec.Vec.{Vec}
use Rattle.std.proofs.lemmas.List.FromFn.{fill_by_all, get_or-map-range_with_len, length-map-range_with_len}
use Rattle.std.proofs.Math.Seq.{drop-cons, drop-length, get_or-append_seam}
use Rattle.mc_part.specs.Divisions.{is_part}
use Rattle.mc_part.specs.DividedParts.{AreShared, IsTaken, inner_lists, share_of, shares_of}
use Rattle.mc_part.proofs.Shares.{read_list, share_more, shares_so_far}

no_start : (k : ℕ) → 0 + k ≡ k
no_start k = omega arith

-- ---- one list

-- with one thing at its end: what is taken, and what is left
pub record HasLast {A : Type 0} (list before : List A) (thing : A) : Type 0 where
  pub some : 0 < length list
  pub value : (d : A) → get_or list (length list - 1) d ≡ thing
  pub rest : take (length list - 1) list ≡ before

has_last : {A : Type 0} (list before : List A) (thing : A) → list ≡ before ++ thing ∷ [] → HasLast list before thing
has_last {A} list before thing is =
    let long : length list ≡ length before + 1 = ap (λ (l : List A). length l) is ∙ length-append before (thing ∷ []) in
    let last : length list - 1 ≡ length before = omega arith in
    record {
      some = omega arith;
      value = λ d. ap (λ (n : ℕ). get_or list n d) last
          ∙ (ap (λ (l : List A). get_or l (length before) d) is ∙ get_or-append_seam before thing [] d);
      rest = ap (λ (n : ℕ). take n list) last
          ∙ (ap (λ (l : List A). take (length before) l) is
          ∙ (take-append-le (length before) before (thing ∷ []) (omega arith)
          ∙ take_all (length before) before (omega arith)));
    }

-- ---- all lists

-- what a part has of the first so many things
share_at : {A : Type 0} (things : List A) (assigned : List ℕ) (lists : List (List A)) (count n k : ℕ) → k < count
    → lists ≡ shares_so_far things assigned count n → get_or lists k [] ≡ share_of (take n things) (take n assigned) k
share_at {A} things assigned lists count n k below so_far =
    ap (λ (l : List (List A)). get_or l k []) so_far
    ∙ get_or-map-range_with_len (share_of (take n things) (take n assigned)) 0 count k k [] below (no_start k)

-- the last one of the first so many is the last of its part
pub last_of : {A : Type 0} (things : List A) (assigned : List ℕ) (lists : List (List A)) (count i p : ℕ) (e : A)
    → i < length things → i < length assigned → p ≡ get_or assigned i 0 → p < count
    → lists ≡ shares_so_far things assigned count (i + 1)
    → HasLast (get_or lists p []) (share_of (take i things) (take i assigned) p) (get_or things i e)
last_of {A} things assigned lists count i p e one two is inside so_far =
    let test : is_part p (get_or assigned i 0) ≡ true = eq-eqb (get_or assigned i 0) p (sym is) in
    has_last (get_or lists p []) (share_of (take i things) (take i assigned) p) (get_or things i e)
    (share_at things assigned lists count (i + 1) p inside so_far
    ∙ (share_more things assigned i p 0 e one two
    ∙ ap (λ (b : Bool). share_of (take i things) (take i assigned) p ++ (if b then get_or things i e ∷ [] else [])) test))

pub record AreLeft {A : Type 0} (things : List A) (assigned : List ℕ) (after : List (List A)) (count i : ℕ)
    (thing : A) : Type 0 where
  pub thing_is : (d : A) → thing ≡ get_or things i d
  pub shares : after ≡ shares_so_far things assigned count i

-- where it is taken
pub taken : {A : Type 0} (things : List A) (assigned : List ℕ) (lists after : List (List A)) (count i p : ℕ) (thing : A)
    → i < length things → i < length assigned → p ≡ get_or assigned i 0 → p < count
    → lists ≡ shares_so_far things assigned count (i + 1) → IsTaken lists after p thing
    → AreLeft things assigned after count i thing
taken {A} things assigned lists after count i p thing one two is inside so_far took = record {
  thing_is = λ d.
      let last : HasLast (get_or lists p []) (share_of (take i things) (take i assigned) p) (get_or things i d) =
      last_of things assigned lists count i p d one two is inside so_far in
      took.value d ∙ last.value d;
  shares = took.after_is
      ∙ fill_by_all (share_of (take i things) (take i assigned)) (set lists p kept) count [] long each;
}
  where
    kept : List A
    kept = take (length (get_or lists p []) - 1) (get_or lists p [])

    last : HasLast (get_or lists p []) (share_of (take i things) (take i assigned) p) (get_or things i thing)
    last = last_of things assigned lists count i p thing one two is inside so_far

    short : length lists ≡ count
    short = ap (λ (l : List (List A)). length l) so_far
        ∙ length-map-range_with_len (share_of (take (i + 1) things) (take (i + 1) assigned)) 0 count

    long : length (set lists p kept) ≡ count
    long = length-set lists p kept ∙ short

    each : (k : ℕ) → k < count → get_or (set lists p kept) k [] ≡ share_of (take i things) (take i assigned) k
    each k below = elim (cases_eq k p) [
      | inl same ↦
          ap (λ (n : ℕ). get_or (set lists p kept) n []) same
          ∙ (get_or-set_same lists p kept [] (subst (λ (n : ℕ). p < n) (sym short) inside)
          ∙ (last.rest ∙ ap (λ (n : ℕ). share_of (take i things) (take i assigned) n) (sym same)))
      | inr other ↦
          let test : is_part k (get_or assigned i 0) ≡ false =
          ne_eqb (get_or assigned i 0) k (λ same. other (sym same ∙ sym is)) in
          get_or-set_other lists p k kept [] other
          ∙ (share_at things assigned lists count (i + 1) k below so_far
          ∙ (share_more things assigned i k 0 thing one two
          ∙ (ap (λ (b : Bool). share_of (take i things) (take i assigned) k
          ++ (if b then get_or things i thing ∷ [] else [])) test
          ∙ append-nil (share_of (take i things) (take i assigned) k))))
    ]

-- ---- the loop

-- after so many are taken: what is left in the lists, and what is out
pub record HaveGathered {A : Type 0} (all : List A) (assigned : List ℕ) (lists : List (List A)) (count done : ℕ)
    (things : List A) : Type 0 where
  pub shares : lists ≡ shares_so_far all assigned count (length assigned - done)
  pub out : things ≡ drop (length assigned - done) all

-- at the beginning
pub none_gathered : {A : Type 0} (all : List A) (assigned : List ℕ) (lists : List (List A)) (things : List A)
    → things ≡ [] → AreShared all assigned lists → HaveGathered all assigned lists (length lists) 0 things
none_gathered {A} all assigned lists things none shared =
    let whole : length assigned - 0 ≡ length assigned = omega arith in
    record {
      shares = shared.shares
          ∙ (ap₂ (λ (l : List A) (a : List ℕ). shares_of l a (length lists))
          (sym (take_all (length assigned) all (omega (arith, shared.each))))
          (sym (take_all (length assigned) assigned (omega arith)))
          ∙ ap (λ (n : ℕ). shares_so_far all assigned (length lists) n) (sym whole));
      out = none
          ∙ (sym (drop-length all) ∙ ap (λ (n : ℕ). drop n all) (shared.each ∙ sym whole));
    }

-- one more
pub more_gathered : {A : Type 0} (all : List A) (assigned : List ℕ) (lists after : List (List A))
    (count done who p : ℕ) (thing : A) (things more : List A) → length all ≡ length assigned
    → done < length assigned → who ≡ length assigned - 1 - done → p ≡ get_or assigned who 0 → p < count
    → HaveGathered all assigned lists count done things → IsTaken lists after p thing → more ≡ thing ∷ things
    → HaveGathered all assigned after count (done + 1) more
more_gathered {A} all assigned lists after count done who p thing things more each below who_is is inside gathered took pushed =
    let next : length assigned - done ≡ who + 1 = omega arith in
    let here : length assigned - (done + 1) ≡ who = omega arith in
    let left : AreLeft all assigned after count who thing =
    taken all assigned lists after count who p thing (omega arith) (omega arith) is inside
    (gathered.shares ∙ ap (λ (n : ℕ). shares_so_far all assigned count n) next) took in
    let later : who + 1 ≡ suc who = omega arith in
    record {
      shares = left.shares ∙ ap (λ (n : ℕ). shares_so_far all assigned count n) (sym here);
      out = pushed
          ∙ (ap₂ (λ (x : A) (xs : List A). x ∷ xs) (left.thing_is thing)
          (gathered.out ∙ ap (λ (n : ℕ). drop n all) (next ∙ later))
          ∙ (sym (drop-cons all who thing (omega arith)) ∙ ap (λ (n : ℕ). drop n all) (sym here)));
    }

-- there is one to take
pub one_left : {A : Type 0} (all : List A) (assigned : List ℕ) (lists : List (List A)) (count done who p : ℕ)
    (things : List A) → length all ≡ length assigned → done < length assigned
    → who ≡ length assigned - 1 - done → p ≡ get_or assigned who 0 → p < count
    → HaveGathered all assigned lists count done things → 0 < length (get_or lists p [])
one_left {A} [] assigned lists count done who p things each below who_is is inside gathered = absurd (omega arith)
one_left {A} (e ∷ all) assigned lists count done who p things each below who_is is inside gathered =
    let next : length assigned - done ≡ who + 1 = omega arith in
    let last : HasLast (get_or lists p []) (share_of (take who (e ∷ all)) (take who assigned) p)
    (get_or (e ∷ all) who e) =
    last_of (e ∷ all) assigned lists count who p e (omega arith) (omega arith) is inside
    (gathered.shares ∙ ap (λ (n : ℕ). shares_so_far (e ∷ all) assigned count n) next) in
    last.some

-- and in the end all are out
pub all_gathered : {A : Type 0} (all : List A) (assigned : List ℕ) (lists : List (List A)) (count done : ℕ)
    (things : List A) → length assigned ≤ done → HaveGathered all assigned lists count done things → things ≡ all
all_gathered {A} all assigned lists count done things end gathered =
    let none : length assigned - done ≡ 0 = omega arith in
    gathered.out ∙ ap (λ (n : ℕ). drop n all) none

-- the loop's invariant, whichever things were shared out
abbrev pub GathersFrom : {A : Type 0} → List ℕ → (start lists : List (List A)) → ℕ → List A → Type 0
GathersFrom {A} assigned start lists done things = (all : List A) → AreShared all assigned start
    → HaveGathered all assigned lists (length start) done things

-- ---- as code changes them

-- one of them is shorter
pub list_shorter : {A : Type 0} (lists : List (Vec A Global)) (part : ℕ) (old new : Vec A Global) (thing : A)
    → part < length lists → old ≡ get_or lists part old
    → ((d : A) → thing ≡ get_or old.items (length old.items - 1) d)
    → new.items ≡ take (length old.items - 1) old.items
    → IsTaken (inner_lists lists) (inner_lists (set lists part new)) part thing
list_shorter {A} lists part old new thing here is value rest =
    let read : get_or (inner_lists lists) part [] ≡ old.items = read_list lists part old here is in
    record {
      value = λ d. value d ∙ ap (λ (l : List A). get_or l (length l - 1) d) (sym read);
      after_is = map-set (λ (v : Vec A Global). v.items) lists part new
          ∙ ap (λ (l : List A). set (inner_lists lists) part l)
          (rest ∙ ap (λ (l : List A). take (length l - 1) l) (sym read));
    }

-- there are as many
pub list_count : {A : Type 0} (lists : List (Vec A Global)) → length (inner_lists lists) ≡ length lists
list_count {A} lists = length-map lists (λ (v : Vec A Global). v.items)

-- no list is lost in the loop
pub lists_kept : {A : Type 0} (all : List A) (assigned : List ℕ) (start lists : List (Vec A Global)) (done : ℕ)
    (things : List A)
    → HaveGathered all assigned (inner_lists lists) (length (inner_lists start)) done things
    → length lists ≡ length start
lists_kept {A} all assigned start lists done things gathered =
    sym (list_count lists)
    ∙ (ap (λ (l : List (List A)). length l) gathered.shares
    ∙ (length-map-range_with_len (share_of (take (length assigned - done) all) (take (length assigned - done) assigned)) 0
    (length (inner_lists start))
    ∙ list_count start))
