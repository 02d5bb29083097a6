-- The commands that are left of a batch, when so many of each box have come.
use Rattle.std.proofs.Common.{◌≡◌, ◌≢◌, ◌<◌, ◌≤◌, ◌+◌, ◌-◌, ◌++◌, ◌==◌, inl, inr, cond, if◌then◌else◌, ℕ, zero, suc, Bool, true, false, List, [], ◌∷◌, length, map, replicate, take, slice_get, Vec, Global, append-nil, Option, Some, None, refl, ap, sym, ◌∙◌, subst, arith}
use Rattle.std.specs.Option.{option_to_list}
use Rattle.std.proofs.Math.ListN.{get_or, set, length-set}
use Rattle.std.proofs.lemmas.Bool.{cases_eq}
use Rattle.std.proofs.lemmas.Grind.{common_steps}
use Rattle.std.proofs.lemmas.List.{get_or-set_same, get_or-set_other, map_push, replicate_more}
use Rattle.std.proofs.lemmas.List.Elements.{filter_more}
use Rattle.mc_box.specs.declared.event.Turn.{Turn}
use Rattle.mc_seq.specs.Commands.{first_of, left_after, lowered, queue_at, queues_of, turns_of, used_of}
use Rattle.mc_seq.specs.Ready.{CountsEach}
use Rattle.mc_seq.specs.Schedule.{command_candidates, next_of, without_next}
use Rattle.mc_seq.proofs.Nexts.{without_less}

-- ---- numbers and their tests

same_by : (a b : ℕ) → (a == b) ≡ true → a ≡ b
same_by a b is = grind (arith, common_steps)

apart_by : (a b : ℕ) → (a == b) ≡ false → a ≢ b
apart_by a b is same = grind (arith, common_steps)

test_same : (a b : ℕ) → a ≡ b → (a == b) ≡ true
test_same a b is = grind (arith, common_steps)

test_apart : (a b : ℕ) → a ≢ b → (a == b) ≡ false
test_apart a b is = grind (arith, common_steps)

-- one fewer for this box, and as many for each other
pub lowered_same : (used : ℕ → ℕ) (who : ℕ) → lowered used who who ≡ used who - 1
lowered_same used who = ap (λ (b : Bool). if b then used who - 1 else used who) (test_same who who refl)

pub lowered_other : (used : ℕ → ℕ) (who other : ℕ) → other ≢ who → lowered used who other ≡ used other
lowered_other used who other apart = ap (λ (b : Bool). if b then used other - 1 else used other) (test_apart other who apart)

-- ---- by the numbers of those that have come

-- one step of the list of those that are left
left_step : (b : Bool) (turn : Turn) (x y x' y' : List Turn) → (b ≡ true → x ≡ x') → (b ≡ false → y ≡ y') → (if b then turn ∷ x else y) ≡ (if b then turn ∷ x' else y')
left_step true turn x y x' y' one two = ap (λ (l : List Turn). turn ∷ l) (one refl)
left_step false turn x y x' y' one two = two refl

-- equal numbers leave the same
pub left_same : (batch : List Turn) (f g : ℕ → ℕ) → ((who : ℕ) → f who ≡ g who) → left_after f batch ≡ left_after g batch
left_same [] f g same = refl
left_same (turn ∷ rest) f g same =
    left_step (f turn.who == 0) turn (left_after f rest) (left_after (lowered f turn.who) rest) (left_after g rest) (left_after (lowered g turn.who) rest)
    (λ is. left_same rest f g same)
    (λ is. left_same rest (lowered f turn.who) (lowered g turn.who) (λ who. ap (λ (n : ℕ). if who == turn.who then n - 1 else n) (same who)))
    ∙ ap (λ (n : ℕ). if n == 0 then turn ∷ left_after g rest else left_after (lowered g turn.who) rest) (same turn.who)

-- where none has come all are left
pub left_all : (batch : List Turn) (used : ℕ → ℕ) → ((who : ℕ) → used who ≡ 0) → left_after used batch ≡ batch
left_all [] used none = refl
left_all (turn ∷ rest) used none =
    ap (λ (n : ℕ). if n == 0 then turn ∷ left_after used rest else left_after (lowered used turn.who) rest) (none turn.who)
    ∙ ap (λ (l : List Turn). turn ∷ l) (left_all rest used none)

-- the next command of a box is the first of its list that hasn't come: a turn of the box
next_own : (zero_used own : Bool) (turn : Turn) (left less : List Turn) (turns : List Turn) (who used : ℕ) → (used == 0) ≡ zero_used → (turn.who == who) ≡ own → own ≡ true
    → (used ≢ 0 → next_of who less ≡ slice_get turns (used - 1))
    → next_of who (if zero_used then turn ∷ left else less) ≡ slice_get (cond own (turn ∷ turns) turns) used
next_own true own turn left less turns who used is test own_is rest =
    let none : used ≡ 0 = same_by used 0 is in
    ap (λ (b : Bool). cond b (Some turn) (next_of who left)) (test ∙ own_is)
    ∙ (ap (λ (n : ℕ). slice_get (turn ∷ turns) n) (sym none) ∙ ap (λ (b : Bool). slice_get (cond b (turn ∷ turns) turns) used) (sym own_is))
next_own false own turn left less turns who used is test own_is rest =
    let some : used ≢ 0 = apart_by used 0 is in
    let more : used ≡ suc (used - 1) = omega arith in
    rest some
    ∙ (ap (λ (n : ℕ). slice_get (turn ∷ turns) n) (sym more) ∙ ap (λ (b : Bool). slice_get (cond b (turn ∷ turns) turns) used) (sym own_is))

-- a turn of another box
next_other : (none own : Bool) (turn : Turn) (left less : List Turn) (turns : List Turn) (who used : ℕ) → (turn.who == who) ≡ own → own ≡ false
    → next_of who left ≡ slice_get turns used → next_of who less ≡ slice_get turns used
    → next_of who (if none then turn ∷ left else less) ≡ slice_get (cond own (turn ∷ turns) turns) used
next_other true own turn left less turns who used test other_is one two =
    ap (λ (b : Bool). cond b (Some turn) (next_of who left)) (test ∙ other_is) ∙ (one ∙ ap (λ (b : Bool). slice_get (cond b (turn ∷ turns) turns) used) (sym other_is))
next_other false own turn left less turns who used test other_is one two =
    two ∙ ap (λ (b : Bool). slice_get (cond b (turn ∷ turns) turns) used) (sym other_is)

-- both
next_by : (own : Bool) (turn : Turn) (rest : List Turn) (used : ℕ → ℕ) (who : ℕ) → (turn.who == who) ≡ own
    → ((f : ℕ → ℕ) → next_of who (left_after f rest) ≡ slice_get (turns_of who rest) (f who))
    → next_of who (left_after used (turn ∷ rest)) ≡ slice_get (cond own (turn ∷ turns_of who rest) (turns_of who rest)) (used who)
next_by true turn rest used who test each =
    let same : turn.who ≡ who = same_by turn.who who test in
    subst (λ (w : ℕ). next_of who (if used w == 0 then turn ∷ left_after used rest else left_after (lowered used w) rest) ≡ slice_get (turn ∷ turns_of who rest) (used who)) (sym same)
    (next_own (used who == 0) true turn (left_after used rest) (left_after (lowered used who) rest) (turns_of who rest) who (used who) refl test refl
    (λ some. each (lowered used who) ∙ ap (slice_get (turns_of who rest)) (lowered_same used who)))
next_by false turn rest used who test each =
    let apart : who ≢ turn.who = (λ same. apart_by turn.who who test (sym same)) in
    next_other (used turn.who == 0) false turn (left_after used rest) (left_after (lowered used turn.who) rest) (turns_of who rest) who (used who) test refl
    (each used) (each (lowered used turn.who) ∙ ap (slice_get (turns_of who rest)) (lowered_other used turn.who who apart))

-- so of all
pub next_is : (batch : List Turn) (used : ℕ → ℕ) (who : ℕ) → next_of who (left_after used batch) ≡ slice_get (turns_of who batch) (used who)
next_is [] used who = refl
next_is (turn ∷ rest) used who = next_by (turn.who == who) turn rest used who refl (λ f. next_is rest f who)

-- ---- one more has come

-- one more of a box, and as many of each other
pub record IsMore (used more : ℕ → ℕ) (who : ℕ) : Type 0 where
  pub here : more who ≡ used who + 1
  pub others : (other : ℕ) → other ≢ who → more other ≡ used other

-- after a turn of that box, of which some had come
own_lowered : (used more : ℕ → ℕ) (who : ℕ) → used who ≢ 0 → IsMore used more who → IsMore (lowered used who) (lowered more who) who
own_lowered used more who some one = record {
  here = let a = lowered_same used who in let b = lowered_same more who in let c = one.here in omega arith;
  others = λ other apart. lowered_other more who other apart ∙ (one.others other apart ∙ sym (lowered_other used who other apart));
}

-- after a turn of that box, of which none had come, all is as it was
own_first : (used more : ℕ → ℕ) (who other : ℕ) → used who ≡ 0 → IsMore used more who → lowered more who other ≡ used other
own_first used more who other none one = elim (cases_eq other who) [
  | inl same ↦
      subst (λ (w : ℕ). lowered more who w ≡ used w) (sym same)
      (let a = lowered_same more who in let c = one.here in omega arith)
  | inr apart ↦ lowered_other more who other apart ∙ one.others other apart
]

-- after a turn of another box
other_lowered : (used more : ℕ → ℕ) (who turned : ℕ) → turned ≢ who → IsMore used more who → IsMore (lowered used turned) (lowered more turned) who
other_lowered used more who turned apart one = record {
  here = lowered_other more turned who (λ same. apart (sym same)) ∙ (one.here ∙ ap (λ (n : ℕ). n + 1) (sym (lowered_other used turned who (λ same. apart (sym same)))));
  others = λ other differs. ap (λ (n : ℕ). if other == turned then n - 1 else n) (one.others other differs);
}

-- the first of the box that is left goes: a turn of that box
drop_own : (none : Bool) (turn : Turn) (left less last : List Turn) (who used : ℕ) → (used == 0) ≡ none → turn.who ≡ who
    → (used ≡ 0 → last ≡ left) → (used ≢ 0 → last ≡ without_next who less)
    → last ≡ without_next who (if none then turn ∷ left else less)
drop_own true turn left less last who used is own first later =
    first (same_by used 0 is) ∙ ap (λ (b : Bool). if b then left else turn ∷ without_next who left) (sym (test_same turn.who who own))
drop_own false turn left less last who used is own first later = later (apart_by used 0 is)

-- a turn of another box stays, or had come before
drop_other : (none : Bool) (turn : Turn) (left less last later : List Turn) (who : ℕ) → turn.who ≢ who → last ≡ without_next who left → later ≡ without_next who less
    → (if none then turn ∷ last else later) ≡ without_next who (if none then turn ∷ left else less)
drop_other true turn left less last later who apart one two =
    ap (λ (l : List Turn). turn ∷ l) one ∙ ap (λ (b : Bool). if b then left else turn ∷ without_next who left) (sym (test_apart turn.who who apart))
drop_other false turn left less last later who apart one two = two

-- more than none is some
more_some : (n m : ℕ) (x y : List Turn) → m ≡ n + 1 → (if m == 0 then x else y) ≡ y
more_some n m x y is = ap (λ (b : Bool). if b then x else y) (test_apart m 0 (omega arith))

pub left_more : (batch : List Turn) (used more : ℕ → ℕ) (who : ℕ) → IsMore used more who → left_after more batch ≡ without_next who (left_after used batch)
left_more [] used more who one = refl
left_more (turn ∷ rest) used more who one = elim (cases_eq turn.who who) [
  | inl same ↦
      subst (λ (w : ℕ). (if more w == 0 then turn ∷ left_after more rest else left_after (lowered more w) rest)
      ≡ without_next who (if used w == 0 then turn ∷ left_after used rest else left_after (lowered used w) rest)) (sym same)
      (more_some (used who) (more who) (turn ∷ left_after more rest) (left_after (lowered more who) rest) one.here
      ∙ drop_own (used who == 0) turn (left_after used rest) (left_after (lowered used who) rest) (left_after (lowered more who) rest) who (used who) refl same
      (λ none. left_same rest (lowered more who) used (λ other. own_first used more who other none one))
      (λ some. left_more rest (lowered used who) (lowered more who) who (own_lowered used more who some one)))
  | inr apart ↦
      ap (λ (n : ℕ). if n == 0 then turn ∷ left_after more rest else left_after (lowered more turn.who) rest) (one.others turn.who apart)
      ∙ drop_other (used turn.who == 0) turn (left_after used rest) (left_after (lowered used turn.who) rest) (left_after more rest) (left_after (lowered more turn.who) rest) who apart
      (left_more rest used more who one)
      (left_more rest (lowered used turn.who) (lowered more turn.who) who (other_lowered used more who turn.who apart one))
]

-- one more in the list of numbers
pub used_more : (used : List ℕ) (who : ℕ) → who < length used → IsMore (used_of used) (used_of (set used who (get_or used who 0 + 1))) who
used_more used who inside = record {
  here = get_or-set_same used who (get_or used who 0 + 1) 0 inside;
  others = λ other apart. get_or-set_other used who other (get_or used who 0 + 1) 0 apart;
}

-- in zeros each is 0
pub zeros : (n who : ℕ) → used_of (replicate n 0) who ≡ 0
zeros zero who = refl
zeros (suc n) zero = refl
zeros (suc n) (suc who) = zeros n who

-- ---- the lists by box

-- a list of commands as lists see it: to replace one and then to map is to map and then to replace
set_map : {A : Type 0} (f : A → List Turn) (xs : List A) (k : ℕ) (new : A) → map f (set xs k new) ≡ set (map f xs) k (f new)
set_map f [] k new = refl
set_map f (x ∷ xs) zero new = refl
set_map f (x ∷ xs) (suc k) new = ap (λ (l : List (List Turn)). f x ∷ l) (set_map f xs k new)

get_map : {A : Type 0} (f : A → List Turn) (xs : List A) (k : ℕ) (d : A) → k < length xs → get_or (map f xs) k [] ≡ f (get_or xs k d)
get_map f [] k d inside = absurd (omega arith)
get_map f (x ∷ xs) zero d inside = refl
get_map f (x ∷ xs) (suc k) d inside = get_map f xs k d (omega arith)

-- one list has one turn more
pub put_is : {A : Type 0} (f : A → List Turn) (xs : List A) (k : ℕ) (turn : Turn) (was new : A) → k < length xs → was ≡ get_or xs k was → f new ≡ f was ++ turn ∷ []
    → map f (set xs k new) ≡ set (map f xs) k (queue_at (map f xs) k ++ turn ∷ [])
put_is f xs k turn was new inside is goes =
    set_map f xs k new ∙ ap (set (map f xs) k) (goes ∙ ap (λ (l : List Turn). l ++ turn ∷ []) (ap f is ∙ sym (get_map f xs k was inside)))

-- past the last list there is none, so where one isn't empty its box is there
pub queue_there : (queues : List (List Turn)) (who k : ℕ) → k < length (queue_at queues who) → who < length queues
queue_there [] who k some = absurd (omega arith)
queue_there (q ∷ queues) zero k some = omega arith
queue_there (q ∷ queues) (suc who) k some = let rest = queue_there queues who k some in omega arith

-- within a list something stands at each place, and past its end nothing
there_is : (xs : List Turn) (k : ℕ) → k < length xs → (x : Turn) × (slice_get xs k ≡ Some x)
there_is [] k inside = absurd (omega arith)
there_is (x ∷ xs) zero inside = (x, refl)
there_is (x ∷ xs) (suc k) inside = there_is xs k (omega arith)

none_past : (xs : List Turn) (k : ℕ) → length xs ≤ k → slice_get xs k ≡ None
none_past [] k past = refl
none_past (x ∷ xs) zero past = absurd (omega arith)
none_past (x ∷ xs) (suc k) past = none_past xs k (omega arith)

-- where a command of a box hasn't come, one is fewer without the next
pub one_less : (batch : List Turn) (used : ℕ → ℕ) (who : ℕ) → used who < length (turns_of who batch) → length (without_next who (left_after used batch)) + 1 ≡ length (left_after used batch)
one_less batch used who some =
    let turn = there_is (turns_of who batch) (used who) some in
    without_less who (left_after used batch) turn.0 (next_is batch used who ∙ turn.1)

-- where a box has no command, none is taken
stays_by : (here : Bool) (turn : Turn) (left less : List Turn) (later : Option Turn) → cond here (Some turn) later ≡ None → (later ≡ None → less ≡ left) → (if here then left else turn ∷ less) ≡ turn ∷ left
stays_by true turn left less later none rest = absurd (cc)
stays_by false turn left less later none rest = ap (λ (l : List Turn). turn ∷ l) (rest none)

none_stays : (who : ℕ) (left : List Turn) → next_of who left ≡ None → without_next who left ≡ left
none_stays who [] none = refl
none_stays who (turn ∷ left) none = stays_by (turn.who == who) turn left (without_next who left) (next_of who left) none (none_stays who left)

-- so where all of a box have come
pub none_more : (batch : List Turn) (used : ℕ → ℕ) (who : ℕ) → length (turns_of who batch) ≤ used who → without_next who (left_after used batch) ≡ left_after used batch
none_more batch used who past = none_stays who (left_after used batch) (next_is batch used who ∙ none_past (turns_of who batch) (used who) past)

-- a box whose commands have all come, by what code reads
pub none_by : (queues : List (List Turn)) (batch : List Turn) (used who have all : ℕ) → queue_at queues who ≡ turns_of who batch → have ≡ used → all ≡ length (queue_at queues who) → all ≤ have → length (turns_of who batch) ≤ used
none_by queues batch used who have all is one two high =
    let same : length (queue_at queues who) ≡ length (turns_of who batch) = ap length is in
    omega arith

-- the number that code writes is one more
pub dropped_is : (used : List ℕ) (batch : List Turn) (who have : ℕ) → who < length used → have ≡ used_of used who
    → left_after (used_of (set used who (have + 1))) batch ≡ without_next who (left_after (used_of used) batch)
dropped_is used batch who have inside is =
    ap (λ (n : ℕ). left_after (used_of (set used who (n + 1))) batch) is
    ∙ left_more batch (used_of used) (used_of (set used who (used_of used who + 1))) who (used_more used who inside)

-- ---- the boxes that have a command left

-- a box of whose commands some haven't come has a next one
pub some_next : (batch : List Turn) (used : ℕ → ℕ) (who : ℕ) → used who < length (turns_of who batch) → length (command_candidates (left_after used batch) who) ≡ 1
some_next batch used who some =
    let turn = there_is (turns_of who batch) (used who) some in
    ap (λ (o : Option Turn). length (option_to_list o)) (next_is batch used who ∙ turn.1)

-- and one whose commands have all come has none
none_next : (batch : List Turn) (used : ℕ → ℕ) (who : ℕ) → length (turns_of who batch) ≤ used who → length (command_candidates (left_after used batch) who) ≡ 0
none_next batch used who past = ap (λ (o : Option Turn). length (option_to_list o)) (next_is batch used who ∙ none_past (turns_of who batch) (used who) past)

-- equal numbers of a box leave it the same next one
same_next : (batch : List Turn) (used more : ℕ → ℕ) (who : ℕ) → more who ≡ used who → length (command_candidates (left_after used batch) who) ≡ length (command_candidates (left_after more batch) who)
same_next batch used more who same =
    ap (λ (o : Option Turn). length (option_to_list o)) (next_is batch used who ∙ (ap (slice_get (turns_of who batch)) (sym same) ∙ sym (next_is batch more who)))

-- the last command of a box comes: it has none left
last_counts : (batch : List Turn) (used more : ℕ → ℕ) (next : List ℕ) (who limit : ℕ) → IsMore used more who → CountsEach (command_candidates (left_after used batch)) next limit → who < limit
    → used who < length (turns_of who batch) → length (turns_of who batch) ≤ used who + 1 → CountsEach (command_candidates (left_after more batch)) (set next who (get_or next who 0 - 1)) limit
last_counts batch used more next who limit one each inside some last = record {
  long = length-set next who (get_or next who 0 - 1) ∙ each.long;
  counts = λ t below. elim (cases_eq t who) [
    | inl same ↦
        subst (λ (w : ℕ). get_or (set next who (get_or next who 0 - 1)) w 0 ≡ length (command_candidates (left_after more batch) w)) (sym same)
        (let now : get_or (set next who (get_or next who 0 - 1)) who 0 ≡ get_or next who 0 - 1 = get_or-set_same next who (get_or next who 0 - 1) 0 (subst (λ (n : ℕ). who < n) (sym each.long) inside) in
        let was : get_or next who 0 ≡ length (command_candidates (left_after used batch) who) = each.counts who inside in
        let first : length (command_candidates (left_after used batch) who) ≡ 1 = some_next batch used who some in
        let none : length (command_candidates (left_after more batch) who) ≡ 0 = none_next batch more who (let here = one.here in omega arith) in
        omega arith)
    | inr apart ↦
        get_or-set_other next who t (get_or next who 0 - 1) 0 apart ∙ (each.counts t below ∙ same_next batch used more t (one.others t apart))
  ];
}

-- another one of a box comes: it has a next one as before
other_counts : (batch : List Turn) (used more : ℕ → ℕ) (next : List ℕ) (who limit : ℕ) → IsMore used more who → CountsEach (command_candidates (left_after used batch)) next limit
    → used who < length (turns_of who batch) → used who + 1 < length (turns_of who batch) → CountsEach (command_candidates (left_after more batch)) next limit
other_counts batch used more next who limit one each some later = record {
  long = each.long;
  counts = λ t below. elim (cases_eq t who) [
    | inl same ↦
        each.counts t below
        ∙ subst (λ (w : ℕ). length (command_candidates (left_after used batch) w) ≡ length (command_candidates (left_after more batch) w)) (sym same)
        (some_next batch used who some ∙ sym (some_next batch more who (let here = one.here in omega arith)))
    | inr apart ↦ each.counts t below ∙ same_next batch used more t (one.others t apart)
  ];
}

-- so, whether it was the last
next_lowered : (last : Bool) (batch : List Turn) (used more : ℕ → ℕ) (next : List ℕ) (who limit have all : ℕ) → (have + 1 == all) ≡ last → have ≡ used who → all ≡ length (turns_of who batch) → have < all
    → IsMore used more who → CountsEach (command_candidates (left_after used batch)) next limit → who < limit
    → CountsEach (command_candidates (left_after more batch)) (if last then set next who (get_or next who 0 - 1) else next) limit
next_lowered true batch used more next who limit have all test is total low one each inside =
    let same : have + 1 ≡ all = same_by (have + 1) all test in
    last_counts batch used more next who limit one each inside (omega arith) (omega arith)
next_lowered false batch used more next who limit have all test is total low one each inside =
    let apart : have + 1 ≢ all = apart_by (have + 1) all test in
    other_counts batch used more next who limit one each (omega arith) (omega arith)

-- as code reads and writes
pub next_dropped : (batch : List Turn) (used next new : List ℕ) (who limit have all : ℕ) → have ≡ used_of used who → all ≡ length (turns_of who batch) → have < all → who < length used
    → CountsEach (command_candidates (left_after (used_of used) batch)) next limit → who < limit → new ≡ (if have + 1 == all then set next who (get_or next who 0 - 1) else next)
    → CountsEach (command_candidates (left_after (used_of (set used who (have + 1))) batch)) new limit
next_dropped batch used next new who limit have all is total low there each inside written =
    subst (λ (counts : List ℕ). CountsEach (command_candidates (left_after (used_of (set used who (have + 1))) batch)) counts limit) (sym written)
    (subst (λ (n : ℕ). CountsEach (command_candidates (left_after (used_of (set used who (n + 1))) batch)) (if have + 1 == all then set next who (get_or next who 0 - 1) else next) limit) (sym is)
    (next_lowered (have + 1 == all) batch (used_of used) (used_of (set used who (used_of used who + 1))) next who limit have all refl is total low (used_more used who there) each inside))

-- at first the next command of a box is its first
pub first_counted : (queues : List (List Turn)) (batch : List Turn) (used : ℕ → ℕ) (counts next : List ℕ) (boxes limit : ℕ) → ((who : ℕ) → queue_at queues who ≡ turns_of who batch) → ((who : ℕ) → used who ≡ 0)
    → CountsEach (first_of queues) counts boxes → next ≡ counts → limit ≡ boxes → CountsEach (command_candidates (left_after used batch)) next limit
first_counted queues batch used counts next boxes limit each none first same long = record {
  long = ap length same ∙ (first.long ∙ sym long);
  counts = λ who below. ap (λ (l : List ℕ). get_or l who 0) same
      ∙ (first.counts who (subst (λ (n : ℕ). who < n) long below)
      ∙ ap (λ (o : Option Turn). length (option_to_list o))
      (ap (λ (queue : List Turn). slice_get queue 0) (each who) ∙ (ap (slice_get (turns_of who batch)) (sym (none who)) ∙ sym (next_is batch used who))));
}

-- ---- the lists of all boxes

-- one more empty list
pub queue_more : (queues : List (Vec Turn Global)) (queue : Vec Turn Global) (n : ℕ) → queues_of queues ≡ replicate n [] → queue.items ≡ [] → queues_of (queues ++ queue ∷ []) ≡ replicate (n + 1) []
queue_more queues queue n before none = rw (map_push (λ (q : Vec Turn Global). q.items) queues queue, before, none) (replicate_more n [])

abbrev no_turns : List Turn
no_turns = []

-- of empty ones each is empty, and none is past the last
pub none_queued : (n who : ℕ) → queue_at (replicate n no_turns) who ≡ no_turns
none_queued zero who = refl
none_queued (suc n) zero = refl
none_queued (suc n) (suc who) = none_queued n who

-- one more command of a box
queue_step : (queues : List (List Turn)) (turn : Turn) (who : ℕ) (turns : List Turn) → turn.who < length queues → queue_at queues who ≡ turns
    → queue_at (set queues turn.who (queue_at queues turn.who ++ turn ∷ [])) who ≡ turns ++ cond (turn.who == who) (turn ∷ []) []
queue_step queues turn who turns inside is = elim (cases_eq who turn.who) [
  | inl same ↦
      subst (λ (w : ℕ). queue_at (set queues turn.who (queue_at queues turn.who ++ turn ∷ [])) w ≡ turns ++ cond (turn.who == w) (turn ∷ []) []) (sym same)
      (get_or-set_same queues turn.who (queue_at queues turn.who ++ turn ∷ []) [] inside
      ∙ (ap (λ (l : List Turn). l ++ turn ∷ []) (subst (λ (w : ℕ). queue_at queues w ≡ turns) same is) ∙ ap (λ (b : Bool). turns ++ cond b (turn ∷ []) []) (sym (test_same turn.who turn.who refl))))
  | inr apart ↦
      get_or-set_other queues turn.who who (queue_at queues turn.who ++ turn ∷ []) [] apart
      ∙ (is ∙ (sym (append-nil turns) ∙ ap (λ (b : Bool). turns ++ cond b (turn ∷ []) []) (sym (test_apart turn.who who (λ same. apart (sym same))))))
]

pub queues_more : (batch : List Turn) (i : ℕ) (d : Turn) (old new : List (List Turn)) → i < length batch → ((d : Turn) → (get_or batch i d).who < length old)
    → new ≡ set old (get_or batch i d).who (queue_at old (get_or batch i d).who ++ get_or batch i d ∷ []) → ((who : ℕ) → queue_at old who ≡ turns_of who (take i batch)) → (who : ℕ)
    → queue_at new who ≡ turns_of who (take (i + 1) batch)
queues_more batch i d old new below inside is each who =
    ap (λ (l : List (List Turn)). queue_at l who) is
    ∙ (queue_step old (get_or batch i d) who (turns_of who (take i batch)) (inside d) (each who) ∙ sym (filter_more (λ (t : Turn). t.who == who) batch i d below))
