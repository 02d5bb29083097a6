-- What one request more does to what an operator has asked.
use Rattle.std.proofs.Common.{◌≡◌, ◌≢◌, ◌⊎◌, inl, inr, ℕ, ◌+◌, ◌==◌, ◌<◌, ◌≤◌, Bool, true, false, if◌then◌else◌, List, [], ◌∷◌, ◌++◌, length, map, take, nat_lt, slice_get, slice_index_or, slice_set, Option, None, Some, refl, sym, ◌∙◌, ap, subst, arith}
use Rattle.std.proofs.lemmas.Bool.{cases_eq, cases_lt, eq-eqb, le-ltb, lt-ltb, ne_eqb}
use Rattle.std.specs.Option.{option_map}
use Rattle.std.proofs.lemmas.List.{append-nil, get_or-set_other, get_or-set_same, length-map, length-set, length-take, map-append, map-set, take_more}
use Rattle.std.proofs.lemmas.List.Elements.{filter-append}
use Rattle.std.proofs.lemmas.List.Sums.{count_by-le-length, length-filter}
use Rattle.std.proofs.lemmas.Option.{get_or_from_slice_get, slice_get-get_or, slice_get-map, slice_get_within}
use Rattle.mc_box.specs.declared.event.Event.{Event}
use Rattle.mc_box.specs.declared.event.Turn.{Turn}
use Rattle.mc_desk.proofs.Callers.{same_after, same_still, still_of}
use Rattle.mc_desk.specs.Desks.{IsOperatorOf, IsSameOperator, accepted_of, next_request, number_of}
use Rattle.mc_desk.specs.declared.desk.Desk.{Desk}
use Rattle.mc_desk.specs.declared.desk.Operator.{Operator}
use Rattle.mc_desk.specs.declared.request.Request.{Request}
use Rattle.mc_desk.specs.declared.limit.TheConstants.{REQUEST_LIMIT}
use Rattle.mc_live.specs.Askers.{HasPasses, IsSameAsker, asked_at, asks_for, turns_for}
use Rattle.mc_live.specs.declared.asker.Asker.{Asker}

-- ---- one desk

-- what was asked next by the same operator, of which nothing was accepted in between
pub asked_once : (a b c : Operator) (event : Option Event) → IsSameOperator a b → accepted_of b ≡ accepted_of a → accepted_of c ≡ accepted_of b ++ next_request b event ∷ [] → accepted_of c ≡ accepted_of a ++ next_request a event ∷ []
asked_once a b c event same kept is =
    is ∙ (ap (λ (l : List Request). l ++ record { operator = number_of b; index = length l; event = event } ∷ []) kept
    ∙ ap (λ (n : ℕ). accepted_of a ++ record { operator = n; index = length (accepted_of a); event = event } ∷ []) same.number)

one_more : (a b : Operator) (event : Option Event) → accepted_of b ≡ accepted_of a ++ next_request a event ∷ [] → map (λ (r : Request). r.event) (accepted_of b) ≡ map (λ (r : Request). r.event) (accepted_of a) ++ event ∷ []
one_more a b event is = ap (map (λ (r : Request). r.event)) is ∙ map-append (λ (r : Request). r.event) (accepted_of a) (next_request a event ∷ [])

-- ---- all desks

-- as `asked_at`, of a list of passes
abbrev asked_in : List Operator → ℕ → List (Option Event)
asked_in passes who = map (λ (r : Request). r.event) (slice_index_or (map accepted_of passes) who [])

slice_get_map : (passes : List Operator) (at : ℕ) (old : Operator) → slice_get passes at ≡ Some old → slice_get (map accepted_of passes) at ≡ Some (accepted_of old)
slice_get_map passes at old there = slice_get-map accepted_of passes at ∙ ap (option_map accepted_of) there

found_in : (passes : List Operator) (at : ℕ) (old : Operator) → slice_get passes at ≡ Some old → slice_index_or (map accepted_of passes) at [] ≡ accepted_of old
found_in passes at old there = get_or_from_slice_get (map accepted_of passes) at (accepted_of old) [] (slice_get_map passes at old there)

asked_here : (passes : List Operator) (at : ℕ) (old new : Operator) (event : Option Event) → slice_get passes at ≡ Some old → accepted_of new ≡ accepted_of old ++ next_request old event ∷ [] → asked_in (slice_set passes at new) at ≡ asked_in passes at ++ event ∷ []
asked_here passes at old new event there is =
    let within : at < length passes = slice_get_within passes at old there in
    let long : at < length (map accepted_of passes) = omega (arith, within, length-map passes accepted_of) in
    let after : slice_index_or (map accepted_of (slice_set passes at new)) at [] ≡ accepted_of new =
    ap (λ (l : List (List Request)). slice_index_or l at []) (map-set accepted_of passes at new) ∙ get_or-set_same (map accepted_of passes) at (accepted_of new) [] long in
    let before : slice_index_or (map accepted_of passes) at [] ≡ accepted_of old = found_in passes at old there in
    ap (map (λ (r : Request). r.event)) after ∙ (one_more old new event is ∙ ap (λ (l : List Request). map (λ (r : Request). r.event) l ++ event ∷ []) (sym before))

asked_there : (passes : List Operator) (at who : ℕ) (new : Operator) → who ≢ at → asked_in (slice_set passes at new) who ≡ asked_in passes who
asked_there passes at who new apart =
    ap (λ (l : List (List Request)). map (λ (r : Request). r.event) (slice_index_or l who [])) (map-set accepted_of passes at new)
    ∙ ap (map (λ (r : Request). r.event)) (get_or-set_other (map accepted_of passes) at who (accepted_of new) [] apart)

asked_by : (passes : List Operator) (at who : ℕ) (old new : Operator) (event : Option Event) → slice_get passes at ≡ Some old → accepted_of new ≡ accepted_of old ++ next_request old event ∷ [] → (who ≡ at) ⊎ (who ≡ at → ⊥)
    → asked_in (slice_set passes at new) who ≡ asked_in passes who ++ (if who == at then event ∷ [] else [])
asked_by passes at who old new event there is (inl same) =
    let yes : (who == at) ≡ true = eq-eqb who at same in
    rw (yes, same) (asked_here passes at old new event there is)
asked_by passes at who old new event there is (inr apart) =
    let no : (who == at) ≡ false = ne_eqb who at apart in
    rw no (asked_there passes at who new apart ∙ sym (append-nil (asked_in passes who)))

-- a pass more was used
pub asked_set : (a b : Asker) (at who : ℕ) (old new : Operator) (event : Option Event) → b.passes.items ≡ slice_set a.passes.items at new → slice_get a.passes.items at ≡ Some old → accepted_of new ≡ accepted_of old ++ next_request old event ∷ []
    → asked_at b who ≡ asked_at a who ++ (if who == at then event ∷ [] else [])
asked_set a b at who old new event set there is =
    ap (λ (l : List Operator). asked_in l who) set ∙ asked_by a.passes.items at who old new event there is (cases_eq who at)

-- ---- the same passes

same_set : (passes : List Operator) (at place : ℕ) (old new other : Operator) → slice_get passes at ≡ Some old → IsSameOperator old new → (place ≡ at) ⊎ (place ≡ at → ⊥) → IsSameOperator (slice_index_or passes place other) (slice_index_or (slice_set passes at new) place other)
same_set passes at place old new other there same (inl is) =
    let within : at < length passes = slice_get_within passes at old there in
    let before : slice_index_or passes at other ≡ old = get_or_from_slice_get passes at old other there in
    let after : slice_index_or (slice_set passes at new) at other ≡ new = get_or-set_same passes at new other within in
    rw (is, before, after) same
same_set passes at place old new other there same (inr apart) =
    rw (get_or-set_other passes at place new other apart) (same_still (slice_index_or passes place other))

pub same_passes : (a b : Asker) (at : ℕ) (old new : Operator) → b.number ≡ a.number → b.passes.items ≡ slice_set a.passes.items at new → slice_get a.passes.items at ≡ Some old → IsSameOperator old new → IsSameAsker a b
same_passes a b at old new number set there same = record {
  number = number;
  count = ap (λ (l : List Operator). length l) set ∙ length-set a.passes.items at new;
  passes = λ place other within. subst (λ (l : List Operator). IsSameOperator (slice_index_or a.passes.items place other) (slice_index_or l place other)) (sym set)
      (same_set a.passes.items at place old new other there same (cases_eq place at));
}

pub same_asker : (a : Asker) → IsSameAsker a a
same_asker a = record { number = refl; count = refl; passes = λ place other within. same_still (slice_index_or a.passes.items place other) }

pub asker_after : (a b c : Asker) → IsSameAsker a b → IsSameAsker b c → IsSameAsker a c
asker_after a b c one two = record {
  number = two.number ∙ one.number;
  count = two.count ∙ one.count;
  passes = λ place other within.
      let long = one.count in
      same_after (slice_index_or a.passes.items place other) (slice_index_or b.passes.items place other) (slice_index_or c.passes.items place other) (one.passes place other within) (two.passes place other (omega (arith, within, long)));
}

within_old : (a b : Asker) (who : ℕ) (pass : Operator) → IsSameAsker a b → slice_get b.passes.items who ≡ Some pass → who < length a.passes.items
within_old a b who pass same is = let long = same.count in let within = slice_get_within b.passes.items who pass is in omega (arith, long, within)

before_at : (a b : Asker) (who : ℕ) (pass : Operator) → IsSameAsker a b → slice_get b.passes.items who ≡ Some pass → slice_get a.passes.items who ≡ Some (slice_index_or a.passes.items who pass)
before_at a b who pass same is = slice_get-get_or a.passes.items who pass (within_old a b who pass same is)

stayed : (a b : Asker) (who : ℕ) (pass : Operator) → IsSameAsker a b → slice_get b.passes.items who ≡ Some pass → IsSameOperator (slice_index_or a.passes.items who pass) pass
stayed a b who pass same is =
    subst (λ (p : Operator). IsSameOperator (slice_index_or a.passes.items who pass) p) (get_or_from_slice_get b.passes.items who pass pass is)
    (same.passes who pass (within_old a b who pass same is))

-- what holds of passes holds of the same ones
pub passes_stay : (desks : List Desk) (a b : Asker) → IsSameAsker a b → HasPasses desks a → HasPasses desks b
passes_stay desks a b same has = record {
  count = same.count ∙ has.count;
  each = λ who desk pass at is.
      let old = slice_index_or a.passes.items who pass in
      let there = before_at a b who pass same is in
      still_of desk old pass (stayed a b who pass same is) (has.each who desk old at there);
  numbers = λ who pass is.
      let old = slice_index_or a.passes.items who pass in
      (stayed a b who pass same is).number ∙ (has.numbers who old (before_at a b who pass same is) ∙ sym same.number);
}

-- ---- hands

one_turn : (who : ℕ) (turn : Turn) → (who ≡ turn.who) ⊎ (who ≡ turn.who → ⊥) → asks_for who (turn ∷ []) ≡ (if who == turn.who then Some turn.event ∷ [] else [])
one_turn who turn (inl same) =
    let yes : (who == turn.who) ≡ true = eq-eqb who turn.who same in
    let back : (turn.who == who) ≡ true = eq-eqb turn.who who (sym same) in
    rw (yes, back) refl
one_turn who turn (inr apart) =
    let no : (who == turn.who) ≡ false = ne_eqb who turn.who apart in
    let back : (turn.who == who) ≡ false = ne_eqb turn.who who (λ same. apart (sym same)) in
    rw (no, back) refl

-- what is asked of a box for one turn more
pub asks_more : (who : ℕ) (hand : List Turn) (turn : Turn) → asks_for who (hand ++ turn ∷ []) ≡ asks_for who hand ++ (if who == turn.who then Some turn.event ∷ [] else [])
asks_more who hand turn =
    ap (map (λ (t : Turn). Some t.event)) (filter-append (λ (t : Turn). t.who == who) hand (turn ∷ []))
    ∙ (map-append (λ (t : Turn). Some t.event) (turns_for who hand) (turns_for who (turn ∷ []))
    ∙ ap (λ (l : List (Option Event)). asks_for who hand ++ l) (one_turn who turn (cases_eq who turn.who)))

-- and of a front of a hand
pub asks_taken : (who : ℕ) (hand : List Turn) (i : ℕ) (d : Turn) → i < length hand → asks_for who (take (i + 1) hand) ≡ asks_for who (take i hand) ++ (if who == (slice_index_or hand i d).who then Some (slice_index_or hand i d).event ∷ [] else [])
asks_taken who hand i d below = ap (asks_for who) (take_more hand i d below) ∙ asks_more who (take i hand) (slice_index_or hand i d)

-- a front of a hand asks for less than an operator may ask for
pub asks_few : (who : ℕ) (hand : List Turn) → length (asks_for who hand) ≤ length hand
asks_few who hand =
    let one = length-map (turns_for who hand) (λ (t : Turn). Some t.event) in
    let two = length-filter (λ (t : Turn). t.who == who) hand in
    let few = count_by-le-length (λ (t : Turn). t.who == who) hand in
    omega (arith, one, two, few)

-- so one more may be asked for
pub asks_fit : (who : ℕ) (hand : List Turn) (i : ℕ) (asked : List (Option Event)) → i < length hand → length hand < REQUEST_LIMIT → asked ≡ asks_for who (take i hand) → length asked < REQUEST_LIMIT
asks_fit who hand i asked below few is =
    let same : length asked ≡ length (asks_for who (take i hand)) = ap (λ (l : List (Option Event)). length l) is in
    let less = asks_few who (take i hand) in
    let front = length-take i hand in
    omega (arith, same, less, front, few, below)

-- ---- ends

-- an operator has ended at the boxes below a number
abbrev pub ends_below : ℕ → ℕ → List (Option Event)
ends_below who count = if nat_lt who count then None ∷ [] else []

pub ends_fit : (who : ℕ) (hand : List Turn) (asked : List (Option Event)) → length hand < REQUEST_LIMIT → asked ≡ asks_for who hand ++ ends_below who who → length asked < REQUEST_LIMIT
ends_fit who hand asked few is =
    let none : ends_below who who ≡ [] = ap (λ (t : Bool). if t then None ∷ [] else []) (le-ltb who who (omega arith)) in
    let same : asked ≡ asks_for who hand = is ∙ (ap (λ (l : List (Option Event)). asks_for who hand ++ l) none ∙ append-nil (asks_for who hand)) in
    let long : length asked ≡ length (asks_for who hand) = ap (λ (l : List (Option Event)). length l) same in
    let less = asks_few who hand in
    omega (arith, long, less, few)

ends_by : (who count : ℕ) → (who ≡ count) ⊎ (who ≡ count → ⊥) → (who < count) ⊎ (count ≤ who) → ends_below who count ++ (if who == count then None ∷ [] else []) ≡ ends_below who (count + 1)
ends_by who count (inl same) past =
    let no : nat_lt who count ≡ false = le-ltb who count (omega (arith, same)) in
    let yes : (who == count) ≡ true = eq-eqb who count same in
    let next : nat_lt who (count + 1) ≡ true = lt-ltb who (count + 1) (omega (arith, same)) in
    rw (no, yes, next) refl
ends_by who count (inr apart) (inl below) =
    let yes : nat_lt who count ≡ true = lt-ltb who count below in
    let no : (who == count) ≡ false = ne_eqb who count apart in
    let next : nat_lt who (count + 1) ≡ true = lt-ltb who (count + 1) (omega (arith, below)) in
    rw (yes, no, next) refl
ends_by who count (inr apart) (inr past) =
    let not : nat_lt who count ≡ false = le-ltb who count past in
    let no : (who == count) ≡ false = ne_eqb who count apart in
    let other : who ≢ count = apart in
    let next : nat_lt who (count + 1) ≡ false = le-ltb who (count + 1) (omega (arith, past, other)) in
    rw (not, no, next) refl

-- with one box more
pub ends_more : (who count : ℕ) → ends_below who count ++ (if who == count then None ∷ [] else []) ≡ ends_below who (count + 1)
ends_more who count = ends_by who count (cases_eq who count) (cases_lt who count)

pub ends_none : (who : ℕ) (hand : List Turn) → asks_for who hand ≡ asks_for who hand ++ ends_below who 0
ends_none who hand = sym (append-nil (asks_for who hand)) ∙ ap (λ (t : Bool). asks_for who hand ++ (if t then None ∷ [] else [])) (sym (le-ltb who 0 (omega arith)))

pub ends_all : (who count : ℕ) (hand : List Turn) → who < count → asks_for who hand ++ ends_below who count ≡ asks_for who hand ++ None ∷ []
ends_all who count hand below = ap (λ (t : Bool). asks_for who hand ++ (if t then None ∷ [] else [])) (lt-ltb who count below)

-- ---- a pass of a box

pub pass_there : (desks : List Desk) (asker : Asker) (at : ℕ) (pass : Operator) → HasPasses desks asker → at < length desks → pass ≡ slice_index_or asker.passes.items at pass → slice_get asker.passes.items at ≡ Some pass
pass_there desks asker at pass has below is =
    let long = has.count in
    slice_get-get_or asker.passes.items at pass (omega (arith, long, below)) ∙ ap (λ (p : Operator). Some p) (sym is)

pub pass_of : (desks : List Desk) (asker : Asker) (at : ℕ) (desk : Desk) (pass : Operator) → HasPasses desks asker → at < length desks → desk ≡ slice_index_or desks at desk → pass ≡ slice_index_or asker.passes.items at pass → IsOperatorOf desk pass
pass_of desks asker at desk pass has below desk_is pass_is =
    has.each at desk pass (slice_get-get_or desks at desk below ∙ ap (λ (d : Desk). Some d) (sym desk_is)) (pass_there desks asker at pass has below pass_is)

-- as many as are asked of it are accepted there
pub accepted_few : (asker : Asker) (at : ℕ) (pass : Operator) → slice_get asker.passes.items at ≡ Some pass → length (asked_at asker at) < REQUEST_LIMIT → length (accepted_of pass) < REQUEST_LIMIT
accepted_few asker at pass there few =
    let found : slice_index_or (map accepted_of asker.passes.items) at [] ≡ accepted_of pass = found_in asker.passes.items at pass there in
    let long = length-map (slice_index_or (map accepted_of asker.passes.items) at []) (λ (r : Request). r.event) in
    let same : length (slice_index_or (map accepted_of asker.passes.items) at []) ≡ length (accepted_of pass) = ap (λ (l : List Request). length l) found in
    omega (arith, long, same, few)
