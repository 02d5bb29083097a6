-- A program that numbers say fits the slots that they say.
use Rattle.std.proofs.Common.{◌≡◌, ◌≢◌, ◌<◌, ◌≤◌, ◌==◌, ◌&&◌, ℕ, zero, suc, min, Bool, true, false, not, if◌then◌else◌, List, [], ◌∷◌, length, map, take, nat_le, nat_lt, slice_index_or, Option, Some, None, inl, inr, refl, sym, ap, ◌∙◌, subst, arith}
use Rattle.std.specs.List.{AllByRecursion, list_all, slice_get}
use Rattle.std.specs.Option.{option_map}
use Rattle.std.specs.Prelude.{All}
use Rattle.std.proofs.lemmas.Bool.{cases_eq, cases_lt}
use Rattle.std.proofs.lemmas.List.{length-map, length-take}
use Rattle.std.proofs.lemmas.List.Elements.{All-from_recursion}
use Rattle.std.proofs.lemmas.Option.{slice_get-map, slice_get_past, slice_get_within}
use Rattle.mc_slot.specs.declared.Goal.TheVariants.{Close as ToClose}
use Rattle.mc_slot.specs.declared.SlotGoal.{SlotGoal}
use Rattle.mc_slot.specs.declared.SlotGoal.TheVariants.{End, Link}
use Rattle.mc_rule.specs.Programs.{IsMutual, IsProgram, IsState, NamesSlot}
use Rattle.mc_rule.specs.declared.Rule.{Rule}
use Rattle.mc_box.specs.Boxes.{FitsSlots, first_slot, goals_in, no_slot}
use Rattle.mc_box.specs.declared.event.Kind.TheVariants.{Feature}
use Rattle.mc_plain.specs.Asked.{kind_of, setup_of}
use Rattle.mc_plain.specs.Numbers.{medium_of}
use Rattle.mc_plain.specs.Programs.{are_goals, each_below, end_goal_of, goals_named, guard_of, has_medium, is_goal_at, is_goal_of, is_partner, is_program, is_rule, is_state, links_to, rule_of, rules_named, slot_goal_of, state_of, states_of}
use Rattle.mc_plain.specs.declared.asked.PlainSlot.{PlainSlot}
use Rattle.mc_plain.specs.declared.program.PlainGoal.{PlainGoal}
use Rattle.mc_plain.specs.declared.program.PlainRule.{PlainRule}
use Rattle.mc_plain.specs.declared.program.PlainState.{PlainState}

pub both : (x y : Bool) → (x && y) ≡ true → (x ≡ true) × (y ≡ true)
both true true e = (refl, refl)
both true false e = absurd cc
both false y e = absurd cc

-- ---- every number below a count

pub each_at : (count : ℕ) (test : ℕ → Bool) → each_below count test ≡ true → (k : ℕ) → k < count → test k ≡ true
each_at zero test all k within = absurd (omega arith)
each_at (suc count) test all k within =
    let parts : (each_below count test ≡ true) × (test count ≡ true) = both (each_below count test) (test count) all in
    elim (cases_eq k count) [
      | inl same ↦ subst (λ (n : ℕ). test n ≡ true) (sym same) parts.1
      | inr apart ↦ each_at count test parts.0 k (omega arith)
    ]

and_false : (x y : Bool) → y ≡ false → (x && y) ≡ false
and_false true y e = e
and_false false y e = refl

false_and : (x y : Bool) → x ≡ false → (x && y) ≡ false
false_and false y e = refl
false_and true y e = absurd cc

-- one that doesn't pass
pub each_not : (count : ℕ) (test : ℕ → Bool) (k : ℕ) → k < count → test k ≡ false → each_below count test ≡ false
each_not zero test k within fails = absurd (omega arith)
each_not (suc count) test k within fails =
    elim (cases_eq k count) [
      | inl same ↦ and_false (each_below count test) (test count) (subst (λ (n : ℕ). test n ≡ false) same fails)
      | inr apart ↦ false_and (each_below count test) (test count) (each_not count test k (omega arith) fails)
    ]

-- ---- the goals of a state

-- what stands at a slot that is to be linked
record IsLinkedAt (slots : List PlainSlot) (goals : List PlainGoal) (local partner : ℕ) : Type 0 where
  pub slot : PlainSlot
  pub here : slice_get slots local ≡ Some slot
  pub other : partner ≢ local
  pub there : has_medium slot.medium (slice_get slots partner) ≡ true
  pub back : links_to local (slice_get goals partner) ≡ true

not_same : (a b : ℕ) → not (a == b) ≡ true → a ≢ b
not_same a b e = λ same. grind arith

same_by : (a b : ℕ) → (a == b) ≡ true → a ≡ b
same_by a b e = grind arith

linked_if : (b : Bool) (partner other : ℕ) (number : ℕ) → (if b then Link partner else End (end_goal_of number)) ≡ Link other → (b ≡ true) × (partner ≡ other)
linked_if true partner other number e = (refl, cc)
linked_if false partner other number e = absurd cc

linked_by : (slots : List PlainSlot) (goals : List PlainGoal) (local partner : ℕ) (slot : Option PlainSlot) (goal : Option PlainGoal) → slice_get slots local ≡ slot
    → is_goal_of slots goals local slot goal ≡ true → option_map slot_goal_of goal ≡ Some (Link partner) → IsLinkedAt slots goals local partner
linked_by slots goals local partner None goal here good is = absurd cc
linked_by slots goals local partner (Some slot) None here good is = absurd cc
linked_by slots goals local partner (Some slot) (Some goal) here good is =
    let link : slot_goal_of goal ≡ Link partner = cc in
    let tests : ((goal.goal == 3) ≡ true) × (goal.partner ≡ partner) = linked_if (goal.goal == 3) goal.partner partner goal.goal link in
    let found : is_partner slots goals local slot.medium goal.partner ≡ true = subst (λ (b : Bool). (if b then is_partner slots goals local slot.medium goal.partner else nat_lt goal.goal 3) ≡ true) tests.0 good in
    let at : is_partner slots goals local slot.medium partner ≡ true = subst (λ (n : ℕ). is_partner slots goals local slot.medium n ≡ true) tests.1 found in
    let rest = both (not (partner == local) && has_medium slot.medium (slice_get slots partner)) (links_to local (slice_get goals partner)) at in
    let first = both (not (partner == local)) (has_medium slot.medium (slice_get slots partner)) rest.0 in
    record {
      slot = slot;
      here = here;
      other = not_same partner local first.0;
      there = first.1;
      back = rest.1;
    }

linked : (slots : List PlainSlot) (goals : List PlainGoal) → are_goals slots goals ≡ true → (local partner : ℕ) → local < length slots
    → option_map slot_goal_of (slice_get goals local) ≡ Some (Link partner) → IsLinkedAt slots goals local partner
linked slots goals all local partner within is =
    linked_by slots goals local partner (slice_get slots local) (slice_get goals local) refl (each_at (length slots) (is_goal_at slots goals) all local within) is

links_back : (local : ℕ) (goal : Option PlainGoal) → links_to local goal ≡ true → option_map slot_goal_of goal ≡ Some (Link local)
links_back local None e = absurd cc
links_back local (Some goal) e =
    let parts = both (goal.goal == 3) (goal.partner == local) e in
    let same : goal.partner ≡ local = same_by goal.partner local parts.1 in
    ap (λ (g : SlotGoal). Some g) (subst (λ (b : Bool). (if b then Link goal.partner else End (end_goal_of goal.goal)) ≡ Link local) (sym parts.0) (ap (λ (n : ℕ). Link n) same))

no_goal : (slots : List PlainSlot) (goals : List PlainGoal) (local : ℕ) (slot : Option PlainSlot) → is_goal_of slots goals local slot None ≡ false
no_goal slots goals local None = refl
no_goal slots goals local (Some slot) = refl

-- there is a goal for each slot
as_long : (slots : List PlainSlot) (goals : List PlainGoal) → are_goals slots goals ≡ true → length slots ≤ length goals
as_long slots goals all = elim (cases_lt (length goals) (length slots)) [
  | inl short ↦
      let good : is_goal_of slots goals (length goals) (slice_get slots (length goals)) (slice_get goals (length goals)) ≡ true = each_at (length slots) (is_goal_at slots goals) all (length goals) short in
      let past : slice_get goals (length goals) ≡ None = slice_get_past goals (length goals) (omega arith) in
      let bad : is_goal_of slots goals (length goals) (slice_get slots (length goals)) None ≡ true = subst (λ (g : Option PlainGoal). is_goal_of slots goals (length goals) (slice_get slots (length goals)) g ≡ true) past good in
      let none : is_goal_of slots goals (length goals) (slice_get slots (length goals)) None ≡ false = no_goal slots goals (length goals) (slice_get slots (length goals)) in
      absurd cc
  | inr long ↦ long
]

mutual_by : (slots : List PlainSlot) (goals : List PlainGoal) → are_goals slots goals ≡ true → (local : ℕ) → local < length slots → (goal : SlotGoal)
    → slice_get (map slot_goal_of goals) local ≡ Some goal → IsMutual (map slot_goal_of goals) local goal
mutual_by slots goals all local within (End goal) is = tt
mutual_by slots goals all local within (Link partner) is =
    let link : IsLinkedAt slots goals local partner = linked slots goals all local partner within (sym (slice_get-map slot_goal_of goals local) ∙ is) in
    (link.other, slice_get-map slot_goal_of goals partner ∙ links_back local (slice_get goals partner) link.back)

-- ---- the transitions of a state

named_slot : (slots : ℕ) (b : Bool) (plain : PlainRule) → (plain.guard == 0) ≡ b → (if b then nat_lt plain.first slots && nat_lt plain.second 5 else plain.guard == 1) ≡ true
    → NamesSlot slots (guard_of plain)
named_slot slots true plain is good =
    let first : nat_lt plain.first slots ≡ true = (both (nat_lt plain.first slots) (nat_lt plain.second 5) good).0 in
    let less : plain.first < slots = grind arith in
    rw is less
named_slot slots false plain is good = rw is tt

rule_parts : (slots states : ℕ) (plain : PlainRule) → is_rule slots states plain ≡ true
    → (nat_lt plain.target states ≡ true) × ((if plain.guard == 0 then nat_lt plain.first slots && nat_lt plain.second 5 else plain.guard == 1) ≡ true)
rule_parts slots states plain good = both (nat_lt plain.target states) (if plain.guard == 0 then nat_lt plain.first slots && nat_lt plain.second 5 else plain.guard == 1) good

targets : (slots states : ℕ) (rules : List PlainRule) → list_all (is_rule slots states) rules ≡ true → AllByRecursion (λ (rule : Rule). rule.target < states) (map rule_of rules)
targets slots states [] all = tt
targets slots states (rule ∷ rules) all =
    let parts = both (is_rule slots states rule) (list_all (is_rule slots states) rules) all in
    let target : nat_lt rule.target states ≡ true = (rule_parts slots states rule parts.0).0 in
    let less : rule.target < states = grind arith in
    (less, targets slots states rules parts.1)

guards : (slots states : ℕ) (rules : List PlainRule) → list_all (is_rule slots states) rules ≡ true → AllByRecursion (λ (rule : Rule). NamesSlot slots rule.guard) (map rule_of rules)
guards slots states [] all = tt
guards slots states (rule ∷ rules) all =
    let parts = both (is_rule slots states rule) (list_all (is_rule slots states) rules) all in
    let guard = (rule_parts slots states rule parts.0).1 in
    (named_slot slots (rule.guard == 0) rule refl guard, guards slots states rules parts.1)

-- ---- a state

goals_count : (slots : List PlainSlot) (plain : PlainState) → are_goals slots (goals_named (length slots) plain) ≡ true → length (map slot_goal_of (goals_named (length slots) plain)) ≡ length slots
goals_count slots plain all =
    let long : length slots ≤ length (goals_named (length slots) plain) = as_long slots (goals_named (length slots) plain) all in
    let short : length (goals_named (length slots) plain) ≡ min (length slots) (length plain.goals) = length-take (length slots) plain.goals in
    length-map (goals_named (length slots) plain) slot_goal_of ∙ grind arith

-- what a state that is said has
record HasParts (slots : List PlainSlot) (states : ℕ) (plain : PlainState) : Type 0 where
  pub few : plain.count ≤ 16
  pub goals : are_goals slots (goals_named (length slots) plain) ≡ true
  pub rules : list_all (is_rule (length slots) states) (rules_named plain) ≡ true

at_most : (a b : ℕ) → nat_le a b ≡ true → a ≤ b
at_most a b e = grind arith

state_parts : (slots : List PlainSlot) (states : ℕ) (plain : PlainState) → is_state slots states plain ≡ true → HasParts slots states plain
state_parts slots states plain good =
    let last = both (nat_le plain.count 16 && are_goals slots (goals_named (length slots) plain)) (list_all (is_rule (length slots) states) (rules_named plain)) good in
    let first = both (nat_le plain.count 16) (are_goals slots (goals_named (length slots) plain)) last.0 in
    record { few = at_most plain.count 16 first.0; goals = first.1; rules = last.1 }

by_count : (count long made : ℕ) → count ≤ 16 → made ≡ min count long → made ≤ 16
by_count count long made few is = grind arith

a_state : (slots : List PlainSlot) (states : ℕ) (plain : PlainState) → is_state slots states plain ≡ true → IsState (length slots) states (state_of (length slots) plain)
a_state slots states plain good =
    let rest = state_parts slots states plain good in
    let few : length (take plain.count plain.rules) ≡ min plain.count (length plain.rules) = length-take plain.count plain.rules in
    let counted : length (map rule_of (rules_named plain)) ≡ length (rules_named plain) = length-map (rules_named plain) rule_of in
    record {
      goals = goals_count slots plain rest.goals;
      links = λ local goal is.
          let inside : local < length (map slot_goal_of (goals_named (length slots) plain)) = slice_get_within (map slot_goal_of (goals_named (length slots) plain)) local goal is in
          mutual_by slots (goals_named (length slots) plain) rest.goals local (subst (λ (m : ℕ). local < m) (goals_count slots plain rest.goals) inside) goal is;
      few = by_count plain.count (length plain.rules) (length (map rule_of (rules_named plain))) rest.few (counted ∙ few);
      targets = All-from_recursion (λ (rule : Rule). rule.target < states) (map rule_of (rules_named plain)) (targets (length slots) states (rules_named plain) rest.rules);
      guards = All-from_recursion (λ (rule : Rule). NamesSlot (length slots) rule.guard) (map rule_of (rules_named plain)) (guards (length slots) states (rules_named plain) rest.rules);
    }

all_states : (slots : List PlainSlot) (states : ℕ) (plains : List PlainState) → list_all (is_state slots states) plains ≡ true → AllByRecursion (IsState (length slots) states) (states_of (length slots) plains)
all_states slots states [] all = tt
all_states slots states (plain ∷ plains) all =
    let parts = both (is_state slots states plain) (list_all (is_state slots states) plains) all in
    (a_state slots states plain parts.0, all_states slots states plains parts.1)

-- ---- a program

-- what a program that is said has
record HasStates (kind : ℕ) (slots : List PlainSlot) (plains : List PlainState) : Type 0 where
  pub feature : (kind == 1) ≡ true
  pub few : length plains ≤ 64
  pub states : list_all (is_state slots (length plains)) plains ≡ true

program_parts : (kind : ℕ) (slots : List PlainSlot) (plain : PlainState) (plains : List PlainState) → is_program kind slots (plain ∷ plains) ≡ true → HasStates kind slots (plain ∷ plains)
program_parts kind slots plain plains good =
    let last = both (kind == 1 && nat_le (length (plain ∷ plains)) 64) (list_all (is_state slots (length (plain ∷ plains))) (plain ∷ plains)) good in
    let first = both (kind == 1) (nat_le (length (plain ∷ plains)) 64) last.0 in
    record { feature = first.0; few = at_most (length (plain ∷ plains)) 64 first.1; states = last.1 }

a_program : (slots : List PlainSlot) (plains : List PlainState) → 0 < length plains → length plains ≤ 64 → list_all (is_state slots (length plains)) plains ≡ true → IsProgram (states_of (length slots) plains)
a_program slots plains some few all =
    let count : length (states_of (length slots) plains) ≡ length plains = length-map plains (state_of (length slots)) in
    record {
      some = subst (λ (n : ℕ). 0 < n) (sym count) some;
      few = subst (λ (n : ℕ). n ≤ 64) (sym count) few;
      slots = length slots;
      each = subst (λ (n : ℕ). All (IsState (length slots) n) (states_of (length slots) plains)) (sym count) (All-from_recursion (IsState (length slots) (length plains)) (states_of (length slots) plains) (all_states slots (length plains) plains all));
    }

goals_at : (slots : List PlainSlot) (states : ℕ) (plains : List PlainState) → list_all (is_state slots states) plains ≡ true → (at : ℕ) → at < length plains → length (goals_in (states_of (length slots) plains) at) ≡ length slots
goals_at slots states [] all at within = absurd (omega arith)
goals_at slots states (plain ∷ plains) all zero within =
    let parts = both (is_state slots states plain) (list_all (is_state slots states) plains) all in
    (a_state slots states plain parts.0).goals
goals_at slots states (plain ∷ plains) all (suc at) within = goals_at slots states plains (both (is_state slots states plain) (list_all (is_state slots states) plains) all).1 at (omega arith)

-- a link that is read with a goal for what isn't there
link_there : (goals : List PlainGoal) (local partner : ℕ) → slice_index_or (map slot_goal_of goals) local (End ToClose) ≡ Link partner → option_map slot_goal_of (slice_get goals local) ≡ Some (Link partner)
link_there [] local partner is = absurd cc
link_there (goal ∷ goals) zero partner is = ap (λ (g : SlotGoal). Some g) is
link_there (goal ∷ goals) (suc local) partner is = link_there goals local partner is

link_within : (goals : List PlainGoal) (local partner : ℕ) → option_map slot_goal_of (slice_get goals local) ≡ Some (Link partner) → local < length goals
link_within [] local partner is = absurd cc
link_within (goal ∷ goals) zero partner is = omega arith
link_within (goal ∷ goals) (suc local) partner is = let less : local < length goals = link_within goals local partner is in omega arith

medium_there : (slots : List PlainSlot) (k medium : ℕ) → has_medium medium (slice_get slots k) ≡ true → (slice_index_or (map first_slot (map setup_of slots)) k no_slot).medium ≡ medium_of medium
medium_there [] k medium is = absurd cc
medium_there (slot ∷ slots) zero medium is = ap (λ (n : ℕ). medium_of n) (same_by slot.medium medium is)
medium_there (slot ∷ slots) (suc k) medium is = medium_there slots k medium is

medium_here : (slots : List PlainSlot) (k : ℕ) (slot : PlainSlot) → slice_get slots k ≡ Some slot → has_medium slot.medium (slice_get slots k) ≡ true
medium_here slots k slot is = rw is (grind arith)

media_at : (slots : List PlainSlot) (states : ℕ) (plains : List PlainState) → list_all (is_state slots states) plains ≡ true → (at local partner : ℕ) → slice_index_or (goals_in (states_of (length slots) plains) at) local (End ToClose) ≡ Link partner
    → (slice_index_or (map first_slot (map setup_of slots)) partner no_slot).medium ≡ (slice_index_or (map first_slot (map setup_of slots)) local no_slot).medium
media_at slots states [] all at local partner is = absurd cc
media_at slots states (plain ∷ plains) all zero local partner is =
    let parts = both (is_state slots states plain) (list_all (is_state slots states) plains) all in
    let good = (state_parts slots states plain parts.0).goals in
    let there : option_map slot_goal_of (slice_get (goals_named (length slots) plain) local) ≡ Some (Link partner) = link_there (goals_named (length slots) plain) local partner is in
    let inside : local < length (goals_named (length slots) plain) = link_within (goals_named (length slots) plain) local partner there in
    let count : length (goals_named (length slots) plain) ≡ min (length slots) (length plain.goals) = length-take (length slots) plain.goals in
    let link : IsLinkedAt slots (goals_named (length slots) plain) local partner = linked slots (goals_named (length slots) plain) good local partner (grind arith) there in
    medium_there slots partner link.slot.medium link.there ∙ sym (medium_there slots local link.slot.medium (medium_here slots local link.slot link.here))
media_at slots states (plain ∷ plains) all (suc at) local partner is = media_at slots states plains (both (is_state slots states plain) (list_all (is_state slots states) plains) all).1 at local partner is

feature_by : (kind : ℕ) → (kind == 1) ≡ true → kind_of kind ≡ Feature
feature_by kind is = let one : kind ≡ 1 = same_by kind 1 is in rw one refl

-- the states of a program that is said fit the slots
pub states_fit : (kind : ℕ) (slots : List PlainSlot) (plain : PlainState) (plains : List PlainState) → is_program kind slots (plain ∷ plains) ≡ true
    → FitsSlots (kind_of kind) (map first_slot (map setup_of slots)) (states_of (length slots) (plain ∷ plains))
states_fit kind slots plain plains good =
    let parts = program_parts kind slots plain plains good in
    let count : length (states_of (length slots) (plain ∷ plains)) ≡ length (plain ∷ plains) = length-map (plain ∷ plains) (state_of (length slots)) in
    let as_many : length (map first_slot (map setup_of slots)) ≡ length slots = length-map (map setup_of slots) first_slot ∙ length-map slots setup_of in
    record {
      feature = feature_by kind parts.feature;
      program = a_program slots (plain ∷ plains) (omega arith) parts.few parts.states;
      goals = λ at within. goals_at slots (length (plain ∷ plains)) (plain ∷ plains) parts.states at (subst (λ (n : ℕ). at < n) count within) ∙ sym as_many;
      media = λ at local partner is. media_at slots (length (plain ∷ plains)) (plain ∷ plains) parts.states at local partner is;
    }

-- where there are states, a program is said by them all
pub some_program : (kind : ℕ) (slots : List PlainSlot) (plains : List PlainState) → length plains ≢ 0 → is_program kind slots plains ≡ true → FitsSlots (kind_of kind) (map first_slot (map setup_of slots)) (states_of (length slots) plains)
some_program kind slots [] some good = absurd (some refl)
some_program kind slots (plain ∷ plains) some good = states_fit kind slots plain plains good
