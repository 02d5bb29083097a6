-- The turns of a run are of boxes that are there.
use Rattle.std.proofs.Common.{◌≡◌, ◌<◌, ◌≤◌, ◌+◌, ◌==◌, ◌&&◌, ◌||◌, cond, if◌then◌else◌, nat_lt, ℕ, Bool, true, false, List, [], ◌∷◌, length, count_by, Option, Some, None, refl, subst, arith}
use Rattle.std.specs.List.{list_all}
use Rattle.std.proofs.lemmas.Bool.{and_from, and_parts, eq-eqb}
use Rattle.std.proofs.lemmas.Grind.{common_steps}
use Rattle.std.proofs.lemmas.List.Sums.{sum_by-cons}
use Rattle.mc_box.specs.BoxEvents.{is_command, is_shift}
use Rattle.mc_box.specs.declared.event.Turn.{Turn}
use Rattle.mc_box.proofs.Options.{then_some}
use Rattle.mc_laws.proofs.ShapesKept.{step_keeps_shape}
use Rattle.mc_laws.proofs.StepKeeps.{step_keeps_sound}
use Rattle.mc_model.specs.Settles.{commands_of, is_shift_of}
use Rattle.mc_model.specs.Sound.{IsSound}
use Rattle.mc_model.specs.Steps.{run, step, step_by}
use Rattle.mc_model.specs.Worlds.{WorldState}
use Rattle.mc_rounds.specs.Playing.{some_shift}

-- the boxes of these turns are among so many
abbrev pub are_below : ℕ → List Turn → Bool
are_below count turns = list_all (λ turn. nat_lt turn.who count) turns

-- a step is one of a box that is there
step_below : (below : Bool) (made : Option WorldState) (next : WorldState)
    → (if below then made else None) ≡ Some next → below ≡ true
step_below true made next is = refl
step_below false made next is = absurd cc

-- so each turn of a run is
pub run_below : (turns : List Turn) (world last : WorldState) → IsSound world → run world turns ≡ Some last
    → are_below (length world.boxes) turns ≡ true
run_below [] world last sound goes = refl
run_below (turn ∷ turns) world last sound goes =
    let one = then_some (λ (w : WorldState). run w turns) (step world turn) last goes in
    let shape = step_keeps_shape world one.0 turn sound one.1 in
    let later = run_below turns one.0 last (step_keeps_sound world one.0 turn sound one.1) one.2 in
    and_from (nat_lt turn.who (length world.boxes)) (are_below (length world.boxes) turns)
    (step_below (nat_lt turn.who (length world.boxes)) (step_by world turn.who turn.event) one.0 one.1)
    (subst (λ (n : ℕ). are_below n turns ≡ true) shape.boxes later)

-- a test of numbers
below_is : (a b : ℕ) → nat_lt a b ≡ true → a < b
below_is a b is = grind (arith, common_steps)

same_is : (a b : ℕ) → (a == b) ≡ true → a ≡ b
same_is a b is = grind (arith, common_steps)

-- ---- Shifts

-- a box that has a Shift among turns
pub record SomeShift (count : ℕ) (turns : List Turn) : Type 0 where
  pub who : ℕ
  pub inside : who < count
  pub some : 1 ≤ count_by (is_shift_of who) turns

-- a turn of the kind counts as one
one_there : (b : Bool) (n m : ℕ) → b ≡ true → n ≡ cond b 1 0 + m → 1 ≤ n
one_there true n m is sum = omega arith
one_there false n m is sum = absurd cc

-- and one that was counted stays so after another turn
one_more : (b : Bool) (n m : ℕ) → n ≡ cond b 1 0 + m → 1 ≤ m → 1 ≤ n
one_more true n m sum some = omega arith
one_more false n m sum some = omega arith

-- a Shift is the first of the turns, or among the others
shift_by : (shift : Bool) (count : ℕ) (turn : Turn) (turns : List Turn) → is_shift turn.event ≡ shift
    → nat_lt turn.who count ≡ true → (some_shift turns ≡ true → SomeShift count turns)
    → (shift || some_shift turns) ≡ true → SomeShift count (turn ∷ turns)
shift_by true count turn turns is below later some = record {
  who = turn.who;
  inside = below_is turn.who count below;
  some = one_there (is_shift_of turn.who turn) (count_by (is_shift_of turn.who) (turn ∷ turns))
      (count_by (is_shift_of turn.who) turns) (rw (is, eq-eqb turn.who turn.who refl) refl)
      (sum_by-cons (λ (t : Turn). cond (is_shift_of turn.who t) 1 0) turn turns);
}
shift_by false count turn turns is below later some =
    let next = later some in
    record {
      who = next.who;
      inside = next.inside;
      some = one_more (is_shift_of next.who turn) (count_by (is_shift_of next.who) (turn ∷ turns))
          (count_by (is_shift_of next.who) turns)
          (sum_by-cons (λ (t : Turn). cond (is_shift_of next.who t) 1 0) turn turns) next.some;
    }

-- so where there is a Shift a box made it
pub shift_there : (count : ℕ) (turns : List Turn) → are_below count turns ≡ true → some_shift turns ≡ true
    → SomeShift count turns
shift_there count [] below some = absurd cc
shift_there count (turn ∷ turns) below some =
    let parts = and_parts (nat_lt turn.who count) (are_below count turns) below in
    shift_by (is_shift turn.event) count turn turns refl parts.0 (shift_there count turns parts.1) some

-- ---- commands

-- a box that has a command among turns is there
command_by : (command mine : Bool) (count who : ℕ) (turn : Turn) (turns : List Turn) → (turn.who == who) ≡ mine
    → nat_lt turn.who count ≡ true → (1 ≤ length turns → who < count)
    → 1 ≤ length (if command && mine then turn ∷ turns else turns) → who < count
command_by true true count who turn turns is below later some =
    subst (λ (n : ℕ). n < count) (same_is turn.who who is) (below_is turn.who count below)
command_by true false count who turn turns is below later some = later some
command_by false mine count who turn turns is below later some = later some

pub command_there : (count who : ℕ) (turns : List Turn) → are_below count turns ≡ true
    → 1 ≤ length (commands_of who turns) → who < count
command_there count who [] below some = absurd (omega (arith, some))
command_there count who (turn ∷ turns) below some =
    let parts = and_parts (nat_lt turn.who count) (are_below count turns) below in
    command_by (is_command turn.event) (turn.who == who) count who turn (commands_of who turns) refl parts.0
    (command_there count who turns parts.1) some
