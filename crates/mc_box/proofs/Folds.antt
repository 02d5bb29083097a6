-- Turns one after another: they bring a box whose goals have changed to rest.
use Rattle.std.proofs.Common.{◌≡◌, ℕ, ◌+◌, ◌<◌, ◌≤◌, Bool, true, false, if◌then◌else◌, Some, List, [], ◌∷◌, length, sym, subst, arith, length-append}
use Rattle.std.specs.Option.{option_map}
use Rattle.std.proofs.Math.ListN.{get_or}
use Rattle.mc_slot.specs.declared.Goal.TheVariants.{Close as ToClose}
use Rattle.mc_slot.specs.declared.Slot.{Slot}
use Rattle.mc_slot.specs.declared.SlotGoal.{SlotGoal}
use Rattle.mc_slot.specs.declared.SlotGoal.TheVariants.{End}
use Rattle.mc_box.specs.BoxEvents.{BoxStep, sends_first, goal_step, goals_step, goal_steps}
use Rattle.mc_box.specs.BoxSound.{IsSoundBox, IsWired}
use Rattle.mc_box.specs.Boxes.{BoxState, goal_at, with_goals}
use Rattle.mc_box.specs.Goals.{changed_from, changed_slots, has_turn, most_signals}
use Rattle.mc_box.proofs.Changes.{start_rests, todo_of}
use Rattle.mc_box.proofs.Held.{RestsBut, box_with}
use Rattle.mc_box.proofs.Options.{map_some, then_some}
use Rattle.mc_box.proofs.GoalTurns.{turned}
use Rattle.mc_slot.specs.declared.Cause.TheVariants.{Push}

-- all of them are slots
abbrev pub AreInside : ℕ → List ℕ → Type 0
AreInside count [] = Unit {0}
AreInside count (local ∷ locals) = (local < count) × AreInside count locals

inside_by : (turn : Bool) (count local : ℕ) (locals : List ℕ) → local < count → AreInside count locals → AreInside count (if turn then local ∷ locals else locals)
inside_by true count local locals here rest = (here, rest)
inside_by false count local locals here rest = rest

pub changed_inside : (olds news : List SlotGoal) (at count : ℕ) → at + length olds ≡ count → AreInside count (changed_from at olds news)
changed_inside [] news at count is = tt
changed_inside (old ∷ olds) [] at count is = tt
changed_inside (old ∷ olds) (new ∷ news) at count is =
    inside_by (has_turn at old new) count at (changed_from (at + 1) olds news) (omega arith) (changed_inside olds news (at + 1) count (omega arith))

-- what such turns may send
abbrev pub most_of : List SlotGoal → List ℕ → ℕ
most_of goals [] = 0
most_of goals (local ∷ locals) = most_signals (get_or goals local (End ToClose)) + most_of goals locals

-- what turns come to: a box of the same goals, at rest, and few signals
pub record Settled (box : BoxState) (locals : List ℕ) (step : BoxStep) : Type 0 where
  pub sound : IsSoundBox step.after
  pub few : length step.sent ≤ most_of box.goals locals

turns_end : (box : BoxState) (step : BoxStep) → IsWired box → RestsBut box [] → record { sent = []; after = box } ≡ step → Settled box [] step
turns_end box step wired but is =
    subst (λ (s : BoxStep). Settled box [] s) is (record { sound = record { wired = wired; rests = λ k. but k tt }; few = omega arith })

turns_next : (box : BoxState) (local : ℕ) (locals : List ℕ) (slots : List Slot) (turn more step : BoxStep) → length turn.sent ≤ most_signals (goal_at box local)
    → Settled (box_with box slots) locals more → sends_first turn.sent more ≡ step → Settled box (local ∷ locals) step
turns_next box local locals slots turn more step few rest is =
    subst (λ (s : BoxStep). Settled box (local ∷ locals) s) is
    (record { sound = rest.sound; few = omega (arith, length-append turn.sent more.sent, few, rest.few) })

pub turns_settle : (locals : List ℕ) (box : BoxState) (step : BoxStep) → IsWired box → AreInside (length box.slots) locals → RestsBut box (todo_of box.goals locals)
    → goal_steps box locals ≡ Some step → Settled box locals step
turns_settle [] box step wired inside but goes = let same : record { sent = []; after = box } ≡ step = cc in turns_end box step wired but same
turns_settle (local ∷ locals) box step wired inside but goes =
    let one = then_some (λ (turn : BoxStep). option_map (sends_first turn.sent) (goal_steps turn.after locals)) (goal_step box local Push) step goes in
    let two = map_some (sends_first one.0.sent) (goal_steps one.0.after locals) step one.2 in
    let made = turned box local Push one.0 wired inside.0 one.1 in
    turns_next box local locals made.slots one.0 two.0 step made.few
    (turns_settle locals (box_with box made.slots) two.0 made.wired (subst (λ (n : ℕ). AreInside n locals) (sym made.size) inside.1)
    (made.rests (todo_of box.goals locals) but)
    (subst (λ (b : BoxState). goal_steps b locals ≡ Some two.0) made.is two.1))
    two.2

-- goals that change in a sound box
pub goals_settle : (box : BoxState) (news : List SlotGoal) (step : BoxStep) → IsSoundBox box → IsWired (with_goals box news) → goals_step box news ≡ Some step
    → Settled (with_goals box news) (changed_slots box.goals news) step
goals_settle box news step sound wired goes =
    turns_settle (changed_slots box.goals news) (with_goals box news) step wired
    (changed_inside box.goals news 0 (length box.slots) (omega (arith, sound.wired.whole.goals)))
    (start_rests box news sound wired) goes
