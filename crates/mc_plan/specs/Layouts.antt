-- A first world whose boxes get programs, and when a box doesn't get one.
use Rattle.std.specs.Prelude.{◌≡◌, ℕ, ◌+◌, ◌==◌, ◌||◌, not, Bool, false, List, [], ◌∷◌, length, map, nat_le, slice_index_or, slice_set, Option, Some, None, Result, is_some}
use Rattle.std.specs.List.{list_any}
use Rattle.mc_signal.specs.declared.Medium.{Medium}
use Rattle.mc_signal.specs.declared.Medium.TheVariants.{Audio}
use Rattle.mc_slot.specs.Moves.{is_same_medium}
use Rattle.mc_slot.specs.declared.SlotGoal.{SlotGoal}
use Rattle.mc_slot.specs.declared.SlotGoal.TheVariants.{End, Link}
use Rattle.mc_rule.specs.Programs.{ProgStateState}
use Rattle.mc_box.specs.Boxes.{BoxState, first_slot, no_box}
use Rattle.mc_box.specs.BoxShapes.{box_shape, is_feature}
use Rattle.mc_box.specs.declared.setup.SlotSetup.{SlotSetup}
use Rattle.mc_model.specs.Sound.{AreNew, IsNumbered}
use Rattle.mc_model.specs.Worlds.{AreChannels, WorldState, box_at, first_world}
use Rattle.mc_plan.specs.Refusals.{fault_if, unless_fault}
use Rattle.mc_plan.specs.declared.fault.ProgramFault.{ProgramFault}
use Rattle.mc_plan.specs.declared.fault.ProgramFault.TheVariants.{NoBox, NoFeature, HasProgram, WrongGoals, TwoMedia}

-- a first world within the limits: its boxes are new, whatever programs they have, tunnels join each of their slots
-- once, with the numbers of the rules, and nothing is under way
pub record IsLayout (first : WorldState) : Type 0 where
  pub channels : AreChannels first.channels
  pub fresh : AreNew first.boxes
  pub numbered : IsNumbered first
  pub empty : first ≡ first_world first.boxes first.channels

-- ---- a box gets a program

abbrev pub programmed : BoxState → List ProgStateState → BoxState
programmed box states = record box { program = Some states }

-- one of these boxes gets these states as its program
abbrev pub with_program_at : List BoxState → (who : ℕ) → List ProgStateState → List BoxState
with_program_at boxes who states = slice_set boxes who (programmed (slice_index_or boxes who no_box) states)

-- a box of the world does
abbrev pub with_program : WorldState → (who : ℕ) → List ProgStateState → WorldState
with_program first who states = record first { boxes = with_program_at first.boxes who states }

-- ---- why it gets none

-- the media of slots that are to be made
abbrev pub media_of : List SlotSetup → List Medium
media_of setups = map (λ slot. slot.medium) (map first_slot setups)

abbrev pub medium_of : List Medium → ℕ → Medium
medium_of media local = slice_index_or media local Audio

-- the goal of a slot is a link with a slot of another medium
abbrev pub crosses : List Medium → (local : ℕ) → SlotGoal → Bool
crosses media local (End goal) = false
crosses media local (Link partner) = not (is_same_medium (medium_of media partner) (medium_of media local))

-- some of these goals is, of slots from a local number on
abbrev pub some_crosses : List Medium → (local : ℕ) → List SlotGoal → Bool
some_crosses media local [] = false
some_crosses media local (goal ∷ goals) = crosses media local goal || some_crosses media (local + 1) goals

-- a state links slots of two media
abbrev pub links_two_media : List Medium → ProgStateState → Bool
links_two_media media one = some_crosses media 0 one.goals

-- a state hasn't one goal for each of so many slots
abbrev pub has_wrong_goals : ℕ → ProgStateState → Bool
has_wrong_goals slots one = not (length one.goals == slots)

-- why this box gets no program of these states: the first rule that it would break
abbrev pub box_fault : BoxState → List ProgStateState → Option ProgramFault
box_fault box states =
    fault_if (not (is_feature box.kind)) NoFeature
    (fault_if (is_some box.program) HasProgram
    (fault_if (list_any (has_wrong_goals (length box.slots)) states) WrongGoals
    (fault_if (list_any (links_two_media (box_shape box).media) states) TwoMedia None)))

-- and why the box of this number gets none
abbrev pub program_fault : WorldState → (who : ℕ) → List ProgStateState → Option ProgramFault
program_fault first who states = fault_if (nat_le (length first.boxes) who) NoBox (box_fault (box_at first who) states)

-- whether a box may get a program: the first rule that this would break, if it breaks one
abbrev pub may_program_box : BoxState → List ProgStateState → Result (Unit {0}) ProgramFault
may_program_box box states = unless_fault (box_fault box states)

abbrev pub may_program : WorldState → (who : ℕ) → List ProgStateState → Result (Unit {0}) ProgramFault
may_program first who states = unless_fault (program_fault first who states)
