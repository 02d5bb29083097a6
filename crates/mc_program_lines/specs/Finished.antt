-- The program that finished lines declare, and what its lines keep.
use Rattle.std.specs.Prelude.{ℕ, ◌≡◌, ◌≢◌, ◌+◌, ◌<◌, ◌≤◌, false, List, All, Option, Some, None, length, map, slice_index_or}
use Rattle.std.specs.Option.{unwrap_or}
use Rattle.mc_signal.specs.declared.Medium.{Medium}
use Rattle.mc_signal.specs.declared.Medium.TheVariants.{Audio}
use Rattle.mc_slot.specs.declared.Goal.TheVariants.{Close as ToClose}
use Rattle.mc_slot.specs.declared.SlotGoal.{SlotGoal}
use Rattle.mc_slot.specs.declared.SlotGoal.TheVariants.{End, Link}
use Rattle.mc_rule.specs.Programs.{IsProgram, NamesSlot, ProgStateState}
use Rattle.mc_box.specs.Boxes.{goals_in}
use Rattle.mc_program_lines.specs.Programs.{BlockState, PartState, lacks_goal, new_part}
use Rattle.mc_program_lines.specs.declared.limit.TheConstants.{STATE_LIMIT, TRANSITION_LIMIT}

-- ---- the program of a block

-- the goal that a part gives a slot, and close where it gives none
abbrev pub given_goal : Option SlotGoal → SlotGoal
given_goal goal = unwrap_or goal (End ToClose)

-- the state of a part: its goals and its transitions, in their order
abbrev pub state_of : PartState → ProgStateState
state_of part = record { goals = map given_goal part.goals; rules = part.transitions }

-- the states of a block, by their numbers
abbrev pub program_of : BlockState → List ProgStateState
program_of block = map state_of block.parts

-- ---- what lines keep

-- a goal of a slot in a part: an end's, or a link with another slot of the same medium, whose goal is the link back
abbrev pub IsPaired : List Medium → List (Option SlotGoal) → (local : ℕ) → SlotGoal → Type 0
IsPaired media goals local (End goal) = Unit {0}
IsPaired media goals local (Link partner) =
    (partner ≢ local) × (slice_index_or goals partner None ≡ Some (Link local))
    × (slice_index_or media partner Audio ≡ slice_index_or media local Audio)

-- each of the goals that are there is
abbrev pub ArePaired : List Medium → List (Option SlotGoal) → Type 0
ArePaired media goals =
    (local : ℕ) (goal : SlotGoal) → slice_index_or goals local None ≡ Some goal → IsPaired media goals local goal

-- a part of a program of so many states, for slots of these media: it has room for a goal of each, and its transitions
-- name slots and states that are there
pub record FitsPart (media : List Medium) (states : ℕ) (part : PartState) : Type 0 where
  pub goals : length part.goals ≡ length media
  pub links : ArePaired media part.goals
  pub few : length part.transitions ≤ TRANSITION_LIMIT
  pub targets : All (λ rule. rule.target < states) part.transitions
  pub guards : All (λ rule. NamesSlot (length media) rule.guard) part.transitions

-- a program for slots of these media: it has one state or more, each part fits, and each but the last has a goal for
-- every slot
pub record FitsMedia (media : List Medium) (block : BlockState) : Type 0 where
  pub some : 0 < length block.states
  pub few : length block.states ≤ STATE_LIMIT
  pub begun : length block.parts ≤ length block.states
  pub each : All (FitsPart media (length block.states)) block.parts
  pub whole : (k : ℕ) → k + 1 < length block.parts → lacks_goal (slice_index_or block.parts k (new_part 0)) ≡ false

-- ---- what finished programs are

-- states that are a program for slots of these media: each has a goal for every slot, and links slots of one medium
pub record IsProgramFor (media : List Medium) (states : List ProgStateState) : Type 0 where
  pub program : IsProgram states
  pub goals : All (λ one. length one.goals ≡ length media) states
  pub links : (at local partner : ℕ) → slice_index_or (goals_in states at) local (End ToClose) ≡ Link partner
      → slice_index_or media partner Audio ≡ slice_index_or media local Audio
