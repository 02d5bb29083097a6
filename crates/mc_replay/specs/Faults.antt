-- The first fault of a journal: the rule that it breaks, and where it stands.
use Rattle.std.specs.Prelude.{◌≡◌, ◌≢◌, ◌⊎◌, ◌+◌, ◌<◌, ℕ, Bool, true, false, IsTrue, List, [], ◌∷◌, ◌++◌, ◌≤◌, length, take, None, Some}
use Rattle.mc_box.specs.BoxEvents.{is_command}
use Rattle.mc_box.specs.declared.event.Turn.{Turn}
use Rattle.mc_model.specs.Settles.{IsSettled, next_command}
use Rattle.mc_model.specs.Steps.{step}
use Rattle.mc_model.specs.Worlds.{WorldState}
use Rattle.mc_script.specs.declared.command.JournalLine.{JournalLine}
use Rattle.mc_script.specs.declared.command.JournalLine.TheVariants.{Turn as Made, Settled}
use Rattle.mc_replay.specs.Points.{AllMayStand, Point, batch_at, first_point, marks_in, point_after, turns_in, world_at}
use Rattle.mc_replay.specs.declared.fault.CheckFault.{CheckFault}
use Rattle.mc_replay.specs.declared.fault.CheckFault.TheVariants.{At, NoMemory}
use Rattle.mc_replay.specs.declared.fault.ReplayFault.{ReplayFault}
use Rattle.mc_replay.specs.declared.fault.ReplayFault.TheVariants as place
use Rattle.mc_replay.specs.declared.rule.TheConstants.{ENDS_EARLY, NOT_ENABLED, NOT_NEXT, NOT_SETTLED, NO_LINE}

-- a mark stands where the turns have not settled the segment's batch, whatever the world
abbrev pub IsMisplacedMark : Point → JournalLine → Type 0
IsMisplacedMark point (Made turn) = ⊥
IsMisplacedMark point Settled = (last : WorldState) → IsSettled point.begins (batch_at point) point.turns last → ⊥

-- any line stands after the last batch's mark, or it is a mark that stands too early
abbrev pub BreaksMarks : Point → JournalLine → Type 0
BreaksMarks point line = (point.batches ≡ []) ⊎ IsMisplacedMark point line

-- a command isn't the next one of its box
abbrev pub BreaksOrder : Point → JournalLine → Type 0
BreaksOrder point (Made turn) =
    IsTrue (is_command turn.event) × (next_command (batch_at point) point.turns turn.who ≢ Some turn)
BreaksOrder point Settled = ⊥

-- a turn can't happen
abbrev pub BreaksStep : Point → JournalLine → Type 0
BreaksStep point (Made turn) = step (world_at point) turn ≡ None
BreaksStep point Settled = ⊥

-- the number of the first rule, in this order, that a line breaks
pub data IsLineFault (point : Point) (line : JournalLine) (number : ℕ) : Type 0 where
  marks : BreaksMarks point line → number ≡ NOT_SETTLED → IsLineFault point line number
  order : (BreaksMarks point line → ⊥) → BreaksOrder point line → number ≡ NOT_NEXT → IsLineFault point line number
  steps : (BreaksMarks point line → ⊥) → (BreaksOrder point line → ⊥) → BreaksStep point line → number ≡ NOT_ENABLED
      → IsLineFault point line number

-- the first fault of a journal for these batches, with the number of a rule, and one more than the turns that stand
-- before it: a line, after others that may stand where they do; a line that is none, after all lines; or the end,
-- where a batch has no mark
pub data IsJournalFault (world : WorldState) (batches : List (List Turn)) (lines : List JournalLine) (bad : Bool)
    (number turn : ℕ) : Type 0 where
  at_line : (before others : List JournalLine) (line : JournalLine) → lines ≡ before ++ line ∷ others
      → AllMayStand (first_point world batches) before
      → IsLineFault (point_after (first_point world batches) before) line number → turn ≡ turns_in before + 1
      → IsJournalFault world batches lines bad number turn
  at_bad : AllMayStand (first_point world batches) lines → bad ≡ true → number ≡ NO_LINE → turn ≡ turns_in lines + 1
      → IsJournalFault world batches lines bad number turn
  at_end : AllMayStand (first_point world batches) lines → bad ≡ false → marks_in lines < length batches
      → number ≡ ENDS_EARLY → turn ≡ turns_in lines + 1
      → IsJournalFault world batches lines bad number turn

-- why a journal isn't taken: its first fault, or want of memory, which says nothing of the journal
abbrev pub RefusesJournal : WorldState → List (List Turn) → List JournalLine → Bool → CheckFault → Type 0
RefusesJournal world batches lines bad (At number turn) = IsJournalFault world batches lines bad number turn
RefusesJournal world batches lines bad (NoMemory e) = Unit {0}

-- so many of the first lines may all stand where they do, and with one more they may not
pub record StandsFor (world : WorldState) (batches : List (List Turn)) (lines : List JournalLine)
    (count : ℕ) : Type 0 where
  pub within : count ≤ length lines
  pub may : AllMayStand (first_point world batches) (take count lines)
  pub last : count < length lines → AllMayStand (first_point world batches) (take (count + 1) lines) → ⊥

-- the same, with how many lines stand before the fault
abbrev pub RefusesLines : WorldState → List (List Turn) → List JournalLine → Bool → ReplayFault → Type 0
RefusesLines world batches lines bad (place.At fault) =
    IsJournalFault world batches lines bad fault.number fault.turn × StandsFor world batches lines fault.before
RefusesLines world batches lines bad (place.NoMemory e) = Unit {0}
