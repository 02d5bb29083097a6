-- Laws of the places at which turns settle, and of the journal that has its marks there.
use Rattle.std.specs.Prelude.{◌≡◌, ◌≢◌, ◌↔◌, ℕ, ◌++◌, IsTrue, List, [], ◌∷◌, Contains, length, slice_get, Some}
use Rattle.mc_box.specs.declared.event.Turn.{Turn}
use Rattle.mc_model.specs.Shapes.{AreAllAllowed}
use Rattle.mc_model.specs.Sound.{IsSound}
use Rattle.mc_model.specs.Steps.{run}
use Rattle.mc_model.specs.Worlds.{WorldState}
use Rattle.mc_script.specs.declared.command.JournalLine.{JournalLine}
use Rattle.mc_script.specs.declared.command.JournalLine.TheVariants.{Settled}
use Rattle.mc_replay.specs.Journals.{IsJournal}
use Rattle.mc_replay.specs.Told.{turns_among}
use Rattle.mc_segments.specs.Ends.{AreEnds, IsEnd, may_end}
use Rattle.mc_segments.specs.Lines.{settled_batches, settled_lines, unsettled_turns}

-- no two lists
abbrev pub OneListOfEnds : Type 0
OneListOfEnds =
    (world : WorldState) (turns : List Turn) (ends others : List ℕ)
    → AreEnds world turns 0 ends → AreEnds world turns 0 others → ends ≡ others

-- it doesn't matter that a settle begins where the one before it ends: the ends are all places at which the turns from
-- the first on settle their own commands, and a settle may end
abbrev pub EndsAreAll : Type 0
EndsAreAll =
    (world : WorldState) (turns : List Turn) (ends : List ℕ)
    → AreEnds world turns 0 ends
    → (place : ℕ) → Contains ends place ↔ IsEnd world turns 0 place

-- no mark of a journal is missed, whatever its batches: where turns stand before a mark, and after it a command or no
-- turn, the mark stands at an end
abbrev pub NoMarkIsMissed : Type 0
NoMarkIsMissed =
    (world : WorldState) (batches : List (List Turn)) (before behind : List JournalLine) (ends : List ℕ)
    → IsJournal world batches (before ++ Settled ∷ behind)
    → AreEnds world (turns_among (before ++ behind)) 0 ends
    → turns_among before ≢ []
    → IsTrue (may_end (slice_get (turns_among behind) 0))
    → Contains ends (length (turns_among before))

-- with marks at their ends turns are a journal of their own commands
abbrev pub EndsMakeJournal : Type 0
EndsMakeJournal =
    (world : WorldState) (turns : List Turn) (ends : List ℕ)
    → AreEnds world turns 0 ends
    → IsJournal world (settled_batches turns 0 ends) (settled_lines turns 0 ends)

-- the turns of this journal, and then those after the last end, are all turns
abbrev pub EachTurnOnce : Type 0
EachTurnOnce =
    (world : WorldState) (turns : List Turn) (ends : List ℕ)
    → AreEnds world turns 0 ends
    → turns_among (settled_lines turns 0 ends) ++ unsettled_turns turns ends ≡ turns

-- a sound world allows each of these commands, where the turns are a run of it
abbrev pub CommandsAreAllowed : Type 0
CommandsAreAllowed =
    (world last : WorldState) (turns : List Turn) (ends : List ℕ)
    → IsSound world → run world turns ≡ Some last → AreEnds world turns 0 ends
    → AreAllAllowed world (settled_batches turns 0 ends)
