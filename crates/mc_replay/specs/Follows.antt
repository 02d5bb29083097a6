-- A segment of a journal, as it is followed turn by turn.
use Rattle.std.specs.Prelude.{◌≡◌, ◌≢◌, ◌++◌, ◌==◌, ◌&&◌, ℕ, Bool, true, false, List, [], ◌∷◌, Result, Ok, Err, Some, None, IsTrue, length}
use Rattle.std.specs.List.{list_all, list_any}
use Rattle.mc_box.specs.BoxEvents.{is_command}
use Rattle.mc_box.specs.declared.event.Turn.{Turn}
use Rattle.mc_model.specs.Settles.{IsSettled, commands_of, next_command, rests}
use Rattle.mc_model.specs.Sound.{IsSound}
use Rattle.mc_model.specs.Steps.{after, run, step}
use Rattle.mc_model.specs.Worlds.{WorldState, slot_count}
use Rattle.mc_seq.specs.Commands.{AreKeptFor, commands_left}
use Rattle.mc_seq.specs.Schedule.{next_of}
use Rattle.mc_replay.specs.Counts.{AreCounted}
use Rattle.mc_replay.specs.Moments.{AreMoments, AreNumbered, AreRetries, serves}
use Rattle.mc_replay.specs.declared.counts.Counts.{Counts}
use Rattle.mc_replay.specs.declared.segment.Segment.{Segment}
use Rattle.mc_replay.specs.declared.segment.TurnFault.{TurnFault}
use Rattle.mc_replay.specs.declared.segment.TurnFault.TheVariants.{NoMemory, NotEnabled, NotNext}

-- all of these turns are commands
abbrev pub AreCommands : List Turn → Type 0
AreCommands turns = IsTrue (list_all (λ turn. is_command turn.event) turns)

-- what a segment keeps of its own world: the commands that are left, its counts, and the numbers of its slots' retries
pub record Stands (segment : Segment) : Type 0 where
  pub kept : AreKeptFor segment.world segment.left
  pub commands : AreCommands (commands_left segment.left)
  pub counted : AreCounted segment.world segment.counts
  pub numbered : AreNumbered (slot_count segment.world) segment.retries

-- a segment has followed these turns from a world: they lead to its world, box by box they have made the first commands
-- of the batch, and the moments are kept that may be the last rest
pub record Follows (begins : WorldState) (batch turns : List Turn) (segment : Segment) : Type 0 where
  pub runs : run begins turns ≡ Some segment.world
  pub sound : IsSound begins
  pub stands : Stands segment
  pub commands : (who : ℕ)
      → commands_of who turns ++ commands_of who (commands_left segment.left) ≡ commands_of who batch
  pub before : ℕ
  pub retries : AreRetries begins turns before segment.retries
  pub moments : AreMoments begins batch turns before segment.moments.items

-- a turn is no command, or the next one of its box
abbrev pub IsNext : (batch turns : List Turn) → Turn → Type 0
IsNext batch turns turn = IsTrue (is_command turn.event) → next_command batch turns turn.who ≡ Some turn

-- the same of the commands that are left, as it is told of a turn
abbrev pub TellsNext : List Turn → Turn → Bool → Type 0
TellsNext left turn true = IsTrue (is_command turn.event) → next_of turn.who left ≡ Some turn
TellsNext left turn false = IsTrue (is_command turn.event) × (next_of turn.who left ≢ Some turn)

-- what becomes of a turn after those that a segment has followed
abbrev pub MakesTurn : WorldState → (batch turns : List Turn) → Turn → Result (Unit {0}) TurnFault → Segment → Type 0
MakesTurn begins batch turns turn (Ok done) new =
    Follows begins batch (turns ++ turn ∷ []) new × IsNext batch turns turn
MakesTurn begins batch turns turn (Err NotNext) new =
    IsTrue (is_command turn.event) × (next_command batch turns turn.who ≢ Some turn)
MakesTurn begins batch turns turn (Err NotEnabled) new =
    IsNext batch turns turn × (step (after begins turns) turn ≡ None)
MakesTurn begins batch turns turn (Err (NoMemory e)) new = Unit {0}

-- nothing is left of the batch, the world rests, and some moment that is kept may be the last rest
abbrev pub is_last : Segment → Bool
is_last segment =
    length (commands_left segment.left) == 0
    && (rests segment.world && list_any (λ moment. serves moment segment.retries) segment.moments.items)

-- what is answered of turns where a line says that they settle the batch
abbrev pub TellsSettled : WorldState → (batch turns : List Turn) → WorldState → Bool → Type 0
TellsSettled begins batch turns last true = IsSettled begins batch turns last
TellsSettled begins batch turns last false = (other : WorldState) → IsSettled begins batch turns other → ⊥

-- what a step answers, with the counts of the world after it
abbrev pub TriedStep : (old new : WorldState) → Counts → Turn → Result (Unit {0}) TurnFault → Type 0
TriedStep old new counts turn (Ok done) = (step old turn ≡ Some new) × AreCounted new counts
TriedStep old new counts turn (Err NotEnabled) = step old turn ≡ None
TriedStep old new counts turn (Err NotNext) = ⊥
TriedStep old new counts turn (Err (NoMemory e)) = Unit {0}
