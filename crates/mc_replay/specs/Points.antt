-- Where a journal stands after some of its lines, and which line may stand there.
use Rattle.std.specs.Prelude.{◌≢◌, ℕ, Bool, true, false, IsSome, List, [], ◌∷◌, ◌++◌, count_by, drop}
use Rattle.mc_box.specs.declared.event.Turn.{Turn}
use Rattle.mc_model.specs.Settles.{IsSettled}
use Rattle.mc_model.specs.Steps.{after, step}
use Rattle.mc_model.specs.Worlds.{WorldState}
use Rattle.mc_script.specs.declared.command.JournalLine.{JournalLine}
use Rattle.mc_script.specs.declared.command.JournalLine.TheVariants.{Turn as Made, Settled}
use Rattle.mc_replay.specs.Follows.{IsNext}

-- the world in which a segment began, the batches from its own on, and its turns so far
pub record Point : Type 0 where
  pub begins : WorldState
  pub batches : List (List Turn)
  pub turns : List Turn

abbrev pub first_point : WorldState → List (List Turn) → Point
first_point world batches = record { begins = world; batches = batches; turns = [] }

-- the world there
abbrev pub world_at : Point → WorldState
world_at point = after point.begins point.turns

-- the batch of the segment; none is left after the last mark
abbrev pub first_batch : List (List Turn) → List Turn
first_batch [] = []
first_batch (batch ∷ batches) = batch

abbrev pub batch_at : Point → List Turn
batch_at point = first_batch point.batches

-- a turn is one more of the segment, and with a mark the next one begins
abbrev pub point_behind : Point → JournalLine → Point
point_behind point (Made turn) = record point { turns = point.turns ++ turn ∷ [] }
point_behind point Settled = first_point (world_at point) (drop 1 point.batches)

abbrev pub point_after : Point → List JournalLine → Point
point_after point [] = point
point_after point (line ∷ lines) = point_after (point_behind point line) lines

-- a turn can happen, and is no command or the next one of its box; a mark stands where the turns have settled the batch
abbrev pub KeepsLineRules : Point → JournalLine → Type 0
KeepsLineRules point (Made turn) = IsNext (batch_at point) point.turns turn × IsSome (step (world_at point) turn)
KeepsLineRules point Settled = IsSettled point.begins (batch_at point) point.turns (world_at point)

-- the line may stand there: a batch is left, and the line keeps its rules
abbrev pub MayStand : Point → JournalLine → Type 0
MayStand point line = (point.batches ≢ []) × KeepsLineRules point line

-- and so may each of these lines, after those before it
abbrev pub AllMayStand : Point → List JournalLine → Type 0
AllMayStand point [] = Unit {0}
AllMayStand point (line ∷ lines) = MayStand point line × AllMayStand (point_behind point line) lines

abbrev pub is_mark : JournalLine → Bool
is_mark (Made turn) = false
is_mark Settled = true

abbrev pub is_turn : JournalLine → Bool
is_turn (Made turn) = true
is_turn Settled = false

abbrev pub marks_in : List JournalLine → ℕ
marks_in lines = count_by is_mark lines

abbrev pub turns_in : List JournalLine → ℕ
turns_in lines = count_by is_turn lines
