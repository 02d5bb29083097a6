-- A replay while it runs: where it stands, and what a line makes of it.
use Rattle.std.specs.Prelude.{◌≡◌, ◌⊎◌, ◌+◌, ◌<◌, ◌≤◌, ◌++◌, ℕ, Bool, true, false, List, [], ◌∷◌, drop, map, Result, Ok, Err, Vec}
use Rattle.std.specs.declared.alloc.Global.{Global}
use Rattle.mc_box.specs.declared.event.Turn.{Turn}
use Rattle.mc_model.specs.Shapes.{AreAllAllowed}
use Rattle.mc_model.specs.Worlds.{WorldState}
use Rattle.mc_script.specs.declared.command.JournalLine.{JournalLine}
use Rattle.mc_script.specs.declared.command.JournalLine.TheVariants.{Turn as Made, Settled}
use Rattle.mc_view.specs.declared.PathView.{PathView}
use Rattle.mc_replay.specs.Faults.{IsLineFault}
use Rattle.mc_replay.specs.Follows.{Follows}
use Rattle.mc_replay.specs.Journals.{AreShown}
use Rattle.mc_replay.specs.Points.{AllMayStand, MayStand, Point, batch_at, first_point, marks_in, point_after, point_behind, turns_in}
use Rattle.mc_replay.specs.declared.fault.ReplayFault.{ReplayFault}
use Rattle.mc_replay.specs.declared.fault.ReplayFault.TheVariants.{At, NoMemory}
use Rattle.mc_replay.specs.declared.replay.Replay.{Replay}
use Rattle.mc_replay.specs.declared.rule.TheConstants.{ENDS_EARLY, NO_LINE}

-- the replay follows the segment of a point, and counts the batches before it; each retry was a turn
pub record StandsAt (batches : List (List Turn)) (point : Point) (replay : Replay) : Type 0 where
  pub follows : Follows point.begins (batch_at point) point.turns replay.segment
  pub left : point.batches ≡ drop replay.settled batches
  pub ended : point.batches ≡ [] → point.turns ≡ []
  pub allowed : AreAllAllowed replay.segment.world batches
  pub retries : replay.segment.retries.made ≤ replay.turns

-- a line that may stand there is counted, and the replay stands after it
pub record GoesBehind (batches : List (List Turn)) (point : Point) (line : JournalLine)
    (old new : Replay) : Type 0 where
  pub may : MayStand point line
  pub stands : StandsAt batches (point_behind point line) new
  pub turns : new.turns ≡ old.turns + turns_in (line ∷ [])
  pub marks : new.settled ≡ old.settled + marks_in (line ∷ [])

-- what comes of a line: the replay goes on, or the line is faulty, and stands after as many lines as turns and marks
-- are counted
abbrev pub Reads : List (List Turn) → Point → JournalLine → Replay → Result (Unit {0}) ReplayFault → Replay → Type 0
Reads batches point line old (Ok done) new = GoesBehind batches point line old new
Reads batches point line old (Err (At fault)) new =
    IsLineFault point line fault.number × (fault.turn ≡ old.turns + 1) × (fault.before ≡ old.turns + old.settled)
Reads batches point line old (Err (NoMemory e)) new = Unit {0}

-- the end has no fault: no line after the others is bad, and so many batches have their marks
abbrev pub EndsJournal : (count : ℕ) → Replay → (bad : Bool) → Result (Unit {0}) ReplayFault → Type 0
EndsJournal count replay bad (Ok done) = (bad ≡ false) × (count ≤ replay.settled)
EndsJournal count replay bad (Err (At fault)) =
    (fault.turn ≡ replay.turns + 1) × (fault.before ≡ replay.turns + replay.settled)
    × (((bad ≡ true) × (fault.number ≡ NO_LINE))
    ⊎ ((bad ≡ false) × (replay.settled < count) × (fault.number ≡ ENDS_EARLY)))
EndsJournal count replay bad (Err (NoMemory e)) = Unit {0}

-- a replay of which no line is read yet
pub record IsFresh (world : WorldState) (batches : List (List Turn)) (replay : Replay) : Type 0 where
  pub stands : StandsAt batches (first_point world batches) replay
  pub turns : replay.turns ≡ 0
  pub settled : replay.settled ≡ 0

-- lists of views, as code keeps them
abbrev pub views_of : List (Vec PathView Global) → List (List PathView)
views_of kept = map (λ views. views.items) kept

-- a mark adds one list of views, that of the world there
abbrev pub AddsShown : (WorldState → List PathView → Type 0) → WorldState → JournalLine
    → (old new : List (List PathView)) → Type 0
AddsShown Shows world (Made turn) old new = new ≡ old
AddsShown Shows world Settled old new = (views : List PathView) × Shows world views × (new ≡ old ++ views ∷ [])

-- these lines were read from a world, and may all stand there; what follows is shown after what was shown at their
-- marks
pub record HasReplayed (Shows : WorldState → List PathView → Type 0) (start : WorldState) (batches : List (List Turn))
    (read : List JournalLine) (replay : Replay) (shown : List (List PathView)) : Type 0 where
  pub may : AllMayStand (first_point start batches) read
  pub stands : StandsAt batches (point_after (first_point start batches) read) replay
  pub turns : replay.turns ≡ turns_in read
  pub marks : replay.settled ≡ marks_in read
  pub views : (more : List JournalLine) (others : List (List PathView))
      → AreShown Shows replay.segment.world more others → AreShown Shows start (read ++ more) (shown ++ others)
