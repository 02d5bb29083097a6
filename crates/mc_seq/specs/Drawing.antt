-- A settle by draws while it goes on: what one draw comes to, and what several do.
use Rattle.std.specs.Prelude.{◌≡◌, ◌<◌, ◌+◌, ◌*◌, ℕ, if◌then◌else◌, Bool, true, false, List, [], ◌∷◌, ◌++◌, ◌⊎◌, sum, IsSome, IsTrue, Option, Some, None}
use Rattle.mc_text.specs.Draws.{next_state}
use Rattle.mc_box.specs.BoxEvents.{is_shift}
use Rattle.mc_box.specs.declared.event.Turn.{Turn}
use Rattle.mc_model.specs.Paths.{has_ring}
use Rattle.mc_model.specs.Rings.{IsFirstOnRing}
use Rattle.mc_model.specs.Steps.{ends_version, run, step, heard_slot}
use Rattle.mc_model.specs.Worlds.{WorldState}
use Rattle.mc_seq.specs.Schedule.{AreDrawn, Goes, IsStill, ScheduleState, candidates, drawn_turn, due_after, first_schedule, left_by, shifts_by, schedule_after, since_by}
use Rattle.mc_world.specs.declared.settled.Settled.{Settled}
use Rattle.mc_seq.specs.Commands.{AreKeptFor, commands_left}
use Rattle.mc_seq.specs.Restless.{IsFirstShifter}
use Rattle.mc_seq.specs.Retries.{retries_by_box}
use Rattle.mc_seq.specs.Spare.{AreShiftsKept, spare_of}
use Rattle.mc_seq.specs.declared.drawing.SettleSoFar.{SettleSoFar}
use Rattle.mc_seq.specs.declared.stopping.DrawOutcome.{DrawOutcome}
use Rattle.mc_seq.specs.declared.stopping.DrawOutcome.TheVariants.{Drawn, Nothing, Shifted, VersionEnd}
use Rattle.mc_seq.specs.declared.stopping.SettleStop.{SettleStop}
use Rattle.mc_seq.specs.declared.stopping.SettleStop.TheVariants as stops

-- a settle so far: its world and turns so far, the commands that are left, how many turns came since the last
-- command or the beginning, how many Shifts each box may still make, and whether a round of retries is due
pub record SoFar : Type 0 where
  pub settled : Settled
  pub left : List Turn
  pub since : ℕ
  pub shifts : List ℕ
  pub due : Bool

-- what is seen of it: where it stands, and its turns so far
pub record DrawnSoFar : Type 0 where
  pub schedule : ScheduleState
  pub turns : List Turn

-- with the state of the draws
abbrev pub drawn_at : SoFar → ℕ → DrawnSoFar
drawn_at so_far draws = record {
  schedule = record {
    world = so_far.settled.world;
    left = so_far.left;
    since = so_far.since;
    draws = draws;
    shifts =
        so_far.shifts;
    due = so_far.due;
  };
  turns = so_far.settled.turns.items;
}

abbrev pub so_far_of : SettleSoFar → SoFar
so_far_of so_far = record {
  settled = so_far.settled;
  left = commands_left so_far.left;
  since = so_far.since;
  shifts = spare_of so_far.settled.world so_far.shifts;
  due = so_far.due;
}

abbrev pub drawn_of : SettleSoFar → ℕ → DrawnSoFar
drawn_of so_far draws = drawn_at (so_far_of so_far) draws

-- what a settle keeps so far of its counts
pub record IsKept (so_far : SettleSoFar) : Type 0 where
  pub commands : AreKeptFor so_far.settled.world so_far.left
  pub shifts : AreShiftsKept so_far.settled.world (commands_left so_far.left) so_far.shifts

-- at the beginning
abbrev pub first_drawn : WorldState → List Turn → ℕ → DrawnSoFar
first_drawn world batch draws = record { schedule = first_schedule world batch draws; turns = [] }

-- ---- one turn

-- a turn can happen, or is the Hear of a slot that has the last version
abbrev pub MayCome : WorldState → Turn → Type 0
MayCome world turn = IsSome (step world turn) ⊎ IsTrue (ends_version world turn)

-- a turn was made
pub record TurnMade (old new : SoFar) (turn : Turn) : Type 0 where
  pub goes : step old.settled.world turn ≡ Some new.settled.world
  pub left : new.left ≡ left_by turn old.left
  pub since : new.since ≡ since_by turn old.since
  pub shifts : new.shifts ≡ shifts_by turn old.shifts
  pub due : new.due ≡ due_after turn old.due
  pub logged : new.settled.turns.items ≡ old.settled.turns.items ++ turn ∷ []

-- or it ends a version
pub record TurnEnds (old new : SoFar) (turn : Turn) (at : ℕ) : Type 0 where
  pub version : IsTrue (ends_version old.settled.world turn)
  pub slot : heard_slot old.settled.world turn ≡ Some at
  pub world : new.settled.world ≡ old.settled.world
  pub left : new.left ≡ old.left
  pub since : new.since ≡ old.since
  pub shifts : new.shifts ≡ old.shifts
  pub due : new.due ≡ old.due
  pub logged : new.settled.turns.items ≡ old.settled.turns.items

-- what a turn that was made is called
abbrev pub IsDrawOf : Turn → DrawOutcome → Type 0
IsDrawOf turn Drawn = is_shift turn.event ≡ false
IsDrawOf turn Shifted = is_shift turn.event ≡ true
IsDrawOf turn Nothing = ⊥
IsDrawOf turn (VersionEnd at) = ⊥

-- what becomes of a turn
abbrev pub TriedTurn : SoFar → SoFar → Turn → DrawOutcome → Type 0
TriedTurn old new turn Drawn = TurnMade old new turn × (is_shift turn.event ≡ false)
TriedTurn old new turn Shifted = TurnMade old new turn × (is_shift turn.event ≡ true)
TriedTurn old new turn Nothing = ⊥
TriedTurn old new turn (VersionEnd at) = TurnEnds old new turn at

-- ---- one draw

-- a draw picks the turn that the schedule draws, or nothing where nothing is listed, and then nothing is drawn
abbrev pub Picks : ScheduleState → ℕ → Option Turn → Type 0
Picks now draws None = (candidates now ≡ []) × (draws ≡ now.draws)
Picks now draws (Some turn) = (drawn_turn now ≡ Some turn) × (draws ≡ next_state now.draws)

-- a drawn turn was made
pub record DrewTurn (old new : DrawnSoFar) : Type 0 where
  pub turn : Turn
  pub is_drawn : drawn_turn old.schedule ≡ Some turn
  pub goes : step old.schedule.world turn ≡ Some new.schedule.world
  pub moves : new.schedule ≡ schedule_after old.schedule turn new.schedule.world
  pub logged : new.turns ≡ old.turns ++ turn ∷ []

-- a drawn turn ends a version
pub record DrewVersionEnd (old new : DrawnSoFar) (at : ℕ) : Type 0 where
  pub turn : Turn
  pub is_drawn : drawn_turn old.schedule ≡ Some turn
  pub version : IsTrue (ends_version old.schedule.world turn)
  pub slot : heard_slot old.schedule.world turn ≡ Some at
  pub stays : new.schedule ≡ record old.schedule { draws = next_state old.schedule.draws }
  pub logged : new.turns ≡ old.turns

-- what a draw comes to
abbrev pub DrewOnce : DrawnSoFar → DrawnSoFar → DrawOutcome → Type 0
DrewOnce old new Drawn = (made : DrewTurn old new) × (is_shift made.turn.event ≡ false)
DrewOnce old new Shifted = (made : DrewTurn old new) × (is_shift made.turn.event ≡ true)
DrewOnce old new Nothing = (candidates old.schedule ≡ []) × (new.schedule ≡ old.schedule) × (new.turns ≡ old.turns)
DrewOnce old new (VersionEnd at) = DrewVersionEnd old new at

-- ---- several draws

-- turns that are drawn lead from one state to another, and are written down after what was written before
pub record DrewAll (old new : DrawnSoFar) : Type 0 where
  pub turns : List Turn
  pub draws : AreDrawn old.schedule turns new.schedule
  pub logged : new.turns ≡ old.turns ++ turns

-- turns were drawn, and then one that ends a version
pub record RanOut (old new : DrawnSoFar) (at : ℕ) : Type 0 where
  pub last : DrawnSoFar
  pub drew : DrewAll old last
  pub ends : DrewVersionEnd last new at

-- the commands were used up, or a version ended
abbrev pub UsedUp : DrawnSoFar → DrawnSoFar → Option ℕ → Type 0
UsedUp old new None = DrewAll old new × (new.schedule.left ≡ [])
UsedUp old new (Some at) = RanOut old new at

-- turns were drawn until nothing is listed
pub record CameToRest (old new : DrawnSoFar) : Type 0 where
  pub drew : DrewAll old new
  pub none : candidates new.schedule ≡ []
  pub left : new.schedule.left ≡ []
  pub free : has_ring new.schedule.world ≡ false

-- how many Shifts and rounds of retries may still come: each Shift makes a round due
abbrev pub turns_of_programs : ScheduleState → ℕ
turns_of_programs now = 2 * sum now.shifts + (if now.due then 1 else 0)

-- or until a Shift was made
pub record CameToShift (old new : DrawnSoFar) : Type 0 where
  pub drew : DrewAll old new
  pub left : new.schedule.left ≡ []
  pub fewer : turns_of_programs new.schedule < turns_of_programs old.schedule

-- whether a Shift was made
abbrev pub DrewOn : DrawnSoFar → DrawnSoFar → Bool → Type 0
DrewOn old new true = CameToShift old new
DrewOn old new false = CameToRest old new

-- turns were drawn until there is a ring, where the batch is used up
pub record CameToRing (old new : DrawnSoFar) (at : ℕ) : Type 0 where
  pub drew : DrewAll old new
  pub left : new.schedule.left ≡ []
  pub least : IsFirstOnRing new.schedule.world at

-- to a ring, or until nothing is listed
abbrev pub CameTo : DrawnSoFar → DrawnSoFar → Option ℕ → Type 0
CameTo old new None = CameToRest old new
CameTo old new (Some at) = CameToRing old new at

-- ---- rounds

-- a round of retries was made
pub record RoundMade (old new : SoFar) : Type 0 where
  pub retries : run old.settled.world (retries_by_box old.settled.world) ≡ Some new.settled.world
  pub left : new.left ≡ old.left
  pub since : new.since ≡ old.since
  pub shifts : new.shifts ≡ old.shifts
  pub due : new.due ≡ false
  pub logged : new.settled.turns.items ≡ old.settled.turns.items ++ retries_by_box old.settled.world

-- rounds and drawn turns lead from one state to another, and are written down
pub record WentOn (old new : DrawnSoFar) : Type 0 where
  pub rounds : ℕ
  pub turns : List Turn
  pub goes : Goes rounds old.schedule turns new.schedule
  pub logged : new.turns ≡ old.turns ++ turns

-- until nothing can come
pub record WentToRest (old new : DrawnSoFar) : Type 0 where
  pub went : WentOn old new
  pub still : IsStill new.schedule
  pub not_due : new.schedule.due ≡ false

-- or there is a ring
pub record WentToRing (old new : DrawnSoFar) (at : ℕ) : Type 0 where
  pub went : WentOn old new
  pub left : new.schedule.left ≡ []
  pub least : IsFirstOnRing new.schedule.world at

-- or this box has made all its Shifts and has one more enabled
pub record WentRestless (old new : DrawnSoFar) (at : ℕ) : Type 0 where
  pub went : WentOn old new
  pub left : new.schedule.left ≡ []
  pub none : candidates new.schedule ≡ []
  pub free : has_ring new.schedule.world ≡ false
  pub first : IsFirstShifter new.schedule.world at

-- how a settle ended
abbrev pub Ended : DrawnSoFar → DrawnSoFar → Option SettleStop → Type 0
Ended old new None = WentToRest old new
Ended old new (Some (stops.Ring at)) = WentToRing old new at
Ended old new (Some (stops.Restless at)) = WentRestless old new at
Ended old new (Some (stops.VersionEnd at)) = RanOut old new at
