-- A settle by draws: its turns are those of the schedule, and so is how it stops.
use Rattle.std.specs.Prelude.{◌≡◌, ◌≢◌, ◌≤◌, ◌+◌, ◌*◌, ℕ, length, count_by, false, List, [], Some}
use Rattle.mc_text.specs.Draws.{next_state}
use Rattle.mc_box.specs.BoxEvents.{is_shift}
use Rattle.mc_box.specs.declared.event.Turn.{Turn}
use Rattle.mc_model.specs.Shapes.{AreAllowed}
use Rattle.mc_laws.specs.Measures.{IsRingFree, measure}
use Rattle.mc_model.specs.Rings.{IsFirstOnRing}
use Rattle.mc_model.specs.Settles.{IsSettled, IsStopped, MeetsLast}
use Rattle.mc_model.specs.Sound.{IsSound}
use Rattle.mc_model.specs.Unprogrammed.{ShiftNone}
use Rattle.mc_model.specs.Worlds.{WorldState}
use Rattle.mc_world.specs.declared.settled.Settled.{Settled}
use Rattle.mc_seq.specs.Places.{IsPlaced}
use Rattle.mc_seq.specs.Restless.{IsRestless}
use Rattle.mc_seq.specs.Schedule.{AreDrawn, Goes, IsStill, ScheduleState, first_schedule, candidates, drawn_turn}
use Rattle.mc_seq.specs.ShiftLimit.{KeepsShiftLimit}
use Rattle.mc_seq.specs.declared.fault.SettleFault.{SettleFault}
use Rattle.mc_seq.specs.declared.fault.SettleFault.TheVariants.{NoMemory, Restless, Ring, VersionEnd}

-- the turns settle a batch by the schedule: they are drawn, with rounds of retries between, until nothing can come and
-- no round is due. The draws begin at one state and end at another
pub record IsScheduled (world : WorldState) (batch : List Turn) (state : ℕ) (turns : List Turn) (last : WorldState)
    (end : ℕ) : Type 0 where
  pub rounds : ℕ
  pub ended : ScheduleState
  pub goes : Goes rounds (first_schedule world batch state) turns ended
  pub still : IsStill ended
  pub not_due : ended.due ≡ false
  pub to_last : ended.world ≡ last
  pub to_end : ended.draws ≡ end

-- how a settle by draws ends
abbrev pub SettlesByDraws : WorldState → List Turn → (state end : ℕ) → Settled → Type 0
SettlesByDraws world batch state end done = IsScheduled world batch state done.turns.items done.world end

-- ---- where it stops

-- turns by the schedule use up the batch, and a ring is left, of which this slot is the least
pub record StopsAtRing (world : WorldState) (batch : List Turn) (state : ℕ) (turns : List Turn)
    (end at : ℕ) : Type 0 where
  pub rounds : ℕ
  pub last : ScheduleState
  pub goes : Goes rounds (first_schedule world batch state) turns last
  pub used_up : last.left ≡ []
  pub least : IsFirstOnRing last.world at
  pub to_end : last.draws ≡ end
  pub stopped : IsStopped world batch turns last.world
  pub shift_limit : KeepsShiftLimit turns

-- after drawn turns the next command of a box is drawn, which is the Hear of this slot, whose descriptor has the last
-- version
pub record StopsAtVersion (world : WorldState) (batch : List Turn) (state : ℕ) (turns : List Turn)
    (end at : ℕ) : Type 0 where
  pub last : ScheduleState
  pub draws : AreDrawn (first_schedule world batch state) turns last
  pub meets : MeetsLast batch turns last.world at
  pub is_drawn : drawn_turn last ≡ Some meets.turn
  pub to_end : next_state last.draws ≡ end
  pub stopped : IsStopped world batch turns last.world
  pub shift_limit : KeepsShiftLimit turns

-- turns by the schedule use up the batch, and nothing is listed, though this box has an enabled transition
pub record StopsRestless (world : WorldState) (batch : List Turn) (state : ℕ) (turns : List Turn)
    (end at : ℕ) : Type 0 where
  pub rounds : ℕ
  pub last : ScheduleState
  pub goes : Goes rounds (first_schedule world batch state) turns last
  pub used_up : last.left ≡ []
  pub none : candidates last ≡ []
  pub restless : IsRestless turns last.world at
  pub to_end : last.draws ≡ end
  pub stopped : IsStopped world batch turns last.world
  pub shift_limit : KeepsShiftLimit turns

-- how a settle by draws stops
abbrev pub StopsByDraws : WorldState → List Turn → (state end : ℕ) → SettleFault → Type 0
StopsByDraws world batch state end (Ring stop) =
    StopsAtRing world batch state stop.turns.items end stop.at × IsPlaced world stop
StopsByDraws world batch state end (VersionEnd stop) =
    StopsAtVersion world batch state stop.turns.items end stop.at × IsPlaced world stop
StopsByDraws world batch state end (Restless stop) = StopsRestless world batch state stop.turns.items end stop.at
StopsByDraws world batch state end (NoMemory e) = Unit {0}

-- ---- laws

-- turns by the schedule are a settled segment
abbrev pub ScheduleSettles : Type 0
ScheduleSettles =
    (world last : WorldState) (batch turns : List Turn) (state end : ℕ) → IsSound world → AreAllowed world batch
    → IsScheduled world batch state turns last end → IsSettled world batch turns last

-- and the schedule leaves no choice: there is one such list of turns, with one world and one state of the draws after
-- it
pub record IsSame (turns more : List Turn) (last other : WorldState) (end until : ℕ) : Type 0 where
  pub turns_same : turns ≡ more
  pub worlds_same : last ≡ other
  pub ends_same : end ≡ until

abbrev pub ScheduleIsOne : Type 0
ScheduleIsOne =
    (world last other : WorldState) (batch turns more : List Turn) (state end until : ℕ)
    → IsScheduled world batch state turns last end → IsScheduled world batch state more other until
    → IsSame turns more last other end until

-- while commands are left, at most 63 turns that are none stand before the next, and so there are at most so many
-- turns, whether links make a ring or not
abbrev pub DrawsEnd : Type 0
DrawsEnd =
    (now last : ScheduleState) (turns : List Turn) → IsSound now.world → AreAllowed now.world now.left
    → AreDrawn now turns last → last.left ≢ [] → length turns ≤ 64 * length now.left + 63

-- where none are left, each turn that is no Shift lowers the measure of Takes
abbrev pub TakesEndDraws : Type 0
TakesEndDraws =
    (now last : ScheduleState) (turns : List Turn) → now.left ≡ [] → IsRingFree now.world → AreDrawn now turns last
    → ShiftNone turns → length turns + measure last.world ≤ measure now.world

-- no box makes more Shifts than the limit in a settle
abbrev pub ShiftsAreFew : Type 0
ShiftsAreFew =
    (world : WorldState) (batch turns : List Turn) (state rounds : ℕ) (last : ScheduleState) → AreAllowed world batch
    → Goes rounds (first_schedule world batch state) turns last → KeepsShiftLimit turns

-- and there is at most one round of retries more than there are Shifts
abbrev pub RoundsAreFew : Type 0
RoundsAreFew =
    (world : WorldState) (batch turns : List Turn) (state rounds : ℕ) (last : ScheduleState)
    → Goes rounds (first_schedule world batch state) turns last
    → rounds ≤ count_by (λ turn. is_shift turn.event) turns + 1
