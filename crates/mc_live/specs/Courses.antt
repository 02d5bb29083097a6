-- How far a box has come that runs freely.
use Rattle.std.specs.Prelude.{◌≡◌, ◌⊎◌, ℕ, ◌+◌, ◌<◌, ◌≤◌, Bool, true, false, if◌then◌else◌, IsTrue, List, [], ◌∷◌, ◌++◌, nat_lt, Option, None, Some}
use Rattle.std.specs.List.{AllByRecursion}
use Rattle.mc_box.specs.declared.event.Event.{Event}
use Rattle.mc_desk.specs.declared.request.Request.{Request}
use Rattle.mc_live.specs.Accounts.{HasRun, with_commands}
use Rattle.mc_live.specs.Requests.{end_in, ends_asked, events_asked}
use Rattle.mc_live.specs.declared.course.Course.{Course}
use Rattle.mc_live.specs.declared.course.Pace.{Pace}
use Rattle.mc_live.specs.declared.course.Pace.TheVariants.{Runs, Finished, Stopped, Unfit, Refused}
use Rattle.mc_live.specs.declared.limit.TheConstants.{FURTHER_ROUND_LIMIT}
use Rattle.mc_worker.specs.Ready.{IsAllowed, IsReady}
use Rattle.mc_worker.specs.Rounds.{HasStopped}
use Rattle.mc_worker.specs.declared.limit.TheConstants.{TURN_LIMIT}
use Rattle.mc_worker.specs.declared.stop.Stop.{Stop}
use Rattle.mc_worker.specs.declared.stop.Stop.TheVariants.{Rested, Spent, NoMemory, VersionEnd, Strange}
use Rattle.mc_worker.specs.declared.worker.Worker.{Worker}

-- nothing was asked, and no turn was made
pub record HasBegun (course : Course) : Type 0 where
  pub taken : course.taken.items ≡ []
  pub kept : course.kept.items ≡ []
  pub turns : course.turns ≡ 0
  pub ended : course.ended ≡ 0
  pub pace : course.pace ≡ Runs

-- ---- whether a box makes further rounds

abbrev pub is_refused : Pace → Bool
is_refused (Refused e) = true
is_refused pace = false

-- what a box does after a round that ended so, and so many turns in all
abbrev pub pace_by : Bool → Pace
pace_by finished = if finished then Finished else Runs

abbrev pub pace_after : ℕ → Stop → Pace
pace_after turns Rested = pace_by (nat_lt FURTHER_ROUND_LIMIT turns)
pace_after turns Spent = pace_by (nat_lt FURTHER_ROUND_LIMIT turns)
pace_after turns (NoMemory e) = Refused e
pace_after turns (VersionEnd slot) = Stopped (VersionEnd slot)
pace_after turns (Strange end tunnel) = Stopped (Strange end tunnel)

-- a stop after which a box makes no further round
abbrev pub IsLastStop : Worker → Stop → Type 0
IsLastStop worker Rested = ⊥
IsLastStop worker Spent = ⊥
IsLastStop worker (NoMemory e) = ⊥
IsLastStop worker (VersionEnd slot) = HasStopped (Unit {0}) worker (VersionEnd slot)
IsLastStop worker (Strange end tunnel) = HasStopped (Unit {0}) worker (Strange end tunnel)

-- all events among these requests are commands that the shape of the worker's box enables
abbrev pub AreAllAllowed : Worker → List Request → Type 0
AreAllAllowed worker requests = AllByRecursion (IsAllowed worker.part) (events_asked requests)

-- whether a box makes further rounds, and why it makes none
abbrev pub GoesSo : Worker → Worker → List Request → List Event → ℕ → Pace → Type 0
GoesSo a b taken kept turns Runs = (turns ≤ FURTHER_ROUND_LIMIT) × (kept ≡ [])
GoesSo a b taken kept turns Finished = FURTHER_ROUND_LIMIT < turns
GoesSo a b taken kept turns (Stopped stop) = IsLastStop b stop
GoesSo a b taken kept turns Unfit = AreAllAllowed a taken → ⊥
GoesSo a b taken kept turns (Refused e) = ⊥

-- ---- how far it has come

-- the box has run; the events that it was asked for are the commands that it got, and then those that were kept, from
-- the first on that it can't make; and all is counted
pub record HasCome (a b : Worker) (sent took : ℕ) (course : Course) : Type 0 where
  pub added : List Event
  pub run : HasRun a b added course.turns sent took
  pub allowed : AllByRecursion (IsAllowed a.part) added
  pub asked : events_asked course.taken.items ≡ added ++ course.kept.items
  pub none_kept : AreAllAllowed a course.taken.items → course.kept.items ≡ []
  pub ended_is : course.ended ≡ ends_asked course.taken.items
  pub few : course.turns ≤ FURTHER_ROUND_LIMIT + TURN_LIMIT
  pub goes : GoesSo a b course.taken.items course.kept.items course.turns course.pace

-- unless memory was wanting, this is how far it has come, and these are the requests that it has
pub record IsOn (a b : Worker) (asked : List Request) (sent took : ℕ) (course : Course) : Type 0 where
  pub ready : IsReady b
  pub come : IsTrue (is_refused course.pace) ⊎ (HasCome a b sent took course × (asked ≡ course.taken.items))

-- ---- one request

-- after an event that it can't make a box makes no further round
abbrev pub unfit_pace : Pace → Pace
unfit_pace Runs = Unfit
unfit_pace pace = pace

-- the worker has a command more
pub record GetsCommand (event : Event) (a b : Worker) (old new : Course) : Type 0 where
  pub allowed : IsAllowed a.part event
  pub none_kept : old.kept.items ≡ []
  pub worker : b ≡ with_commands a b.stimuli
  pub added : b.stimuli.items ≡ a.stimuli.items ++ event ∷ []
  pub kept : new.kept.items ≡ old.kept.items
  pub pace : new.pace ≡ old.pace

-- the event is kept, since the box can't make it or one before it
pub record KeepsCommand (event : Event) (a b : Worker) (old new : Course) : Type 0 where
  pub why : (old.kept.items ≡ [] → ⊥) ⊎ (IsAllowed a.part event → ⊥)
  pub worker : b ≡ a
  pub kept : new.kept.items ≡ old.kept.items ++ event ∷ []
  pub pace : new.pace ≡ unfit_pace old.pace

-- nothing changed
pub record IsAsWas (a b : Worker) (old new : Course) : Type 0 where
  pub worker : b ≡ a
  pub kept : new.kept.items ≡ old.kept.items
  pub pace : new.pace ≡ old.pace

abbrev pub MeetsEvent : Option Event → Worker → Worker → Course → Course → Type 0
MeetsEvent None a b old new = IsAsWas a b old new
MeetsEvent (Some event) a b old new = GetsCommand event a b old new ⊎ KeepsCommand event a b old new

-- a request was taken in
pub record TakesIn (request : Request) (a b : Worker) (old new : Course) : Type 0 where
  pub turns : new.turns ≡ old.turns
  pub taken : new.taken.items ≡ old.taken.items ++ request ∷ []
  pub ended : new.ended ≡ old.ended + end_in request.event
  pub event : MeetsEvent request.event a b old new
