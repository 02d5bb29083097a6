-- How a part's run goes on and ends.
use Rattle.std.specs.Prelude.{◌≡◌, ◌≢◌, ◌⊎◌, ◌<◌, ◌≤◌, ◌+◌, ◌*◌, ◌&&◌, ℕ, Bool, true, false, if◌then◌else◌, IsFalse, IsTrue, List, [], ◌∷◌, length, max, slice_get, Option, Some, Result, Ok, Err}
use Rattle.mc_box.specs.BoxEvents.{is_enabled, turn_of}
use Rattle.mc_box.specs.declared.event.Event.{Event}
use Rattle.mc_box.specs.declared.event.Event.TheVariants.{Media, Shift, Take}
use Rattle.mc_box.specs.declared.event.MediaChange.TheVariants.{Hear}
use Rattle.mc_box.specs.declared.event.Turn.{Turn}
use Rattle.mc_box.specs.declared.limit.TheConstants.{SHIFT_LIMIT, SLOT_LIMIT}
use Rattle.mc_model.specs.Settles.{world_owes}
use Rattle.mc_model.specs.Worlds.{box_at}
use Rattle.mc_world.specs.StepAnswers.{CannotHappen, LacksVersion}
use Rattle.mc_world.specs.Waiting.{take_waits}
use Rattle.mc_part.specs.Parts.{IsWithin, Runs, no_retries, shifts_of, stimuli_of}
use Rattle.mc_part.specs.Ports.{entry_slot, into_lane}
use Rattle.mc_part.specs.declared.limit.TheConstants.{STAMP_LIMIT}
use Rattle.mc_part.specs.declared.port.Port.{Port}
use Rattle.mc_part.specs.declared.part.Part.{Part}
use Rattle.mc_part.specs.declared.stop.Ended.{Ended}
use Rattle.mc_part.specs.declared.stop.Ended.TheVariants.{Late, Rest}
use Rattle.mc_part.specs.declared.stop.PartStop.{PartStop}
use Rattle.mc_part.specs.declared.stop.PartStop.TheVariants.{NoMemory, Spent, VersionEnd, Unable, Strange, Stray}
use Rattle.mc_port.specs.Ends.{known}
use Rattle.mc_port.specs.declared.stamped.Stamped.{Stamped}
use Rattle.mc_world.specs.Pumping.{is_slot_at}

-- ---- Shifts

-- a box can't shift, or has made all its Shifts
abbrev pub IsCalm : Part → ℕ → Type 0
IsCalm part who = (is_enabled (box_at part.engine who) Shift ≡ false) ⊎ (SHIFT_LIMIT ≤ shifts_of part who)

abbrev pub AreCalm : Part → Type 0
AreCalm part = (who : ℕ) → who < length part.engine.boxes → IsCalm part who

-- a box has one of these commands, but for the first so many
pub record IsCommanded (first : ℕ) (commands : List Turn) (who : ℕ) : Type 0 where
  pub at : ℕ
  pub turn : Turn
  pub from : first ≤ at
  pub there : slice_get commands at ≡ Some turn
  pub is : turn.who ≡ who

-- no box that has none of these can shift, unless it has made all its Shifts
abbrev pub AreCalmFrom : ℕ → Part → Type 0
AreCalmFrom first part = (who : ℕ) → who < length part.engine.boxes
    → IsCalm part who ⊎ IsCommanded first part.commands.items who

-- nothing changes at other boxes
pub record ChangesOnly (a b : Part) (who : ℕ) : Type 0 where
  pub boxes : (other : ℕ) → other ≢ who → box_at b.engine other ≡ box_at a.engine other
  pub shifts : (other : ℕ) → other ≢ who → shifts_of b other ≡ shifts_of a other

-- a box may make a Shift
pub record MayShift (part : Part) (who : ℕ) : Type 0 where
  pub here : who < length part.engine.boxes
  pub enabled : is_enabled (box_at part.engine who) Shift ≡ true
  pub fewer : shifts_of part who < SHIFT_LIMIT

-- ---- going on

-- what was made is the part's work, no retry, and within the budget
pub record Goes (budget : ℕ) (a b : Part) : Type 0 where
  pub runs : Runs a b no_retries
  pub within : IsWithin b
  pub few : length b.log.items ≤ max budget (length a.log.items)

-- ---- retries

-- each retry that is owed, once, where they are asked for
abbrev pub owed_of : Bool → Part → ℕ → ℕ → ℕ
owed_of retries part who local = if retries && world_owes part.engine who local then 1 else 0

-- where they are asked for they fit into the budget, however many are owed
abbrev pub HasRoom : Bool → ℕ → Part → Type 0
HasRoom retries budget part = IsTrue retries
    → length part.log.items + SLOT_LIMIT * length part.engine.boxes ≤ budget

-- some of them
pub record RunsSome (a b : Part) : Type 0 where
  pub retries : ℕ → ℕ → ℕ
  pub runs : Runs a b retries

-- the run has each retry that was owed where it began, if they were asked for, and else none; only where memory wants
-- some may be left out
abbrev pub RunsTo : Bool → Part → Part → PartStop → Type 0
RunsTo retries a b (NoMemory e) = RunsSome a b
RunsTo retries a b stop = Runs a b (owed_of retries a)

abbrev pub RunsAs : {T : Type 0} → Bool → Part → Part → Result T PartStop → Type 0
RunsAs retries a b (Ok done) = Runs a b (owed_of retries a)
RunsAs retries a b (Err stop) = RunsTo retries a b stop

-- ---- ends

abbrev pub NothingWaits : Part → Type 0
NothingWaits part = (who local : ℕ) → who < length part.engine.boxes → take_waits part.engine who local ≡ false

abbrev pub NoneLeft : Part → Type 0
NoneLeft part = (who : ℕ) → stimuli_of part who ≡ []

-- all commands are made, and no box can shift, unless it has made all its Shifts
pub record HasBegun (part : Part) : Type 0 where
  pub left : NoneLeft part
  pub calm : AreCalm part

-- and nothing waits at any of its boxes
pub record IsAtRest (part : Part) : Type 0 where
  pub begun : HasBegun part
  pub waits : NothingWaits part

-- it still looks at its rings
pub record IsLate (part : Part) : Type 0 where
  pub begun : HasBegun part
  pub ports : 0 < length part.ports.items

abbrev pub next_command : Part → Option Turn
next_command part = slice_get part.commands.items part.used

-- it is the first of those that are left to its box
abbrev pub NextIsFirst : Type 0
NextIsFirst = (part : Part) (turn : Turn) → next_command part ≡ Some turn
    → (rest : List Event) × (stimuli_of part turn.who ≡ turn.event ∷ rest)

-- the next command is a Hear of this slot, whose descriptor has the last version
pub record MeetsVersionEnd (part : Part) (who local : ℕ) : Type 0 where
  pub on : Bool
  pub next : next_command part ≡ Some (turn_of who (Media (Hear local on)))
  pub lacks : LacksVersion part.engine (turn_of who (Media (Hear local on)))

-- the next command can't happen
pub record MeetsUnable (part : Part) (who : ℕ) : Type 0 where
  pub event : Event
  pub next : next_command part ≡ Some (turn_of who event)
  pub cannot : CannotHappen part.engine (turn_of who event)

-- a signal waits that its slot must not take
pub record MeetsStrange (part : Part) (who local : ℕ) : Type 0 where
  pub here : who < length part.engine.boxes
  pub waits : take_waits part.engine who local ≡ true
  pub cannot : CannotHappen part.engine (turn_of who (Take local))

-- the ring of a port has an item first that is above the limit of stamps, or for no slot that its lane leads to
pub record MeetsStray (part : Part) (channel : ℕ) : Type 0 where
  pub port : Port
  pub item : Stamped
  pub there : slice_get part.ports.items channel ≡ Some port
  pub first : slice_get (known port.from) 0 ≡ Some item
  pub stray : (STAMP_LIMIT < item.stamp)
      ⊎ IsFalse (is_slot_at part.engine (into_lane channel port.starts_here) item.tunnel (entry_slot port item.tunnel))

-- why a part stops
abbrev pub StopsAs : PartStop → Part → ℕ → Type 0
StopsAs Spent part budget = budget ≤ length part.log.items
StopsAs (VersionEnd who local) part budget = MeetsVersionEnd part who local
StopsAs (Unable who) part budget = MeetsUnable part who
StopsAs (Strange who local) part budget = MeetsStrange part who local
StopsAs (Stray channel) part budget = MeetsStray part channel
StopsAs (NoMemory e) part budget = Unit {0}

-- whatever the budget is
abbrev pub StraysAs : Part → PartStop → Type 0
StraysAs part stop = (budget : ℕ) → StopsAs stop part budget

-- how its run ends
abbrev pub EndsAs : Result Ended PartStop → Part → ℕ → Type 0
EndsAs (Ok Rest) part budget = IsAtRest part
EndsAs (Ok Late) part budget = IsLate part
EndsAs (Err stop) part budget = StopsAs stop part budget

-- ---- progress

-- there is a command, or a signal that waits, or a retry that is owed, or a Shift that a box may make
abbrev pub HasWork : Bool → Part → Type 0
HasWork retries part = ((who : ℕ) × (stimuli_of part who ≢ []))
    ⊎ (((who : ℕ) × ((local : ℕ) × ((who < length part.engine.boxes) × (take_waits part.engine who local ≡ true))))
    ⊎ (((who : ℕ) × ((local : ℕ) × (owed_of retries part who local ≡ 1)))
    ⊎ ((who : ℕ) × MayShift part who)))

-- then a turn is made
abbrev pub MakesSome : Bool → ℕ → Part → Part → Type 0
MakesSome retries budget a b = length a.log.items < budget → HasWork retries a
    → length a.log.items < length b.log.items

-- unless something stops it
abbrev pub Progresses : Bool → ℕ → Part → Part → Result Ended PartStop → Type 0
Progresses retries budget a b (Ok ended) = MakesSome retries budget a b
Progresses retries budget a b (Err Spent) = MakesSome retries budget a b
Progresses retries budget a b (Err stop) = Unit {0}

-- some box has fewer commands left
pub record UsesCommand (a b : Part) : Type 0 where
  pub who : ℕ
  pub fewer : length (stimuli_of b who) < length (stimuli_of a who)

-- a part may make a turn, and has commands
pub record IsToCommand (budget : ℕ) (part : Part) : Type 0 where
  pub room : length part.log.items < budget
  pub who : ℕ
  pub left : stimuli_of part who ≢ []

-- then one is used up
abbrev pub UsesFirst : ℕ → Part → Part → Type 0
UsesFirst budget a b = IsToCommand budget a → UsesCommand a b

-- unless something but the budget stops it
abbrev pub UsesTo : ℕ → Part → Part → PartStop → Type 0
UsesTo budget a b Spent = UsesFirst budget a b
UsesTo budget a b stop = Unit {0}

abbrev pub UsesAs : ℕ → Part → Part → Result Ended PartStop → Type 0
UsesAs budget a b (Ok ended) = UsesFirst budget a b
UsesAs budget a b (Err stop) = UsesTo budget a b stop

-- a part that goes on for as long as it may has made a turn, or nothing waits
abbrev pub HasTried : Part → Part → Type 0
HasTried a b = NothingWaits b ⊎ (length a.log.items < length b.log.items)
