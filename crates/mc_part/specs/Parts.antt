-- A part as it runs, and its account.
use Rattle.std.specs.Prelude.{◌≡◌, ◌==◌, if◌then◌else◌, IsTrue, ℕ, ◌+◌, ◌<◌, ◌≤◌, max, List, [], ◌∷◌, ◌++◌, drop, length, map, slice_index_or}
use Rattle.std.specs.List.{AllByRecursion}
use Rattle.mc_box.specs.BoxEvents.{is_command}
use Rattle.mc_box.specs.declared.event.Event.{Event}
use Rattle.mc_box.specs.declared.event.Turn.{Turn}
use Rattle.mc_box.specs.declared.limit.TheConstants.{SHIFT_LIMIT}
use Rattle.mc_model.specs.Worlds.{WorldState, channel_number_limit}
use Rattle.mc_merge.specs.Account.{IsPartWork, PartState}
use Rattle.mc_merge.specs.Clocks.{IsClocked}
use Rattle.mc_merge.specs.Logs.{Own}
use Rattle.mc_merge.specs.Turns.{no_items}
use Rattle.mc_merge.specs.Uses.{AreOwnUses, Uses}
use Rattle.mc_port.specs.declared.stamped.Stamped.{Stamped}
use Rattle.mc_merge.specs.Wholes.{made_of}
use Rattle.mc_world.specs.StepAnswers.{CannotHappen, LacksVersion}
use Rattle.mc_world.specs.declared.network.step.StepFault.{StepFault}
use Rattle.mc_world.specs.declared.network.step.StepFault.TheVariants.{NotEnabled, NoMemory, VersionEnd}
use Rattle.mc_part.specs.Ports.{LeadAway, given_at, received_at, rings_of, sides}
use Rattle.mc_part.specs.Spans.{HasSpanned, Ports}
use Rattle.mc_part.specs.declared.part.Part.{Part}
use Rattle.mc_part.specs.declared.limit.TheConstants.{STAMP_LIMIT}

abbrev pub state_of : Part → PartState
state_of part = record { boxes = part.engine.boxes; lanes = part.engine.lanes; stamp = part.stamp; heard = part.heard }

-- its tables, which depend on its channels alone
abbrev pub tables_of : Part → WorldState
tables_of part = record { boxes = []; channels = part.engine.channels; lanes = [] }

-- ---- one turn

-- one turn of this event, which is work of the part and stands in its log; nothing else of the part changes
pub record TurnsOnce (a b : Part) (who : ℕ) (event : Event) : Type 0 where
  pub own : Own
  pub box : own.who ≡ who
  pub event_is : own.entry.event ≡ event
  pub here : own.who < length a.engine.boxes
  pub work : IsPartWork (tables_of a) (state_of a) (state_of b) (own ∷ []) no_items no_items
  pub clocked : IsClocked (state_of a) (state_of b) (own ∷ []) no_items no_items
  pub channels : b.engine.channels ≡ a.engine.channels
  pub stamp : b.stamp ≡ max a.stamp a.heard + 1
  pub log : b.log.items ≡ a.log.items ++ made_of own ∷ []
  pub kept : b ≡ record a { engine = b.engine; stamp = b.stamp; log = b.log }

-- why there is no step
abbrev pub IsRefused : WorldState → Turn → StepFault → Type 0
IsRefused world turn NotEnabled = CannotHappen world turn
IsRefused world turn VersionEnd = LacksVersion world turn
IsRefused world turn (NoMemory e) = Unit {0}

-- ---- what is left of a settle

-- the events of one box's commands, in order
abbrev pub events_for : ℕ → List Turn → List Event
events_for who [] = []
events_for who (turn ∷ turns) = (if turn.who == who then turn.event ∷ [] else []) ++ events_for who turns

-- those that aren't made
abbrev pub stimuli_of : Part → ℕ → List Event
stimuli_of part who = events_for who (drop part.used part.commands.items)

abbrev pub shifts_of : Part → ℕ → ℕ
shifts_of part who = slice_index_or part.shifts.items who 0

abbrev pub no_retries : ℕ → ℕ → ℕ
no_retries who local = 0

-- the commands that are left to each box, and its Shifts, beside retries
abbrev pub uses_of : Part → (ℕ → ℕ → ℕ) → Uses
uses_of part retries = record { stimuli = stimuli_of part; shifts = shifts_of part; retries = retries }

-- ---- a run

-- what went through its ports so far, by lane
abbrev pub ports_of : Part → Ports
ports_of part = record { received = received_at part.ports.items; given = given_at part.ports.items }

-- what a part has made since, while rings gave this and were given that, as its ports say: its account, from which
-- its log has grown, with so many retries of each slot; and what that used up of its commands and counts of its Shifts
pub record HasRun (a b : Part) (gave put : ℕ → List Stamped) (retries : ℕ → ℕ → ℕ) : Type 0 where
  pub log : List Own
  pub spanned : HasSpanned (tables_of a) (state_of a) (state_of b) (ports_of a) (ports_of b) log gave put
  pub channels : b.engine.channels ≡ a.engine.channels
  pub logged : b.log.items ≡ a.log.items ++ map made_of log
  pub uses : AreOwnUses log (uses_of a no_retries) (uses_of b retries)
  pub commands : b.commands ≡ a.commands
  pub sides : sides b.ports.items ≡ sides a.ports.items
  pub rings : map rings_of b.ports.items ≡ map rings_of a.ports.items

-- the same, whatever rings gave and were given
pub record Runs (a b : Part) (retries : ℕ → ℕ → ℕ) : Type 0 where
  pub gave : ℕ → List Stamped
  pub put : ℕ → List Stamped
  pub run : HasRun a b gave put retries

-- the channel of each port leads to a place holder
abbrev pub LeadsAway : Part → Type 0
LeadsAway part = LeadAway (tables_of part) (length part.engine.boxes) (sides part.ports.items)

-- what a part keeps while it runs: each stamp is one of so many, since what came has a stamp within the limit and each
-- turn has raised it by one at most; each box has its count of Shifts; its commands are none but commands; and it has
-- no more ports than a network has channels
pub record IsWithin (part : Part) : Type 0 where
  pub stamp : part.stamp ≤ STAMP_LIMIT + length part.log.items
  pub heard : part.heard ≤ STAMP_LIMIT
  pub counts : length part.shifts.items ≡ length part.engine.boxes
  pub shifts : (who : ℕ) → shifts_of part who ≤ SHIFT_LIMIT
  pub commands : AllByRecursion (λ (turn : Turn). IsTrue (is_command turn.event)) part.commands.items
  pub ports : length part.ports.items ≤ channel_number_limit
