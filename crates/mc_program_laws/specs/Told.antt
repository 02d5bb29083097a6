-- Where programs that go by told words come to.
use Rattle.std.specs.Prelude.{◌≡◌, ◌≢◌, ◌<◌, ℕ, true, List, [], ◌∷◌, Option, Some, None, IsFalse, IsTrue}
use Rattle.std.specs.List.{list_all}
use Rattle.mc_rule.specs.Programs.{ProgStateState, enabled}
use Rattle.mc_slot.specs.declared.Slot.{Slot}
use Rattle.mc_box.specs.BoxEvents.{turn_of}
use Rattle.mc_box.specs.Boxes.{BoxState, goals_in}
use Rattle.mc_box.specs.declared.event.Event.TheVariants.{Shift, Tell}
use Rattle.mc_box.specs.declared.event.Turn.{Turn}
use Rattle.mc_box.specs.declared.setup.SlotMedia.{SlotMedia}
use Rattle.mc_model.specs.Settles.{IsSettled, commands_of, rests, takes_or_retries}
use Rattle.mc_model.specs.Shapes.{owes_by_number}
use Rattle.mc_model.specs.Sound.{IsSound}
use Rattle.mc_model.specs.Steps.{run}
use Rattle.mc_model.specs.Worlds.{WorldState, box_at, slot_count}
use Rattle.mc_settings.specs.Settings.{Settings, set_by_all, settings_of}

-- ---- programs

-- at this state no transition goes without a word, whatever the slots are
abbrev pub AwaitsWord : List ProgStateState → ℕ → Type 0
AwaitsWord states at = (slots : List Slot) → enabled states (Some at) slots None ≡ None

-- by this word a transition goes from one state to another, whatever the slots are
abbrev pub LeadsTo : List ProgStateState → (at word target : ℕ) → Type 0
LeadsTo states at word target =
    (slots : List Slot) → enabled states (Some at) slots (Some word) ≡ Some record { target = target; spends = true }

-- a box's program has these states, is at this one or at none yet, and keeps this word, if any; and the box has these
-- settings
pub record ProgramStands (box : BoxState) (states : List ProgStateState) (place word : Option ℕ)
    (settings : Settings) : Type 0 where
  pub program : box.program ≡ Some states
  pub at : box.at ≡ place
  pub told : box.told ≡ word
  pub set : settings_of box ≡ settings

-- the goals of a state, and these media
abbrev pub settings_in : List ProgStateState → List SlotMedia → ℕ → Settings
settings_in states media at = record { goals = goals_in states at; media = media }

-- ---- worlds

-- no other box has a program
abbrev pub IsOnlyProgram : WorldState → ℕ → Type 0
IsOnlyProgram world who = (other : ℕ) → other ≢ who → (box_at world other).program ≡ None

-- no slot owes a retry
abbrev pub OwesNoRetry : WorldState → Type 0
OwesNoRetry world = (s : ℕ) → s < slot_count world → IsFalse (owes_by_number world s)

-- the turns are a Tell, then the Shift of that box, and then Takes and Retries alone
pub record ShiftsFirst (who word : ℕ) (turns : List Turn) : Type 0 where
  pub rest : List Turn
  pub are : turns ≡ turn_of who (Tell word) ∷ turn_of who Shift ∷ rest
  pub besides : IsTrue (list_all (λ turn. takes_or_retries turn.event) rest)

-- ---- laws

-- a box without a program has the settings that its own commands make
abbrev pub UnprogrammedFollows : Type 0
UnprogrammedFollows =
    (world last : WorldState) (turns : List Turn) (who : ℕ) → IsSound world → (box_at world who).program ≡ None
    → run world turns ≡ Some last
    → settings_of (box_at last who) ≡ set_by_all (commands_of who turns) (settings_of (box_at world who))

-- at a state that awaits a word a box stays as it is, as long as it has no command
abbrev pub UntoldStays : Type 0
UntoldStays =
    (world last : WorldState) (turns : List Turn) (who at : ℕ) (states : List ProgStateState) (settings : Settings)
    → IsSound world → AwaitsWord states at
    → ProgramStands (box_at world who) states (Some at) None settings → commands_of who turns ≡ []
    → run world turns ≡ Some last
    → ProgramStands (box_at last who) states (Some at) None settings

-- a program at no state is at the first one when a batch is settled that has no command of its box, if that state
-- awaits a word
abbrev pub BeginsAtFirst : Type 0
BeginsAtFirst =
    (world last : WorldState) (batch turns : List Turn) (who : ℕ) (states : List ProgStateState) (settings : Settings)
    → IsSound world → AwaitsWord states 0
    → ProgramStands (box_at world who) states None None settings → commands_of who batch ≡ []
    → IsSettled world batch turns last
    → ProgramStands (box_at last who) states (Some 0) None (settings_in states settings.media 0)

-- in a world that rests and owes no retry, whose only program awaits a word, a Tell of a word that leads to such a
-- state again is settled by a Shift first, and the box is there
abbrev pub ToldWordLeads : Type 0
ToldWordLeads =
    (world last : WorldState) (turns : List Turn) (who word at target : ℕ) (states : List ProgStateState)
    (settings : Settings)
    → IsSound world → IsTrue (rests world)
    → OwesNoRetry world → IsOnlyProgram world who → ProgramStands (box_at world who) states (Some at) None settings
    → LeadsTo states at word target → AwaitsWord states target
    → IsSettled world (turn_of who (Tell word) ∷ []) turns last
    → ShiftsFirst who word turns
    × ProgramStands (box_at last who) states (Some target) None (settings_in states settings.media target)
