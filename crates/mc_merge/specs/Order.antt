-- The entries of all parts in one list, in the order of their times: no sort is needed, and no keys.
use Rattle.std.specs.Prelude.{◌≡◌, Bool, filter, ℕ, ◌+◌, ◌<◌, ◌≤◌, List, [], ◌∷◌, length, map, Some}
use Rattle.std.specs.List.{AllByRecursion}
use Rattle.mc_signal.specs.declared.Tagged.{Tagged}
use Rattle.mc_box.specs.BoxEvents.{turn_of}
use Rattle.mc_box.specs.Boxes.{BoxState}
use Rattle.mc_box.specs.declared.event.Turn.{Turn}
use Rattle.mc_port.specs.Entries.{Entry}
use Rattle.mc_merge.specs.LaneLogs.{log_of}
use Rattle.mc_merge.specs.Lanes.{leads_from, leads_to}
use Rattle.mc_merge.specs.Merging.{IsLogged}
use Rattle.mc_box.specs.declared.event.Event.{Event}
use Rattle.mc_model.specs.Settles.{of_kind}
use Rattle.mc_model.specs.Steps.{run}
use Rattle.mc_model.specs.Worlds.{WorldState}
use Rattle.mc_merge.specs.Logs.{Own, own_log}

-- when an entry was made, where the clock of each box begins at a time of its own
abbrev pub time_of : (ℕ → ℕ) → Own → ℕ
time_of clock own = clock own.who + own.entry.stamp

-- no time is below one before it
abbrev pub NeverFall : (ℕ → ℕ) → List Own → Type 0
NeverFall clock [] = Unit {0}
NeverFall clock (own ∷ rest) = AllByRecursion (λ (later : Own). time_of clock own ≤ time_of clock later) rest
    × NeverFall clock rest

-- the boxes at both ends of each lane have one clock
abbrev pub ShareClocks : WorldState → (ℕ → ℕ) → Type 0
ShareClocks world clock = (lane : ℕ) → lane < length world.lanes
    → clock (leads_from world lane) ≡ clock (leads_to world lane)

-- the entries of these logs of boxes, each box's in their own order
pub record IsMerged (clock : ℕ → ℕ) (logs : List (List Entry)) (whole : List Own) : Type 0 where
  pub each : (who : ℕ) → own_log who whole ≡ log_of logs who
  pub here : AllByRecursion (λ (own : Own). own.who < length logs) whole
  pub order : NeverFall clock whole

abbrev pub turns_of : List Own → List Turn
turns_of whole = map (λ (own : Own). turn_of own.who own.entry.event) whole

-- whichever comes first of two at one time, they are a run: clocks of boxes that no channels join may begin at any
-- times
abbrev pub RunsInOrder : Type 0
RunsInOrder = (clock : ℕ → ℕ) (world : WorldState) (logs : List (List Entry)) (whole : List Own) (boxes : List BoxState)
    (rests : List (List Tagged))
    → IsLogged world logs boxes rests → ShareClocks world clock → IsMerged clock logs whole
    → run world (turns_of whole) ≡ Some (record world { boxes = boxes; lanes = rests })

-- and a box's turns of a kind stand in the order of its own log
abbrev pub OwnInOrder : Type 0
OwnInOrder = (clock : ℕ → ℕ) (logs : List (List Entry)) (whole : List Own) (who : ℕ) (kind : Event → Bool)
    → IsMerged clock logs whole
    → of_kind kind who (turns_of whole) ≡ map (λ (entry : Entry). turn_of who entry.event)
    (filter (λ (entry : Entry). kind entry.event) (log_of logs who))
