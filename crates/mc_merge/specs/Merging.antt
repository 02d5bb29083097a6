-- The merge law: what boxes have logged, each by itself, is one run of the world, in the order of the stamps.
use Rattle.std.specs.Prelude.{◌≡◌, Bool, filter, ℕ, ◌+◌, ◌*◌, ◌<◌, List, [], ◌++◌, length, map, slice_get, slice_index_or, Some}
use Rattle.std.specs.List.{AllByRecursion}
use Rattle.mc_signal.specs.declared.Tagged.{Tagged}
use Rattle.mc_box.specs.BoxEvents.{turn_of}
use Rattle.mc_box.specs.Boxes.{BoxState, no_box}
use Rattle.mc_box.specs.declared.event.Event.{Event}
use Rattle.mc_box.specs.declared.event.Turn.{Turn}
use Rattle.mc_port.specs.Entries.{AreMade, Entry, no_entry, stamps_of}
use Rattle.mc_merge.specs.LaneLogs.{log_of, sent_to, taken_from, without_stamps}
use Rattle.mc_merge.specs.Lanes.{FitsTunnel}
use Rattle.mc_model.specs.Settles.{of_kind}
use Rattle.mc_model.specs.Sound.{IsSound}
use Rattle.mc_model.specs.Steps.{run}
use Rattle.mc_model.specs.Worlds.{WorldState, box_at}
use Rattle.mc_order.specs.Keys.{IsOrdered, Rise}
use Rattle.mc_order.specs.declared.Key.{Key}
use Rattle.mc_port.specs.declared.stamped.Stamped.{Stamped}

-- ---- the turns of logs

-- the entry that a key names
abbrev pub entry_at : List (List Entry) → Key → Entry
entry_at logs key = slice_index_or (log_of logs key.who) key.index no_entry

-- and its turn
abbrev pub turn_at : List (List Entry) → Key → Turn
turn_at logs key = turn_of key.who (entry_at logs key).event

-- the turns of all logs, in the order of these keys
abbrev pub merged : List (List Entry) → List Key → List Turn
merged logs keys = map (turn_at logs) keys

-- ---- what is asked of logs

-- what is taken from a lane, then a rest, is what was under way on it, then what is sent into it; and of the latter
-- what is taken was sent with a stamp below that of its taking
pub record LaneKeeps (lane : List Tagged) (taken sent : List Stamped) (rest : List Tagged) : Type 0 where
  pub order : without_stamps taken ++ rest ≡ lane ++ without_stamps sent
  pub later : (j k : ℕ) (taking sending : Stamped) → j ≡ length lane + k → slice_get taken j ≡ Some taking
      → slice_get sent k ≡ Some sending → sending.stamp < taking.stamp

-- each box of a world has a log of its own, made from the box in the world to the box after it, with stamps that rise;
-- what is taken is for the slot that takes it, and each lane keeps its order
pub record IsLogged (world : WorldState) (logs : List (List Entry)) (boxes : List BoxState)
    (rests : List (List Tagged)) : Type 0 where
  pub each_lane : length world.lanes ≡ 2 * length world.channels
  pub log_count : length logs ≡ length world.boxes
  pub box_count : length boxes ≡ length world.boxes
  pub lane_count : length rests ≡ length world.lanes
  pub made : (who : ℕ) → who < length world.boxes
      → AreMade (box_at world who) (log_of logs who) (slice_index_or boxes who no_box)
  pub rise : (who : ℕ) → who < length world.boxes → Rise (stamps_of (log_of logs who))
  pub tunnels : (who : ℕ) → who < length world.boxes
      → AllByRecursion (λ entry. FitsTunnel world who entry.event entry.taken) (log_of logs who)
  pub keeps : (lane : ℕ) → lane < length world.lanes
      → LaneKeeps (slice_index_or world.lanes lane []) (taken_from world logs lane) (sent_to world logs lane)
      (slice_index_or rests lane [])

-- ---- laws

-- all events, in the one order of all stamps, are a run to the world with the boxes after them and with the rests under
-- way: no signal is lost, doubled or overtaken
abbrev pub MergeLaw : Type 0
MergeLaw =
    (world : WorldState) (logs : List (List Entry)) (keys : List Key) (boxes : List BoxState)
    (rests : List (List Tagged))
    → IsLogged world logs boxes rests → IsOrdered (map stamps_of logs) keys
    → run world (merged logs keys) ≡ Some (record world { boxes = boxes; lanes = rests })

-- and from a sound world they lead to a sound one
abbrev pub MergeKeepsSound : Type 0
MergeKeepsSound = (world : WorldState) (logs : List (List Entry)) (boxes : List BoxState) (rests : List (List Tagged))
    → IsLogged world logs boxes rests → IsSound world → IsSound (record world { boxes = boxes; lanes = rests })

-- a box's turns of a kind stand in the order of its own log
abbrev pub OwnTurns : Type 0
OwnTurns = (logs : List (List Entry)) (keys : List Key) (who : ℕ) (kind : Event → Bool)
    → IsOrdered (map stamps_of logs) keys → ((box : ℕ) → box < length logs → Rise (stamps_of (log_of logs box)))
    → of_kind kind who (merged logs keys)
    ≡ map (λ entry. turn_of who entry.event) (filter (λ entry. kind entry.event) (log_of logs who))
