-- Parts that together are a world.
use Rattle.std.specs.Prelude.{◌≡◌, ◌⊎◌, ℕ, ◌*◌, ◌<◌, ◌≤◌, List, [], ◌++◌, length, slice_index_or}
use Rattle.mc_signal.specs.declared.Tagged.{Tagged}
use Rattle.mc_box.specs.Boxes.{BoxState, no_box}
use Rattle.mc_port.specs.Entries.{Entry}
use Rattle.mc_merge.specs.LaneLogs.{log_of, without_stamps}
use Rattle.mc_merge.specs.Lanes.{into_box, leads_from, leads_to, out_of_box, tunnel_at}
use Rattle.mc_merge.specs.Merging.{IsLogged}
use Rattle.mc_model.specs.Worlds.{WorldState, box_at}
use Rattle.mc_merge.specs.Account.{ComesFromHere, GoesToHere, IsPartWork, PartState, part_box, part_lane}
use Rattle.mc_merge.specs.Logs.{Own, own_log}
use Rattle.mc_port.specs.declared.stamped.Stamped.{Stamped}

-- a part before and after, its log, and what rings gave it and were given
pub record Ran : Type 0 where
  pub tables : WorldState
  pub old : PartState
  pub new : PartState
  pub log : List Own
  pub gave : ℕ → List Stamped
  pub put : ℕ → List Stamped

abbrev pub HasWorked : Ran → Type 0
HasWorked ran = IsPartWork ran.tables ran.old ran.new ran.log ran.gave ran.put

-- where each box is: the number of its part, and its number there
abbrev pub Homes : Type 0
Homes = ℕ → ℕ × ℕ

-- a box of the world stands in its part
pub record StandsIn (world : WorldState) (homes : Homes) (parts : ℕ → Ran) (boxes : List BoxState)
    (who : ℕ) : Type 0 where
  pub work : HasWorked (parts (homes who).0)
  pub before : part_box (parts (homes who).0).old (homes who).1 ≡ box_at world who
  pub after : part_box (parts (homes who).0).new (homes who).1 ≡ slice_index_or boxes who no_box
  pub tunnels : (local : ℕ) → tunnel_at (parts (homes who).0).tables (homes who).1 local ≡ tunnel_at world who local

-- the sender of a lane of the world is in this part, and sends into this lane of the part
pub record Sends (world : WorldState) (homes : Homes) (parts : ℕ → Ran) (lane part at : ℕ) : Type 0 where
  pub work : HasWorked (parts part)
  pub there : at < length (parts part).old.lanes
  pub here : ComesFromHere (parts part).tables (parts part).old at
  pub home : homes (leads_from world lane) ≡ (part, leads_from (parts part).tables at)
  pub tunnels : (local : ℕ) → out_of_box (parts part).tables (leads_from (parts part).tables at) at local
      ≡ out_of_box world (leads_from world lane) lane local

-- and the taker, which takes from this one
pub record Takes (world : WorldState) (homes : Homes) (parts : ℕ → Ran) (lane part at : ℕ) : Type 0 where
  pub work : HasWorked (parts part)
  pub there : at < length (parts part).old.lanes
  pub here : GoesToHere (parts part).tables (parts part).old at
  pub home : homes (leads_to world lane) ≡ (part, leads_to (parts part).tables at)
  pub tunnels : (local : ℕ) → into_box (parts part).tables (leads_to (parts part).tables at) at local
      ≡ into_box world (leads_to world lane) lane local
  -- what is under way at the beginning waits there
  pub waiting : part_lane (parts part).old at ≡ slice_index_or world.lanes lane []

-- a lane within one part
pub record IsInner (world : WorldState) (homes : Homes) (parts : ℕ → Ran) (lane : ℕ) (rest : List Tagged) : Type 0 where
  pub part : ℕ
  pub at : ℕ
  pub sends : Sends world homes parts lane part at
  pub takes : Takes world homes parts lane part at
  pub rest_is : rest ≡ part_lane (parts part).new at

-- a lane that goes from one part to another by a ring, which was empty, as the lane of the sender's part was
pub record Crosses (world : WorldState) (homes : Homes) (parts : ℕ → Ran) (lane : ℕ) (rest : List Tagged) : Type 0 where
  pub from : ℕ
  pub outer : ℕ
  pub to : ℕ
  pub inner : ℕ
  pub sends : Sends world homes parts lane from outer
  pub takes : Takes world homes parts lane to inner
  pub away : length (parts from).old.boxes ≤ leads_to (parts from).tables outer
  pub off : length (parts to).old.boxes ≤ leads_from (parts to).tables inner
  pub empty : part_lane (parts from).old outer ≡ []
  pub left : List Stamped
  pub ring : (parts to).gave inner ++ left ≡ (parts from).put outer
  pub rest_is : rest ≡ part_lane (parts to).new inner ++ (without_stamps left ++ part_lane (parts from).new outer)

-- each box stands in a part, and each lane is within one or crosses
pub record ArePartsOf (world : WorldState) (homes : Homes) (parts : ℕ → Ran) (logs : List (List Entry))
    (boxes : List BoxState) (rests : List (List Tagged)) : Type 0 where
  pub each_lane : length world.lanes ≡ 2 * length world.channels
  pub log_count : length logs ≡ length world.boxes
  pub box_count : length boxes ≡ length world.boxes
  pub lane_count : length rests ≡ length world.lanes
  pub logs_are : (who : ℕ) → log_of logs who ≡ own_log (homes who).1 (parts (homes who).0).log
  pub stand : (who : ℕ) → who < length world.boxes → StandsIn world homes parts boxes who
  pub carry : (lane : ℕ) → lane < length world.lanes → IsInner world homes parts lane (slice_index_or rests lane [])
      ⊎ Crosses world homes parts lane (slice_index_or rests lane [])

-- their logs, box by box, are what the merge law asks for
abbrev pub PartsAreLogged : Type 0
PartsAreLogged = (world : WorldState) (homes : Homes) (parts : ℕ → Ran) (logs : List (List Entry))
    (boxes : List BoxState) (rests : List (List Tagged))
    → ArePartsOf world homes parts logs boxes rests → IsLogged world logs boxes rests
