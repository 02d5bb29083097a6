-- How the accounts of workers give what the merge law asks for.
use Rattle.std.specs.Prelude.{◌≡◌, ℕ, ◌*◌, ◌<◌, List, [], length, map, slice_get, slice_index_or, Some}
use Rattle.std.specs.Option.{option_map}
use Rattle.mc_box.specs.Boxes.{BoxState}
use Rattle.mc_team.specs.Carried.{IsCarried}
use Rattle.mc_port.specs.Entries.{Claimed}
use Rattle.mc_merge.specs.Claims.{IsClaimed}
use Rattle.mc_merge.specs.LaneLogs.{claimed_of}
use Rattle.mc_merge.specs.Lanes.{HasBothBoxes, leads_from, leads_to, tunnel_at}
use Rattle.mc_model.specs.Worlds.{WorldState, box_at}
use Rattle.mc_port.specs.declared.stamped.Stamped.{Stamped}
use Rattle.mc_worker.specs.Account.{IsWork}
use Rattle.mc_worker.specs.declared.worker.Worker.{Worker}

-- a worker stands for a box of the world: it has that box, with no stamp yet, its slots have their tunnels, and its log
-- has its account
pub record StandsFor (world : WorldState) (who : ℕ) (old new : Worker) (log : List Claimed) : Type 0 where
  pub box : old.part ≡ box_at world who
  pub stamp : old.stamp ≡ 0
  pub tunnels : (local : ℕ) → option_map (λ place. place.1) (slice_get old.place local) ≡ tunnel_at world who local
  pub work : IsWork old new log

-- a worker for each box, before and after some rounds, with its log, whose ends carry the lanes
pub record AreWorkersOf (world : WorldState) (old new : List Worker) (logs : List (List Claimed))
    (rests : List (List Stamped)) : Type 0 where
  pub each_lane : length world.lanes ≡ 2 * length world.channels
  pub old_count : length old ≡ length world.boxes
  pub new_count : length new ≡ length world.boxes
  pub log_count : length logs ≡ length world.boxes
  pub lane_count : length rests ≡ length world.lanes
  pub stand : (who : ℕ) (a b : Worker) → slice_get old who ≡ Some a → slice_get new who ≡ Some b
      → StandsFor world who a b (claimed_of logs who)
  pub boxes : (lane : ℕ) → lane < length world.lanes → HasBothBoxes world lane
  pub carry : (lane : ℕ) (sender sender_after taker taker_after : Worker) → lane < length world.lanes
      → slice_get old (leads_from world lane) ≡ Some sender → slice_get new (leads_from world lane) ≡ Some sender_after
      → slice_get old (leads_to world lane) ≡ Some taker → slice_get new (leads_to world lane) ≡ Some taker_after
      → IsCarried world lane sender sender_after taker taker_after (slice_index_or rests lane [])

-- the boxes of workers
abbrev pub parts_of : List Worker → List BoxState
parts_of workers = map (λ (worker : Worker). worker.part) workers

-- their logs, their boxes after it and what is still under way are what the merge law asks for
abbrev pub AccountsAreClaimed : Type 0
AccountsAreClaimed =
    (world : WorldState) (old new : List Worker) (logs : List (List Claimed)) (rests : List (List Stamped))
    → AreWorkersOf world old new logs rests → IsClaimed world logs (parts_of new) rests
