-- How the channel ends of two workers carry a lane of a world.
use Rattle.std.specs.Prelude.{◌≡◌, ℕ, List, [], ◌++◌, map, slice_index_or}
use Rattle.mc_port.specs.Tunnels.{tunnels_at}
use Rattle.mc_merge.specs.Lanes.{into_box, leads_from, leads_to, out_of_box}
use Rattle.mc_model.specs.Worlds.{WorldState}
use Rattle.mc_port.specs.declared.stamped.Stamped.{Stamped}
use Rattle.mc_worker.specs.Account.{in_at, out_at}
use Rattle.mc_worker.specs.Ends.{InAccount, InEnd, OutAccount, OutEnd, unclaimed}
use Rattle.mc_worker.specs.declared.worker.Worker.{Worker}

-- where nothing was in the ring and the outbox, what was taken, and then what the inbox, the ring and the outbox have,
-- is what waited in the inbox, and then what was sent
abbrev pub EndsKeep : Type 0
EndsKeep =
    (in_old in_new : InEnd) (out_old out_new : OutEnd) (taken sent left : List Stamped) → InAccount in_old in_new taken
    → OutAccount out_old out_new sent
    → in_old.got ≡ out_old.given → out_old.outbox ≡ [] → in_new.got ++ left ≡ out_new.given
    → taken ++ (map unclaimed in_new.inbox ++ (left ++ out_new.outbox)) ≡ map unclaimed in_old.inbox ++ sent

-- a lane of a world goes from a channel end of one worker to one of another. What is under way on it waits in the inbox
-- at the beginning, and at the end stands in the inbox, in the ring and in the outbox
pub record IsCarried (world : WorldState) (lane : ℕ) (sender sender_after taker taker_after : Worker)
    (rest : List Stamped) : Type 0 where
  pub giving_end : ℕ
  pub taking_end : ℕ
  pub sends : (local : ℕ)
      → tunnels_at sender.place giving_end local ≡ out_of_box world (leads_from world lane) lane local
  pub takes : (local : ℕ) → tunnels_at taker.place taking_end local ≡ into_box world (leads_to world lane) lane local
  pub waiting : (in_at taker taking_end).inbox ≡ slice_index_or world.lanes lane []
  pub ring : (in_at taker taking_end).got ≡ (out_at sender giving_end).given
  pub outbox : (out_at sender giving_end).outbox ≡ []
  pub left : List Stamped
  pub left_is : (in_at taker_after taking_end).got ++ left ≡ (out_at sender_after giving_end).given
  pub rest_is : rest
      ≡ map unclaimed (in_at taker_after taking_end).inbox ++ (left ++ (out_at sender_after giving_end).outbox)
