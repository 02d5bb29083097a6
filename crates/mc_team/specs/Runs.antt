-- What a round does to the boxes of a team.
use Rattle.std.specs.Prelude.{◌≡◌, ◌↔◌, ℕ, ◌<◌, ◌≤◌, Bool, false, MatchBool, List, [], length, None, Some, slice_get}
use Rattle.mc_box.specs.BoxShapes.{box_shape}
use Rattle.mc_lane.specs.Queue.{Queue}
use Rattle.mc_team.specs.declared.member.Member.{Member}
use Rattle.mc_worker.specs.Ready.{IsReady}
use Rattle.mc_worker.specs.Rounds.{AllIdle, HasStopped, HasWaitingWork, HasWork, IsRound}
use Rattle.mc_worker.specs.Turns.{is_memory}
use Rattle.mc_worker.specs.declared.limit.TheConstants.{FIRST_STAMP_LIMIT, TURN_LIMIT}
use Rattle.mc_worker.specs.declared.logged.Logged.{Logged}
use Rattle.mc_worker.specs.declared.stop.RoundEnd.{RoundEnd}
use Rattle.mc_worker.specs.declared.stop.Stop.TheVariants.{Rested, Spent}
use Rattle.mc_worker.specs.declared.worker.Worker.{Worker}

-- ---- a box as it is looked at

-- a box as it is made ready for a round: with this log, and the stamp 0
abbrev pub cleared : Worker → Queue Logged → Worker
cleared worker log = record worker { log = log; stamp = 0 }

-- a box was made ready for a round: its log is empty, its stamp is 0, it has no end yet, and the rest is as it was
pub record IsLookedAt (old new : Member) : Type 0 where
  pub log : new.worker.log.items ≡ []
  pub kept : new ≡ record { worker = cleared old.worker new.worker.log; end = None }
  pub ready : IsReady new.worker

-- ---- a round

-- a round may be made
pub record CanMakeRound (worker : Worker) : Type 0 where
  pub ready : IsReady worker
  pub stamp : worker.stamp ≤ FIRST_STAMP_LIMIT

-- a round was made, and its end was kept
pub record IsRan (retries : Bool) (old new : Member) : Type 0 where
  pub end : RoundEnd
  pub is : new.end ≡ Some end
  pub round : IsRound retries old.worker new.worker end
  pub ready : IsReady new.worker
  pub shape : box_shape new.worker.part ≡ box_shape old.worker.part
  pub most : end.turns ≤ TURN_LIMIT
  pub cause : end.turns < TURN_LIMIT → HasStopped (AllIdle old.worker new.worker) new.worker end.stop
  pub spent : (end.stop ≡ Spent) ↔ (end.turns ≡ TURN_LIMIT)
  pub works : HasWork retries old.worker → end.turns ≡ 0 → end.stop ≡ Rested → ⊥

-- a box was made ready; then it made a round if something waited for it, and else it stayed so
pub record HasRun (retries : Bool) (old new : Member) : Type 0 where
  pub looked : Member
  pub looks : IsLookedAt old looked
  pub works : Bool
  pub did : MatchBool works (HasWaitingWork retries looked.worker × IsRan retries looked new)
      ((HasWaitingWork retries looked.worker → ⊥) × (new ≡ looked))

-- and so did each
pub record HaveRun (retries : Bool) (old new : List Member) : Type 0 where
  pub count : length new ≡ length old
  pub each : (who : ℕ) (a b : Member) → slice_get old who ≡ Some a → slice_get new who ≡ Some b → HasRun retries a b

-- no box stopped for want of memory
abbrev pub NoneRefused : List Member → Type 0
NoneRefused members =
    (who : ℕ) (member : Member) (end : RoundEnd) → slice_get members who ≡ Some member → member.end ≡ Some end
    → is_memory end.stop ≡ false
