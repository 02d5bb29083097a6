-- What the boxes of a team have done in however many rounds, and then what was under way was carried.
use Rattle.std.specs.Prelude.{◌≡◌, ◌^◌, ◌<◌, ℕ, List, length, map, slice_get, Some}
use Rattle.mc_merge.specs.Claims.{IsClaimed}
use Rattle.mc_merge.specs.LaneLogs.{claimed_of, without_stamps}
use Rattle.mc_model.specs.Worlds.{ChannelState}
use Rattle.mc_port.specs.Entries.{Claimed}
use Rattle.mc_port.specs.declared.stamped.Stamped.{Stamped}
use Rattle.mc_team.specs.Carries.{CarriesLanes}
use Rattle.mc_team.specs.Ends.{parts_of}
use Rattle.mc_team.specs.Rounds.{round_logs}
use Rattle.mc_team.specs.Teams.{lanes_of, world_of}
use Rattle.mc_team.specs.declared.layout.LaneEnds.{LaneEnds}
use Rattle.mc_team.specs.declared.member.Member.{Member}
use Rattle.mc_worker.specs.Account.{IsWork, logged}
use Rattle.mc_worker.specs.Ready.{IsReady}
use Rattle.mc_worker.specs.declared.worker.Worker.{Worker}

-- ---- one box

-- it has the box of a worker, with the places of its slots and all that stands at its channel ends
pub record HasEndsOf (worker other : Worker) : Type 0 where
  pub part : other.part ≡ worker.part
  pub place : other.place ≡ worker.place
  pub ins : other.ins ≡ worker.ins
  pub outs : other.outs ≡ worker.outs
  pub inboxes : other.inboxes ≡ worker.inboxes
  pub outboxes : other.outboxes ≡ worker.outboxes

-- a box has made turns: these entries lead from its worker as it began, with whatever commands and with no stamp, to
-- its worker now; they are all that it logged, and few enough for their numbers to fit
pub record HasWorked (old ran : Member) (before : Worker) (log : List Claimed) : Type 0 where
  pub ends : HasEndsOf old.worker before
  pub stamp : before.stamp ≡ 0
  pub work : IsWork before ran.worker log
  pub logs : ran.worker.log.items ≡ map logged log
  pub short : length log < 2 ^ 32
  pub ready : IsReady ran.worker

-- ---- all boxes

-- each box has made turns, of which this is known besides
pub record HaveWorked (Known : ℕ → Member → Member → List Claimed → Type 0) (old ran : List Member) : Type 0 where
  pub count : length ran ≡ length old
  pub each : (who : ℕ) (a c : Member) → slice_get old who ≡ Some a → slice_get ran who ≡ Some c
      → (before : Worker) × (log : List Claimed) × HasWorked a c before log × Known who a c log

-- and then what was under way on the lanes was carried
pub record MadeTurns (Known : ℕ → Member → Member → List Claimed → Type 0) (lanes : List LaneEnds)
    (old ran new : List Member) : Type 0 where
  pub run : HaveWorked Known old ran
  pub carried : CarriesLanes lanes ran new

-- the logs of all boxes, and what is under way after them, are what the merge law asks for; the boxes keep the logs, of
-- each of which this is known besides
pub record AreTurnsClaimed (Known : ℕ → Member → Member → List Claimed → Type 0) (channels : List ChannelState)
    (lanes : List LaneEnds) (old ran new : List Member) : Type 0 where
  pub logs : List (List Claimed)
  pub rests : List (List Stamped)
  pub claimed : IsClaimed (world_of channels old lanes) logs (parts_of new) rests
  pub under_way : map without_stamps rests ≡ lanes_of new lanes
  pub kept : round_logs new ≡ map (λ (log : List Claimed). map logged log) logs
  pub each : (who : ℕ) (a c : Member) → slice_get old who ≡ Some a → slice_get ran who ≡ Some c
      → Known who a c (claimed_of logs who)
