-- What the boxes of a team do that run freely, each on a thread of its own.
use Rattle.std.specs.List.{AllByRecursion, AllZip, sum_by}
use Rattle.std.specs.Prelude.{◌≡◌, ◌≢◌, ◌⊎◌, ◌++◌, ◌+◌, ◌*◌, ◌<◌, ◌≤◌, ◌==◌, ℕ, false, Bool, List, [], count_by, length, map, slice_get, MatchOption, None, Some}
use Rattle.mc_box.specs.BoxEvents.{is_command, is_take, turn_of}
use Rattle.mc_box.specs.declared.event.Event.{Event}
use Rattle.mc_box.specs.declared.event.Turn.{Turn}
use Rattle.mc_desk.specs.Desks.{taken_by}
use Rattle.mc_desk.specs.declared.desk.Desk.{Desk}
use Rattle.mc_flight.specs.Seats.{sent_count, taken_count}
use Rattle.mc_laws.specs.Measures.{under_way}
use Rattle.mc_live.specs.BoxRuns.{HaveRunFreely}
use Rattle.mc_live.specs.Courses.{AreAllAllowed, IsLastStop, is_refused}
use Rattle.mc_live.specs.Requests.{events_asked}
use Rattle.mc_live.specs.declared.box_run.BoxRun.{BoxRun}
use Rattle.mc_live.specs.declared.course.Pace.{Pace}
use Rattle.mc_live.specs.declared.course.Pace.TheVariants.{Runs, Finished, Stopped, Unfit, Refused}
use Rattle.mc_live.specs.declared.limit.TheConstants.{FURTHER_ROUND_LIMIT}
use Rattle.mc_model.specs.Settles.{commands_of, of_kind}
use Rattle.mc_model.specs.Steps.{run}
use Rattle.mc_model.specs.Worlds.{ChannelState, WorldState, box_at}
use Rattle.mc_port.specs.Entries.{Claimed, count_sent, events_that}
use Rattle.mc_team.specs.Carries.{CarriesLanes}
use Rattle.mc_team.specs.Ends.{parts_of}
use Rattle.mc_team.specs.Logs.{AreTurnsOf}
use Rattle.mc_team.specs.Rounds.{round_logs}
use Rattle.mc_team.specs.Runs.{cleared}
use Rattle.mc_team.specs.Teams.{StandForWorld, world_of}
use Rattle.mc_team.specs.declared.layout.LaneEnds.{LaneEnds}
use Rattle.mc_team.specs.declared.member.Member.{Member}
use Rattle.mc_worker.specs.Rounds.{IsLastHear}
use Rattle.mc_worker.specs.declared.limit.TheConstants.{STAMP_LIMIT, TURN_LIMIT}
use Rattle.mc_worker.specs.declared.stop.Stop.TheVariants.{Strange}

-- ---- boxes of a team

-- the worker of a member is about to run freely: it was made ready, and no command is left to it
pub record IsSetFree (member : Member) (free : BoxRun) : Type 0 where
  pub worker : free.worker ≡ cleared member.worker free.worker.log
  pub log : free.worker.log.items ≡ []
  pub no_command : member.worker.stimuli.items ≡ []

abbrev pub AreSetFree : List Member → List BoxRun → Type 0
AreSetFree members free = AllZip IsSetFree members free

-- it is a member again
abbrev pub member_of : BoxRun → Member
member_of free = record { worker = free.worker; end = None }

-- memory was wanting for none
abbrev pub NoneRefused : List BoxRun → Type 0
NoneRefused free = AllByRecursion (λ (own : BoxRun). is_refused own.course.pace ≡ false) free

-- ---- what a box tells of its turns

-- the commands that are left to a box: those that its worker has, and then what it was asked from the first event on
-- that it can't make
abbrev pub left_by : BoxRun → List Event
left_by free = free.worker.stimuli.items ++ free.course.kept.items

-- why commands are left to a box that makes no further round: it has made its turns; its next command is a Hear of a
-- slot at its last version, or the signal that is next at an end can't be taken; or it was asked for an event that it
-- can't make. To one that makes rounds none is left
abbrev pub IsLeftSo : BoxRun → Pace → Type 0
IsLeftSo free Runs = left_by free ≡ []
IsLeftSo free Finished = FURTHER_ROUND_LIMIT < free.course.turns
IsLeftSo free (Stopped stop) = IsLastStop free.worker stop
IsLeftSo free Unfit = AreAllAllowed free.worker (taken_by free.taker) → ⊥
IsLeftSo free (Refused e) = ⊥

-- the log of a box has as many turns as its course says; what they sent and took was counted with its seat; and their
-- commands, and then those that are left, are the events that it was asked for, in their order
pub record IsTold (free : BoxRun) (log : List Claimed) : Type 0 where
  pub turns : free.course.turns ≡ length log
  pub sent : sent_count free.seat ≡ count_sent log
  pub took : taken_count free.seat ≡ length (events_that is_take log)
  pub commands : events_that is_command log ++ left_by free ≡ events_asked (taken_by free.taker)

-- the turns of a box are those of a log
abbrev pub AreOwnTurns : List Turn → ℕ → List Claimed → Type 0
AreOwnTurns turns who log = (kind : Event → Bool) → of_kind kind who turns ≡ map (turn_of who) (events_that kind log)

-- ---- all boxes

-- these turns are a run from the world of the one team to that of the other, which is one again; and each box's own
-- turns are those of a log of which its course and its seat tell
pub record IsFreeRun (channels : List ChannelState) (lanes : List LaneEnds) (ends : List (List ℕ))
    (old new : List Member) (free : List BoxRun) (turns : List Turn) : Type 0 where
  pub stand : StandForWorld channels new lanes ends
  pub runs : run (world_of channels old lanes) turns ≡ Some (world_of channels new lanes)
  pub each : (who : ℕ) (own : BoxRun) → slice_get free who ≡ Some own
      → (log : List Claimed) × IsTold own log × AreOwnTurns turns who log
  -- its commands, and then those that are left, are the events that it was asked for, in their order and each once
  pub commands : (who : ℕ) (own : BoxRun) → slice_get free who ≡ Some own
      → commands_of who turns ++ map (turn_of who) (left_by own)
      ≡ map (turn_of who) (events_asked (taken_by own.taker))
  pub left : (who : ℕ) (own : BoxRun) → slice_get free who ≡ Some own → IsLeftSo own own.course.pace
  -- the team's boxes are those that ran
  pub parts : parts_of new ≡ map (λ (own : BoxRun). own.worker.part) free
  -- nothing was kept of a box that was asked only for what it can make
  pub none_kept : (who : ℕ) (own : BoxRun) → slice_get free who ≡ Some own
      → AreAllAllowed own.worker (taken_by own.taker) → own.course.kept.items ≡ []
  -- no box has stopped at a signal that it can't take, where the boxes are few enough for all stamps to fit
  pub none_strange : length old * (FURTHER_ROUND_LIMIT + TURN_LIMIT) ≤ STAMP_LIMIT
      → (who : ℕ) (own : BoxRun) → slice_get free who ≡ Some own
      → (end tunnel : ℕ) → own.course.pace ≡ Stopped (Strange end tunnel) → ⊥
  -- the signals that were counted as taken are the Takes; and what was under way and was counted as sent is as much as
  -- what was counted as taken and is under way then
  pub takes : sum_by (λ (own : BoxRun). taken_count own.seat) free
      ≡ count_by (λ (turn : Turn). is_take turn.event) turns
  pub signals : under_way (world_of channels old lanes) + sum_by (λ (own : BoxRun). sent_count own.seat) free
      ≡ sum_by (λ (own : BoxRun). taken_count own.seat) free + under_way (world_of channels new lanes)

-- where the boxes of a team ran freely, what was under way then was carried, and the turns are those of all logs, they
-- are such a run
abbrev pub FreeRunsAreRuns : Type 0
FreeRunsAreRuns = (channels : List ChannelState) (lanes : List LaneEnds) (ends : List (List ℕ)) (old new : List Member)
    (desks : List Desk) (began free : List BoxRun) (turns : List Turn)
    → StandForWorld channels old lanes ends → AreSetFree old began → HaveRunFreely desks began free → NoneRefused free
    → CarriesLanes lanes (map member_of free) new → AreTurnsOf (round_logs new) turns
    → IsFreeRun channels lanes ends old new free turns

-- ---- what is left after boxes have run freely

-- these are the commands that are left to the boxes, box by box
pub record AreLeft (free : List BoxRun) (left : List Turn) : Type 0 where
  pub each : (who : ℕ) (own : BoxRun) → slice_get free who ≡ Some own
      → commands_of who left ≡ map (turn_of who) (left_by own)
  pub no_other : (who : ℕ) → slice_get free who ≡ None → commands_of who left ≡ []

-- a box was asked only for what it can make
abbrev pub AskedForAllowed : List BoxRun → Type 0
AskedForAllowed free = AllByRecursion (λ (own : BoxRun). AreAllAllowed own.worker (taken_by own.taker)) free

-- commands are left to a box only after more turns than those after which it makes a further round, or where the next
-- one is a Hear of a slot at its last version
abbrev pub LeftOnly : List Turn → List Turn → WorldState → Type 0
LeftOnly turns left last = (who : ℕ) → commands_of who left ≢ []
    → (FURTHER_ROUND_LIMIT < count_by (λ (turn : Turn). turn.who == who) turns)
    ⊎ MatchOption (slice_get (commands_of who left) 0) ⊥
    (λ (turn : Turn). (local : ℕ) × IsLastHear (box_at last who) local turn.event)

-- so it is where the boxes of a team ran freely, which are few enough, and were asked only for what they can make
abbrev pub LeftIsOnly : Type 0
LeftIsOnly = (channels : List ChannelState) (lanes : List LaneEnds) (ends : List (List ℕ)) (old new : List Member)
    (free : List BoxRun) (turns left : List Turn)
    → IsFreeRun channels lanes ends old new free turns
    → length old * (FURTHER_ROUND_LIMIT + TURN_LIMIT) ≤ STAMP_LIMIT
    → AskedForAllowed free → AreLeft free left → LeftOnly turns left (world_of channels new lanes)
