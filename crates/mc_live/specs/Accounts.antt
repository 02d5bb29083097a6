-- What a box has done in all its rounds.
use Rattle.std.specs.Prelude.{◌≡◌, ℕ, ◌+◌, ◌*◌, ◌^◌, ◌≤◌, false, List, ◌++◌, length}
use Rattle.mc_box.specs.BoxEvents.{is_take}
use Rattle.mc_box.specs.BoxShapes.{box_shape}
use Rattle.mc_box.specs.declared.event.Event.{Event}
use Rattle.mc_lane.specs.Queue.{Queue}
use Rattle.mc_port.specs.Entries.{Claimed, count_sent, events_that}
use Rattle.mc_worker.specs.Account.{IsAccount}
use Rattle.mc_worker.specs.Ready.{IsReady}
use Rattle.mc_worker.specs.declared.limit.TheConstants.{STAMP_LIMIT}
use Rattle.mc_worker.specs.declared.worker.Worker.{Worker}

-- a worker with these commands
abbrev pub with_commands : Worker → Queue Event → Worker
with_commands worker commands = record worker { stimuli = commands }

-- one account for all rounds, as if the commands that came between them had been there from the beginning; with the
-- numbers of turns and of signals sent and taken
pub record IsOneRun (a b : Worker) (added : List Event) (turns sent took : ℕ) : Type 0 where
  pub log : List Claimed
  pub before : Queue Event
  pub before_is : before.items ≡ a.stimuli.items ++ added
  pub account : IsAccount false false (with_commands a before) b log
  pub turns_is : turns ≡ length log
  pub sent_is : sent ≡ count_sent log
  pub took_is : took ≡ length (events_that is_take log)

-- and the box can go on: it is ready for a round, it allows the commands that it did, and its stamp and its numbers are
-- not great
pub record HasRun (a b : Worker) (added : List Event) (turns sent took : ℕ) : Type 0 where
  pub run : IsOneRun a b added turns sent took
  pub ready : IsReady b
  pub shape : box_shape b.part ≡ box_shape a.part
  pub stamp : b.stamp ≤ STAMP_LIMIT + turns
  pub few_sent : sent ≤ 2 ^ 32 * turns
  pub few_took : took ≤ turns
