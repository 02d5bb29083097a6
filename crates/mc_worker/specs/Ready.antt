-- What a round asks of its worker, and keeps.
use Rattle.std.specs.Prelude.{◌≡◌, ℕ, IsTrue, ◌≤◌, List, [], length}
use Rattle.std.specs.List.{AllByRecursion}
use Rattle.mc_box.specs.BoxShapes.{box_shape, is_enabled_by}
use Rattle.mc_box.specs.Boxes.{BoxState}
use Rattle.mc_box.specs.declared.event.Event.{Event}
use Rattle.mc_box.specs.declared.limit.TheConstants.{SHIFT_LIMIT}
use Rattle.mc_port.specs.declared.ends.InPort.{InPort}
use Rattle.mc_port.specs.declared.ends.OutPort.{OutPort}
use Rattle.mc_worker.specs.Boxes.{AreEmpty}
use Rattle.mc_worker.specs.Places.{AreAtEnds}
use Rattle.mc_worker.specs.declared.limit.TheConstants.{END_LIMIT}
use Rattle.mc_worker.specs.declared.worker.Worker.{Worker}

-- each slot has a place at a channel end that is there, each end has its ports and boxes, and nothing is in scratch
pub record IsShaped (worker : Worker) : Type 0 where
  pub places : length worker.place ≡ length worker.part.slots
  pub ends : AreAtEnds (length worker.ins.items) worker.place
  pub outs : length worker.outs.items ≡ length worker.ins.items
  pub inboxes : length worker.inboxes ≡ length worker.ins.items
  pub outboxes : length worker.outboxes.boxes ≡ length worker.ins.items
  pub few : length worker.ins.items ≤ END_LIMIT
  pub scratch : worker.scratch.items ≡ []

-- a command that the box's shape enables
abbrev pub IsAllowed : BoxState → Event → Type 0
IsAllowed box event = IsTrue (is_enabled_by (box_shape box) event)

-- and each stimulus is allowed, and the shifts are within their limit
pub record IsReady (worker : Worker) : Type 0 where
  pub shaped : IsShaped worker
  pub allowed : AllByRecursion (IsAllowed worker.part) worker.stimuli.items
  pub shifts : worker.shifts ≤ SHIFT_LIMIT

-- a worker as new, with these parts: nothing waits at its ends, no command is left, and no turn was made
pub record IsNewWorker (box : BoxState) (places : List (ℕ × ℕ)) (taking : List InPort) (giving : List OutPort)
    (worker : Worker) : Type 0 where
  pub part : worker.part ≡ box
  pub place : worker.place ≡ places
  pub ins : worker.ins.items ≡ taking
  pub outs : worker.outs.items ≡ giving
  pub inboxes : AreEmpty worker.inboxes
  pub outboxes : AreEmpty worker.outboxes.boxes
  pub stimuli : worker.stimuli.items ≡ []
  pub log : worker.log.items ≡ []
  pub stamp : worker.stamp ≡ 0
  pub shifts : worker.shifts ≡ 0
