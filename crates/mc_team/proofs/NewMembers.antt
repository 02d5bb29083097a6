-- Members as new, one by one.
use Rattle.std.proofs.Common.{◌≡◌, ℕ, List, None, length, map, sym, ◌∙◌, ap}
use Rattle.std.proofs.lemmas.List.{length-map}
use Rattle.mc_box.specs.Boxes.{BoxState}
use Rattle.mc_team.specs.Made.{CanMake, IsNewMember}
use Rattle.mc_team.specs.Layouts.{inner_lists, of_box}
use Rattle.mc_team.specs.declared.layout.TeamLayout.{TeamLayout}
use Rattle.mc_port.specs.declared.ends.InPort.{InPort}
use Rattle.mc_port.specs.declared.ends.OutPort.{OutPort}
use Rattle.mc_signal.specs.declared.Tagged.{Tagged}
use Rattle.mc_worker.specs.Boxes.{box_of}
use Rattle.mc_worker.specs.Ready.{IsNewWorker, IsReady}
use Rattle.mc_worker.specs.declared.worker.Worker.{Worker}

-- a new worker with these inboxes
abbrev pub with_inboxes : Worker → List (List Tagged) → Worker
with_inboxes worker inboxes = record worker { inboxes = inboxes }

-- a new worker is ready with as many inboxes as it has channel ends
ready_with : (worker : Worker) (inboxes : List (List Tagged)) → IsReady worker → length inboxes ≡ length worker.ins.items → IsReady (with_inboxes worker inboxes)
ready_with worker inboxes ready long =
    let s = ready.shaped in
    record {
      shaped = record { places = s.places; ends = s.ends; outs = s.outs; inboxes = long; outboxes = s.outboxes; few = s.few; scratch = s.scratch };
      allowed = ready.allowed;
      shifts = ready.shifts;
    }

-- a member of what the layout has for its box is made
pub made_member : (layout : TeamLayout) (under_way inboxes : List (List Tagged)) (lanes slots who : ℕ) (part : BoxState) (worker : Worker) (place : List (ℕ × ℕ)) (ins : List InPort) (outs : List OutPort)
    → CanMake layout lanes slots who → IsReady worker → IsNewWorker part place ins outs worker
    → place ≡ of_box (inner_lists layout.places.items) who → ins ≡ of_box (inner_lists layout.ins.items) who → outs ≡ of_box (inner_lists layout.outs.items) who
    → inboxes ≡ map (box_of under_way) (of_box (inner_lists layout.ends.items) who)
    → IsNewMember layout under_way who (record { worker = with_inboxes worker inboxes; end = None })
made_member layout under_way inboxes lanes slots who part worker place ins outs can ready new places takes gives boxes =
    let long : length inboxes ≡ length worker.ins.items =
    ap (λ (l : List (List Tagged)). length l) boxes ∙ (length-map (of_box (inner_lists layout.ends.items) who) (box_of under_way) ∙ (can.ends ∙ sym (ap (λ (l : List InPort). length l) (new.ins ∙ takes)))) in
    record {
      place = new.place ∙ places;
      ins = new.ins ∙ takes;
      outs = new.outs ∙ gives;
      inboxes = boxes;
      outboxes = new.outboxes;
      stimuli = new.stimuli;
      log = new.log;
      shifts = new.shifts;
      ready = ready_with worker inboxes ready long;
    }
