use Rattle.std.proofs.Common.{◌∙◌, ◌++◌, List, ap, map, append_assoc, rules}
use Rattle.mc_port.specs.Ends.{left_in, received, without_stamp, given}
use Rattle.mc_signal.specs.declared.Tagged.{Tagged}
use Rattle.mc_worker.specs.Boxes.{box_of}
use Rattle.mc_worker.specs.Carrying.{IsBroughtIn}
use Rattle.mc_worker.specs.Ends.{in_end_of, out_end_of}
use Rattle.mc_worker.proofs.BroughtIn.{none_lost, ring_moved}
use Rattle.mc_worker.proofs.inboxes.bring_into.Goals as goal

pub returns-in_err-move_all-clause-carried : goal.returns-in_err-move_all-clause-carried
returns-in_err-move_all-clause-carried c = record {
  brought = search rules;
  kept = ring_moved c.args.lane.now.items c.move_all.new.into.items (received c.drain_beside.new.to) (given c.args.from.now) (given c.drain_beside.new.from) (left_in c.args.from.now c.args.to.now)
      (box_of c.args.outboxes.now.boxes c.args.end) (box_of c.move_all.new.self.boxes c.args.end)
      c.drain_beside.ensures.from.items c.in_ok-drain_beside.ensures.received (c.in_err-move_all.ensures.kept.1 ∙ c.in_ok-drain_beside.ensures.moved) c.in_err-move_all.ensures.kept.0;
}

pub returns-clause-carried : goal.returns-clause-carried
returns-clause-carried c =
    let left = left_in c.args.from.now c.args.to.now in
    let brought : IsBroughtIn (out_end_of c.args.from.now (box_of c.args.outboxes.now.boxes c.args.end)) (out_end_of c.drain_beside.new.from (box_of c.move_all.new.self.boxes c.args.end))
    (in_end_of c.args.to.now c.args.lane.now.items) (in_end_of c.drain_beside.new.to c.move_all.new.into.items) = record {
      inbox = c.in_ok-move_all.ensures.moved
          ∙ (ap (λ (l : List Tagged). l ++ map without_stamp (box_of c.args.outboxes.now.boxes c.args.end)) c.in_ok-drain_beside.ensures.moved
          ∙ append_assoc c.args.lane.now.items (map without_stamp left) (map without_stamp (box_of c.args.outboxes.now.boxes c.args.end)));
      outbox = c.in_ok-move_all.ensures.emptied;
      given = c.drain_beside.ensures.from.items;
      back = c.drain_beside.ensures.from.count;
      got = c.in_ok-drain_beside.ensures.received;
      known = c.in_ok-drain_beside.ensures.empty;
      looks = c.drain_beside.ensures.to.looks;
      order = c.in_ok-drain_beside.ensures.order.left;
      knew = c.in_ok-drain_beside.ensures.order.knew;
    } in
    record { brought = brought; kept = none_lost _ _ _ _ brought }
