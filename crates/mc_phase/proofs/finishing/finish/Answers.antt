use Rattle.std.proofs.Common.{List, ◌∙◌, subst}
use Rattle.mc_desk.specs.declared.desk.Operator.{Operator}
use Rattle.mc_desk.specs.declared.desk.Taker.{Taker}
use Rattle.mc_desks.specs.Finished.{AreRests}
use Rattle.mc_desks.specs.Passes.{lists_of}
use Rattle.mc_flight.specs.Seats.{sent_count, taken_count}
use Rattle.mc_phase.proofs.Parts.{none_sent, none_took, sum_after}
use Rattle.mc_phase.specs.Prepared.{passes_of, seats_of}
use Rattle.mc_phase.proofs.finishing.finish.Goals as goal

pub returns : goal.returns
returns g c =
    let parts = c.args.parts in
    let made = c.in_ok-members.ensures in
    let rests : AreRests c.in_ok-members.field-0.takers.items (lists_of c.in_ok-passes.passes.items) c.in_ok-_rests._rests.items = c.in_ok-_rests.ensures in
    record {
      members = made.members;
      taken = made.taken;
      sent = c.close.ensures.sent ∙ sum_after sent_count parts.spare.items (seats_of parts.runs.items) c.take_apart.new.seats.items made.seats (none_sent parts.spare.items c.requires.unused);
      took = c.close.ensures.taken ∙ sum_after taken_count parts.spare.items (seats_of parts.runs.items) c.take_apart.new.seats.items made.seats (none_took parts.spare.items c.requires.unused);
      rests = c.in_ok-_rests._rests.items;
      are_rests = subst (λ (l : List Taker). AreRests l (passes_of parts.askers.items) c.in_ok-_rests._rests.items) made.takers (subst (λ (l : List (List Operator)). AreRests c.in_ok-members.field-0.takers.items l c.in_ok-_rests._rests.items) c.in_ok-passes.ensures rests);
    }
