use Rattle.std.proofs.Common.{ℕ, ◌++◌, List, Vec, Global, length, sym, ◌∙◌, subst, arith}
use Rattle.std.proofs.lemmas.List.{length-map}
use Rattle.mc_desk.specs.declared.desk.Desk.{Desk}
use Rattle.mc_desk.specs.declared.desk.Operator.{Operator}
use Rattle.mc_flight.specs.Seats.{IsUnused}
use Rattle.mc_live.specs.BoxRuns.{AreNewRuns}
use Rattle.mc_phase.proofs.Closing.{all_both}
use Rattle.mc_phase.proofs.Seats.{new_seats, seats_long, seats_moved, unused_moved}
use Rattle.mc_phase.specs.Prepared.{AreAskersOf, seats_of}
use Rattle.mc_phase.proofs.preparing.prepare.Goals as goal

pub set_free-requires-clause-seats : goal.set_free-requires-clause-seats
set_free-requires-clause-seats c = new_seats c.in_ok-flight.flight c.in_ok-flight.spare.items c.in_ok-flight.ensures.all c.in_ok-flight.ensures.unused

pub set_free-requires-clause-enough : goal.set_free-requires-clause-enough
set_free-requires-clause-enough c =
    let long = seats_long c.in_ok-flight.spare.items c.seats_for.result c.in_ok-flight.ensures.numbers in
    let all = c.seats_for.ensures.all in
    let count = c.len-count.ensures in
    omega (arith, long, all, count, c.args.members.ok.0)

pub returns : goal.returns
returns c =
    let laid = c.in_ok-desks.ensures in
    let desks : List Desk = c.in_ok-desks.field-0.desks.items in
    let moved = c.in_ok-runs.ensures.seats in
    record {
      free = c.in_ok-runs.ensures.free;
      begin = subst (λ (l : List Desk). AreNewRuns c.in_ok-flight.flight l c.in_ok-runs.runs.items) c.deref-2.ensures.value c.in_ok-runs.ensures.new;
      counts = laid.counts;
      places = laid.places;
      are_askers = subst (λ (n : ℕ). AreAskersOf desks n c.in_ok-askers.askers.items) (sym (length-map c.in_ok-desks.field-0.passes.items (λ (v : Vec Operator Global). v.items)) ∙ laid.pass_count)
          (subst (λ (l : List Desk). AreAskersOf l (length c.in_ok-desks.field-0.passes.items) c.in_ok-askers.askers.items) c.deref.ensures.value c.in_ok-askers.ensures);
      seats = seats_moved c.in_ok-flight.flight c.in_ok-flight.spare.items (c.set_free.new.seats.items ++ seats_of c.in_ok-runs.runs.items) moved c.in_ok-flight.ensures.all;
      unused = (all_both IsUnused c.set_free.new.seats.items (seats_of c.in_ok-runs.runs.items) (unused_moved c.in_ok-flight.spare.items (c.set_free.new.seats.items ++ seats_of c.in_ok-runs.runs.items) moved c.in_ok-flight.ensures.unused)).0;
    }
