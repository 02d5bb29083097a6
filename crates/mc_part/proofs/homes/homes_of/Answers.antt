use Rattle.std.proofs.Common.{arith}
use Rattle.mc_part.proofs.Filling.{are_numbers, counted_at, none_counted, number_few, number_read, numbered}
use Rattle.mc_part.proofs.homes.homes_of.Goals as goal

pub loop-who-init : goal.loop-who-init
loop-who-init c = record { numbers = c.new-numbers.ensures.items; counts = none_counted c.in_ok-counts.counts.items c.args.count c.in_ok-counts.ensures }

pub overflow_add-number : goal.overflow_add-number
overflow_add-number c =
    let read = number_read c.args.assigned.now c.loop-who.counts.items c.args.count c.loop-who.who c.index-number.result.now (omega arith) c.requires.parts c.loop-who.invariant.counts c.index-number.ensures in
    let few = number_few c.args.assigned.now c.loop-who.who c.index-number.result.now (omega arith) read in
    omega arith

pub loop-who-preserved : goal.loop-who-preserved
loop-who-preserved c =
    let read = number_read c.args.assigned.now c.loop-who.counts.items c.args.count c.loop-who.who c.index-number.result.now (omega arith) c.requires.parts c.loop-who.invariant.counts c.index-number.ensures in
    record {
      numbers = numbered c.args.assigned.now c.loop-who.numbers.items c.push.new.self.items c.loop-who.who c.index-number.result.now read c.loop-who.invariant.numbers c.in_ok-push.ensures.items;
      counts = counted_at c.args.assigned.now c.loop-who.counts.items c.args.count c.loop-who.who c.index-number.result.now (omega arith) c.requires.parts c.loop-who.invariant.counts read;
    }

pub returns-clause-numbers : goal.returns-clause-numbers
returns-clause-numbers c = are_numbers c.args.assigned.now c.loop-who.numbers.items c.loop-who.who (omega arith) c.loop-who.invariant.numbers
