use Rattle.std.proofs.Common.{arith}
use Rattle.mc_model.specs.Worlds.{channel_number_limit}
use Rattle.mc_part.proofs.Filling.{crossing_added, crossing_few, inner_added}
use Rattle.mc_part.specs.Divisions.{is_crossing}
use Rattle.std.proofs.Common.{filter}
use Rattle.mc_part.proofs.channels.channels_in.Goals as goal

pub add_crossing-requires-clause-short : goal.add_crossing-requires-clause-short
add_crossing-requires-clause-short c = crossing_few c.args.assigned.now c.args.part c.args.boxes c.args.channels.now c.loop-crossing.crossing-index channel_number_limit c.loop-crossing.made.items
    (omega arith) c.requires.channels.few c.loop-crossing.invariant

pub loop-crossing-preserved : goal.loop-crossing-preserved
loop-crossing-preserved c = crossing_added c.args.assigned.now c.args.part c.args.boxes c.args.channels.now c.loop-crossing.crossing-index c.crossing-item.result c.loop-crossing.made.items c.add_crossing.new.made.items
    (omega arith) c.crossing-item.is c.loop-crossing.invariant c.in_ok-add_crossing.ensures

pub loop-inner-preserved : goal.loop-inner-preserved
loop-inner-preserved c = inner_added c.args.assigned.now c.args.part c.args.boxes c.args.boxes (filter (is_crossing c.args.assigned.now c.args.part) c.args.channels.now) c.args.channels.now c.loop-inner.inner-index c.inner-item.result c.loop-inner.made.items c.add_inner.new.made.items
    (omega arith) c.inner-item.is c.loop-inner.invariant c.in_ok-add_inner.ensures
