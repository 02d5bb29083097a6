use Rattle.std.proofs.Common.{[]}
use Rattle.mc_box.specs.Boxes.{no_box}
use Rattle.mc_shard.specs.Owing.{shifting_if}
use Rattle.mc_shard.proofs.Owed.{each_here}
use Rattle.mc_shard.proofs.owing.shifting_boxes.Goals as goal

pub loop-who-preserved : goal.loop-who-preserved
loop-who-preserved c =
    each_here shifting_if c.args.boxes.now no_box c.loop-who.shifting.items c.add_if_shifting.new.shifting.items [] c.index-boxes-who.result c.loop-who.who
    c.loop-who-test.true c.index-boxes-who.is c.loop-who.invariant c.in_ok-add_if_shifting.ensures
