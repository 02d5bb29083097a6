use Rattle.std.proofs.Common.{[]}
use Rattle.mc_box.specs.Boxes.{no_box}
use Rattle.mc_shard.specs.Owing.{owed_in}
use Rattle.mc_shard.proofs.Owed.{each_here}
use Rattle.mc_shard.proofs.owing.owed_slots.Goals as goal

pub loop-who-preserved : goal.loop-who-preserved
loop-who-preserved c =
    each_here owed_in c.args.boxes.now no_box c.loop-who.owed.items c.add_owed.new.owed.items [] c.index-boxes-who.result c.loop-who.who
    c.loop-who-test.true c.index-boxes-who.is c.loop-who.invariant c.in_ok-add_owed.ensures
