use Rattle.mc_ladder_top.proofs.Asked.{named_more}
use Rattle.mc_ladder_top.proofs.choosing.boxes_named.Goals as goal

pub loop-name-preserved : goal.loop-name-preserved
loop-name-preserved c =
    named_more c.args.names.now c.args.wanted.now c.loop-name.name-index _ c.loop-name.boxes.items c.add_named.new.boxes.items _ c.loop-name-test.true c.in_ok-add_named.ensures c.loop-name.invariant
