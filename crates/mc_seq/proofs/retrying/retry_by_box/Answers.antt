use Rattle.mc_laws.proofs.GoalsKept.{rest_keeps_rings}
use Rattle.mc_seq.specs.ForEach.{for_each}
use Rattle.mc_seq.specs.Retries.{retries_of}
use Rattle.mc_seq.proofs.Retries.{boxes_besides}
use Rattle.mc_seq.proofs.RetriesMade.{boxes_more}
use Rattle.mc_seq.proofs.retrying.retry_by_box.Goals as goal

pub loop-who-preserved : goal.loop-who-preserved
loop-who-preserved c = boxes_more c.args.settled.now c.loop-who.settled c.retry_box.new.settled c.loop-who.who c.loop-who.invariant c.in_ok-retry_box.ensures.made c.in_ok-retry_box.ensures.others

pub returns-clause-rings : goal.returns-clause-rings
returns-clause-rings c =
    rest_keeps_rings c.args.settled.now.world c.loop-who.settled.world (for_each (retries_of c.args.settled.now.world) c.loop-who.who) c.keeps.ensures.sound
    (boxes_besides c.args.settled.now.world c.loop-who.who) c.loop-who.invariant.so_far.made.ran
