use Rattle.std.proofs.Common.{arith}
use Rattle.mc_team.proofs.Looks.{have_run}
use Rattle.mc_team.proofs.running.run_boxes.Goals as goal

pub returns : goal.returns
returns g c = have_run c.args.retries c.args.members.now c.for_each_mut.new.s c.for_each_mut.auto.s (λ k d low. (let at = (c.for_each_mut.ensures k d low).1 in grind arith))
