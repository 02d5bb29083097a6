use Rattle.std.proofs.Common.{arith}
use Rattle.mc_part.proofs.Calm.{goes_none, goes_on}
use Rattle.mc_part.proofs.running.take_some.Goals as goal

pub loop-done-init : goal.loop-done-init
loop-done-init g c = record { goes = goes_none c.args.budget c.args.part.now c.requires.within; calm = c.requires.calm; made = omega arith }

pub returns-in_err-take_at-clause-goes : goal.returns-in_err-take_at-clause-goes
returns-in_err-take_at-clause-goes g c = goes_on c.args.budget c.args.part.now c.loop-done.part c.take_at.new.part c.loop-done.invariant.goes c.take_at.ensures.goes

pub loop-done-preserved : goal.loop-done-preserved
loop-done-preserved g c = record {
  goes = goes_on c.args.budget c.args.part.now c.loop-done.part c.take_at.new.part c.loop-done.invariant.goes c.take_at.ensures.goes;
  calm = c.in_ok-take_at.ensures.calm;
  made = omega (arith, c.in_ok-take_at.ensures.made, c.loop-done.invariant.made);
}
