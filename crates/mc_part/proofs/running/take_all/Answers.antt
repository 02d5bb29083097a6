use Rattle.std.proofs.Common.{arith}
use Rattle.mc_part.proofs.Calm.{begun_on, goes_none, goes_on}
use Rattle.mc_part.proofs.running.take_all.Goals as goal

pub loop-done-init : goal.loop-done-init
loop-done-init g c = record { goes = goes_none c.args.budget c.args.part.now c.requires.within; begun = c.requires.begun; made = omega arith }

pub returns-in_err-take_some-clause-goes : goal.returns-in_err-take_some-clause-goes
returns-in_err-take_some-clause-goes g c = goes_on c.args.budget c.args.part.now c.loop-done.part c.take_some.new.part c.loop-done.invariant.goes c.take_some.ensures.goes

pub returns-then-branch-clause-goes : goal.returns-then-branch-clause-goes
returns-then-branch-clause-goes g c = goes_on c.args.budget c.args.part.now c.loop-done.part c.take_some.new.part c.loop-done.invariant.goes c.take_some.ensures.goes

pub returns-then-branch-clause-ends : goal.returns-then-branch-clause-ends
returns-then-branch-clause-ends g c = record {
  begun = begun_on c.loop-done.part c.take_some.new.part c.take_some.ensures.goes.runs c.loop-done.invariant.begun c.in_ok-take_some.ensures.calm;
  waits = c.in_ok-take_some.ensures.rests c.if-branch.true;
}

pub loop-done-preserved : goal.loop-done-preserved
loop-done-preserved g c =
    let more = c.in_ok-take_some.ensures.made c.if-branch.false in
    record {
      goes = goes_on c.args.budget c.args.part.now c.loop-done.part c.take_some.new.part c.loop-done.invariant.goes c.take_some.ensures.goes;
      begun = begun_on c.loop-done.part c.take_some.new.part c.take_some.ensures.goes.runs c.loop-done.invariant.begun c.in_ok-take_some.ensures.calm;
      made = omega (arith, more, c.loop-done.invariant.made);
    }
