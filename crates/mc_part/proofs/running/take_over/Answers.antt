use Rattle.std.proofs.Common.{arith}
use Rattle.mc_part.proofs.Calm.{begun_from, goes_none, goes_on, goes_still, looked, still_calm, tried_by}
use Rattle.mc_part.proofs.running.take_over.Goals as goal

pub loop-look-init : goal.loop-look-init
loop-look-init g c = record { goes = goes_none c.args.budget c.args.part.now c.requires.within; begun = c.requires.begun; tried = λ some. absurd (omega (arith, some)) }

pub take_some-requires-clause-calm : goal.take_some-requires-clause-calm
take_some-requires-clause-calm g c = still_calm c.loop-look.part c.pump.new.part c.pump.ensures.run c.pump.ensures.log c.loop-look.invariant.begun.calm

pub returns-in_err-crossed-clause-goes : goal.returns-in_err-crossed-clause-goes
returns-in_err-crossed-clause-goes g c =
    goes_on c.args.budget c.args.part.now c.loop-look.part c.pump.new.part c.loop-look.invariant.goes (goes_still c.args.budget c.loop-look.part c.pump.new.part c.pump.ensures.run c.pump.ensures.within c.pump.ensures.log)

pub returns-in_err-rests-clause-goes : goal.returns-in_err-rests-clause-goes
returns-in_err-rests-clause-goes g c =
    goes_on c.args.budget c.args.part.now c.loop-look.part c.take_some.new.part c.loop-look.invariant.goes
    (looked c.args.budget c.loop-look.part c.pump.new.part c.take_some.new.part c.pump.ensures.run c.pump.ensures.within c.pump.ensures.log c.take_some.ensures.goes)

pub returns-then-is_over-clause-goes : goal.returns-then-is_over-clause-goes
returns-then-is_over-clause-goes g c =
    goes_on c.args.budget c.args.part.now c.loop-look.part c.take_some.new.part c.loop-look.invariant.goes
    (looked c.args.budget c.loop-look.part c.pump.new.part c.take_some.new.part c.pump.ensures.run c.pump.ensures.within c.pump.ensures.log c.take_some.ensures.goes)

pub returns-then-is_over-clause-ends : goal.returns-then-is_over-clause-ends
returns-then-is_over-clause-ends g c =
    let goes = looked c.args.budget c.loop-look.part c.pump.new.part c.take_some.new.part c.pump.ensures.run c.pump.ensures.within c.pump.ensures.log c.take_some.ensures.goes in
    record {
      begun = begun_from c.args.budget c.loop-look.part c.take_some.new.part goes c.loop-look.invariant.begun.left c.in_ok-rests.ensures.calm;
      waits = c.in_ok-rests.ensures.rests (c.is_over.ensures c.if-is_over.true);
    }

pub loop-look-preserved : goal.loop-look-preserved
loop-look-preserved g c =
    let all = goes_still c.args.budget c.loop-look.part c.pump.new.part c.pump.ensures.run c.pump.ensures.within c.pump.ensures.log in
    let goes = goes_on c.args.budget c.loop-look.part c.pump.new.part c.take_some.new.part all c.take_some.ensures.goes in
    record {
      goes = goes_on c.args.budget c.args.part.now c.loop-look.part c.take_some.new.part c.loop-look.invariant.goes goes;
      begun = begun_from c.args.budget c.loop-look.part c.take_some.new.part goes c.loop-look.invariant.begun.left c.in_ok-rests.ensures.calm;
      tried = λ some. tried_by c.in_ok-rests.rests c.args.budget c.args.part.now c.pump.new.part c.take_some.new.part
          (goes_on c.args.budget c.args.part.now c.loop-look.part c.pump.new.part c.loop-look.invariant.goes all) c.in_ok-rests.ensures.rests c.in_ok-rests.ensures.made;
    }
