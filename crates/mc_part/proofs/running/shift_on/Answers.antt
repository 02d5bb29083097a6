use Rattle.std.proofs.Common.{◌≤◌, length, arith}
use Rattle.mc_part.specs.Parts.{no_retries}
use Rattle.mc_part.proofs.Calm.{goes_none, goes_on, only_none, only_on, runs_grow}
use Rattle.mc_part.proofs.running.shift_on.Goals as goal

pub loop-done-init : goal.loop-done-init
loop-done-init g c = record { goes = goes_none c.args.budget c.args.part.now c.requires.within; only = only_none c.args.part.now c.args.who; counted = omega arith; grows = omega arith }

pub returns-in_err-shift-clause-goes : goal.returns-in_err-shift-clause-goes
returns-in_err-shift-clause-goes g c = goes_on c.args.budget c.args.part.now c.loop-done.part c.shift.new.part c.loop-done.invariant.goes c.shift.ensures.goes

pub loop-done-preserved : goal.loop-done-preserved
loop-done-preserved g c =
    let a = c.loop-done.part in
    let b = c.shift.new.part in
    let grows : length a.log.items ≤ length b.log.items = runs_grow a b no_retries c.shift.ensures.goes.runs in
    record {
      goes = goes_on c.args.budget c.args.part.now a b c.loop-done.invariant.goes c.shift.ensures.goes;
      only = only_on c.args.part.now a b c.args.who c.loop-done.invariant.only c.shift.ensures.only;
      counted = omega (arith, c.loop-done.invariant.counted, c.in_ok-shift.ensures.counted);
      grows = omega (arith, c.loop-done.invariant.grows, grows);
    }
