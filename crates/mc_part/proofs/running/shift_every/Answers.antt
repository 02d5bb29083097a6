use Rattle.std.proofs.Common.{◌≡◌, List, length, ap, arith}
use Rattle.mc_box.specs.Boxes.{BoxState}
use Rattle.mc_part.proofs.Calm.{every_next, goes_none, goes_on}
use Rattle.mc_part.proofs.running.shift_every.Goals as goal

pub loop-who-init : goal.loop-who-init
loop-who-init g c = record { goes = goes_none c.args.budget c.args.part.now c.requires.within; calm = λ who below inside. absurd (omega (arith, below)) }

pub overflow_cast-who : goal.overflow_cast-who
overflow_cast-who g c =
    let long : length c.boxes-who-end.result.now ≡ length c.args.part.now.engine.boxes = ap (λ (l : List BoxState). length l) c.boxes-who-end.ensures in
    omega (arith, c.loop-who-test.true, long, c.requires.few)

pub returns-in_err-shift_on-clause-goes : goal.returns-in_err-shift_on-clause-goes
returns-in_err-shift_on-clause-goes g c = goes_on c.args.budget c.args.part.now c.loop-who.part c.shift_on.new.part c.loop-who.invariant.goes c.shift_on.ensures.goes

pub loop-who-preserved : goal.loop-who-preserved
loop-who-preserved g c = record {
  goes = goes_on c.args.budget c.args.part.now c.loop-who.part c.shift_on.new.part c.loop-who.invariant.goes c.shift_on.ensures.goes;
  calm = every_next c.args.budget c.loop-who.part c.shift_on.new.part c.loop-who.who c.shift_on.ensures.goes c.shift_on.ensures.only c.loop-who.invariant.calm c.in_ok-shift_on.ensures.calm;
}
