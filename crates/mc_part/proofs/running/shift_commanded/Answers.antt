use Rattle.std.proofs.Common.{◌≡◌, ◌≤◌, ◌<◌, Some, Vec, Global, length, slice_get, refl, ap, subst, arith, ℕ}
use Rattle.std.proofs.lemmas.Option.{slice_get_read}
use Rattle.mc_box.specs.declared.event.Turn.{Turn}
use Rattle.mc_part.specs.declared.part.Part.{Part}
use Rattle.mc_part.proofs.Calm.{boxes_on, calm_all, calm_next, goes_none, goes_on}
use Rattle.mc_part.proofs.running.shift_commanded.Goals as goal

pub loop-at-init : goal.loop-at-init
loop-at-init g c = record { goes = goes_none c.args.budget c.args.part.now c.requires.within; calm = c.requires.calm }

pub returns-in_err-shift_on-clause-goes : goal.returns-in_err-shift_on-clause-goes
returns-in_err-shift_on-clause-goes g c = goes_on c.args.budget c.args.part.now c.loop-at.part c.shift_on.new.part c.loop-at.invariant.goes c.shift_on.ensures.goes

pub loop-at-preserved : goal.loop-at-preserved
loop-at-preserved g c =
    let a : Part = c.loop-at.part in
    let b : Part = c.shift_on.new.part in
    let turn : Turn = c.index.result.now in
    let long : length a.commands.items ≡ length c.args.part.now.commands.items = ap (λ (v : Vec Turn Global). length v.items) c.loop-at.invariant.goes.runs.run.commands in
    let there : slice_get a.commands.items c.loop-at.at ≡ Some turn = slice_get_read a.commands.items (length a.commands.items) c.loop-at.at turn refl (omega (arith, c.loop-at-test.true, c.len-at-end.ensures, long)) c.index.ensures in
    record {
      goes = goes_on c.args.budget c.args.part.now a b c.loop-at.invariant.goes c.shift_on.ensures.goes;
      calm = calm_next a b c.loop-at.at turn there c.shift_on.ensures.only (boxes_on c.args.budget a b c.shift_on.ensures.goes) c.shift_on.ensures.goes.runs.run.commands c.loop-at.invariant.calm
          (λ inside. c.in_ok-shift_on.ensures.calm (subst (λ (n : ℕ). turn.who < n) (boxes_on c.args.budget a b c.shift_on.ensures.goes) inside));
    }

pub returns-clause-calm : goal.returns-clause-calm
returns-clause-calm g c =
    let a : Part = c.loop-at.part in
    let long : length a.commands.items ≡ length c.args.part.now.commands.items = ap (λ (v : Vec Turn Global). length v.items) c.loop-at.invariant.goes.runs.run.commands in
    let past : length a.commands.items ≤ c.loop-at.at = omega (arith, c.loop-at-test.false, c.len-at-end.ensures, long) in
    calm_all a c.loop-at.at past c.loop-at.invariant.calm
