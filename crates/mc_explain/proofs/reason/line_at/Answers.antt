use Rattle.std.proofs.Common.{◌∙◌, ap, arith, refl, take}
use Rattle.mc_explain.proofs.Left.{first_left, one_more}
use Rattle.mc_explain.proofs.reason.line_at.Goals as goal

pub loop-init : goal.loop-init
loop-init c = record { some = omega arith; few = omega arith; left = refl }

pub loop-preserved : goal.loop-preserved
loop-preserved c = one_more c.args.text.now c.loop.rest.now c.behind_line-rest.result.now c.loop.counter c.args.line c.loop.invariant (omega (arith, c.loop-test.true)) c.behind_line-rest.ensures

pub returns : goal.returns
returns c =
    rw c.within_limit.ensures (ap (λ line. take 256 line) (c.first_line.ensures ∙ first_left c.args.text.now c.loop.rest.now c.loop.counter c.args.line c.loop.invariant (omega (arith, c.loop-test.false))))
