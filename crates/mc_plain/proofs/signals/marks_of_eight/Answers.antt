use Rattle.std.proofs.Common.{◌≡◌, ◌∙◌, ◌*◌, length, rules, subst, sym, ℕ}
use Rattle.mc_signal.specs.Codecs.{AreDistinct}
use Rattle.mc_plain.proofs.Stored.{none_compared, two_more}
use Rattle.mc_plain.proofs.signals.marks_of_eight.Goals as goal

pub loop-i-init : goal.loop-i-init
loop-i-init c = none_compared c.args.codecs.now

pub loop-i-preserved : goal.loop-i-preserved
loop-i-preserved c = two_more c.args.codecs.now c.loop-i.i c.loop-i.marks c.loop-i.invariant

pub returns : goal.returns
returns c = λ full.
    let end : 2 * c.loop-i.i ≡ length c.args.codecs.now = search rules in
    subst (λ (n : ℕ). AreDistinct n c.args.codecs.now) end (c.loop-i.invariant.apart (full ∙ sym end))
