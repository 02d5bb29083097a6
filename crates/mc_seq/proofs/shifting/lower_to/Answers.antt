use Rattle.std.proofs.Common.{◌≡◌, ◌-◌, ◌∙◌, ℕ, ap, arith}
use Rattle.std.proofs.Math.ListN.{get_or, set}
use Rattle.mc_seq.proofs.SetCounts.{set_again}
use Rattle.mc_seq.proofs.shifting.lower_to.Goals as goal

pub down-preserved : goal.down-preserved
down-preserved c =
    let made = set_again c.args.counts.now c.down.counts c.lower.new.self c.args.who (get_or c.down.counts c.args.who 0 - 1) c.requires.inside c.down.invariant.one c.lower.ensures in
    record { one = made.0; high = omega (arith, made.1, c.get.ensures, c.down-test.true) }

pub returns : goal.returns
returns c =
    let same : get_or c.down.counts c.args.who 0 ≡ c.args.count = omega (arith, c.down.invariant.high, c.get.ensures, c.down-test.false) in
    c.down.invariant.one ∙ ap (λ (n : ℕ). set c.args.counts.now c.args.who n) same
