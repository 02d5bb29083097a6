use Rattle.std.proofs.Common.{◌≤◌, ◌+◌, List, ℕ, arith, subst, sym}
use Rattle.std.proofs.Math.ListN.{get_or}
use Rattle.mc_plan.proofs.Counted.{raised_other}
use Rattle.mc_plan.proofs.tunnels.count_slots.Goals as goal

pub count_more-requires-2-clause-few : goal.count_more-requires-2-clause-few
count_more-requires-2-clause-few c =
    subst (λ (l : List ℕ). get_or l c.args.to 0 + c.args.more ≤ 64) (sym c.count_more.ensures) (omega (arith, raised_other c.args.counts.now c.args.from c.args.to c.args.more c.requires.apart, c.requires.far_few))
