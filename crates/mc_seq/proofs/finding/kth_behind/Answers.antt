use Rattle.std.proofs.Common.{◌<◌, ◌≤◌, ◌∙◌, ℕ, subst}
use Rattle.mc_seq.proofs.Counting.{behind_shift, behind_take}
use Rattle.mc_seq.proofs.Finds.{takes_each}
use Rattle.mc_seq.proofs.finding.kth_behind.Goals as goal

pub kth_take_of-requires : goal.kth_take_of-requires
kth_take_of-requires c = subst (λ (n : ℕ). c.args.k < n) (c.get.ensures ∙ (takes_each c.args.world.now c.takes.result.now c.takes.ensures).counts c.args.who c.requires.there) c.if-k-get.true

pub returns-then-k-get : goal.returns-then-k-get
returns-then-k-get c = behind_take c.args.world.now c.args.spare.now c.args.who c.args.k c.kth_take_of.result c.kth_take_of.ensures

pub returns-else-k-get : goal.returns-else-k-get
returns-else-k-get c =
    behind_shift c.args.world.now c.args.spare.now c.args.who c.args.k
    (subst (λ (n : ℕ). n ≤ c.args.k) (c.get.ensures ∙ (takes_each c.args.world.now c.takes.result.now c.takes.ensures).counts c.args.who c.requires.there) c.if-k-get.false)
    c.requires.inside
