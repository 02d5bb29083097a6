use Rattle.std.proofs.Common.{◌<◌, ℕ, length, subst}
use Rattle.mc_model.specs.Worlds.{box_at}
use Rattle.mc_seq.proofs.Finds.{found_take, takes_counted}
use Rattle.mc_seq.proofs.finding.kth_take_of.Goals as goal

pub kth_take-requires : goal.kth_take-requires
kth_take-requires c = subst (λ (n : ℕ). c.args.k < n) (takes_counted c.args.world.now c.args.who (length (box_at c.args.world.now c.args.who).slots)) c.requires

pub returns : goal.returns
returns c = found_take c.args.world.now c.args.who c.kth_take.result c.args.k c.kth_take.ensures.there c.kth_take.ensures.waits c.kth_take.ensures.before
