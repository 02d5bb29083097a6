use Rattle.std.proofs.Common.{◌<◌, ◌∙◌, ℕ, sym, subst}
use Rattle.mc_seq.proofs.Finds.{take_at_box, take_within, takes_sum}
use Rattle.mc_seq.proofs.finding.kth_take.Goals as goal

pub find-who-requires : goal.find-who-requires
find-who-requires c = subst (λ (n : ℕ). c.args.k < n) (sym (takes_sum c.args.world.now c.takes.result.now c.takes.ensures)) c.requires

pub kth_take_of-requires : goal.kth_take_of-requires
kth_take_of-requires c = take_within c.args.world.now c.takes.result.now c.find-who.result.0 c.find-who.result.1 c.takes.ensures c.find-who.ensures.place c.find-who.ensures.within

pub returns : goal.returns
returns c =
    take_at_box c.args.world.now c.takes.result.now c.args.k c.find-who.result.0 c.find-who.result.1 c.takes.ensures c.find-who.ensures.place c.find-who.ensures.before c.find-who.ensures.within ∙ c.kth_take_of.ensures
