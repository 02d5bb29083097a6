use Rattle.std.proofs.Common.{subst, sym}
use Rattle.mc_growth.specs.Growths.{GrownState}
use Rattle.mc_growth.specs.Outs.{MayCut}
use Rattle.mc_grow.proofs.Cutting.{cut_out}
use Rattle.mc_grow.proofs.grown.Grown.cut.Goals as goal

pub invariant_of-self : goal.invariant_of-self
invariant_of-self c =
    cut_out c.self.inside.world c.args.channel c.self.inside.out.items c.take_out.new.out.items c.least_used.result c.keeps.ensures.sound c.self.invariant
    (subst (λ (g : GrownState). MayCut g.world g.out c.args.channel) (sym c.self.view_is) c.requires) c.least_used.ensures c.in_default.is c.take_out.ensures
