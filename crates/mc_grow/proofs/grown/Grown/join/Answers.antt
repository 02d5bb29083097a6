use Rattle.std.proofs.Common.{subst, sym}
use Rattle.mc_growth.specs.Growths.{GrownState}
use Rattle.mc_growth.specs.Joins.{MayJoin}
use Rattle.mc_grow.proofs.Cutting.{join_out}
use Rattle.mc_grow.proofs.grown.Grown.join.Goals as goal

pub invariant_of-result : goal.invariant_of-result
invariant_of-result c =
    join_out c.self.inside.world c.in_ok-world.world c.args.medium c.args.from c.args.to c.self.inside.out.items c.push.new.self.items c.push-2.new.self.items c.keeps.ensures.sound
    (subst (λ (g : GrownState). MayJoin g.world c.args.from c.args.to) (sym c.self.view_is) c.requires) c.self.invariant c.in_ok-world.ensures c.in_ok-push.ensures.items c.in_ok-push-2.ensures.items
