use Rattle.std.proofs.Common.{◌∷◌, [], subst, sym}
use Rattle.mc_box.specs.BoxEvents.{turn_of}
use Rattle.mc_growth.specs.Growths.{GrownState}
use Rattle.mc_growth.specs.Outs.{SetNoneOut}
use Rattle.mc_grow.proofs.Asking.{step_out}
use Rattle.mc_grow.proofs.grown.Grown.step.Goals as goal

pub invariant_of-self : goal.invariant_of-self
invariant_of-self c =
    step_out c.self.inside.world c.step.new.self c.self.inside.out.items c.args.who c.args.event c.step.result c.keeps.ensures.sound c.self.invariant
    (subst (λ (g : GrownState). SetNoneOut g.world g.out (turn_of c.args.who c.args.event ∷ [])) (sym c.self.view_is) c.requires) c.step.ensures.ok c.step.ensures.unchanged
