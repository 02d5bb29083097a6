use Rattle.std.proofs.Common.{subst}
use Rattle.mc_growth.specs.Growths.{GrownState}
use Rattle.mc_model.specs.Sound.{IsSound}
use Rattle.mc_grow.proofs.Asking.{sets_none}
use Rattle.mc_grow.proofs.grown.Grown.sets_out.Goals as goal

pub returns : goal.returns
returns c =
    sets_none c.args.self.now.world c.args.self.now.out c.args.who c.args.event.now c.names_out.result (subst (λ (g : GrownState). IsSound g.world) c.self.view_is c.keeps.ensures.sound)
    c.names_out.ensures
