use Rattle.std.proofs.Common.{All, List, subst, sym, ◌∙◌}
use Rattle.mc_conf.specs.Printed.{IsNamedMix}
use Rattle.mc_conf.specs.declared.mixing.Mix.{Mix}
use Rattle.mc_conf.proofs.Named.{mixes_named}
use Rattle.mc_conf.proofs.printing.print_conf.Goals as goal

pub put_mixes-requires : goal.put_mixes-requires
put_mixes-requires c =
    subst (λ (found : List Mix). All (IsNamedMix c.args.names.now) found) (sym (c.deref.ensures.value ∙ c.in_ok-found.ensures))
    (mixes_named c.args.names.now c.args.views.now c.args.who c.requires.ends)
