use Rattle.std.proofs.Common.{◌∙◌, ◌++◌, List, ap, ℕ}
use Rattle.std.proofs.lemmas.Result.{on_ok_weaker}
use Rattle.mc_script_end.proofs.Running.{has_names}
use Rattle.mc_settle_text.proofs.Shown.{settle_is, views_named}
use Rattle.mc_table.specs.Shown.{print_settle}
use Rattle.mc_livetop.proofs.run.print_settle.Goals as goal

pub put_settle-requires : goal.put_settle-requires
put_settle-requires c =
    rw (c.deref.ensures.value, c.in_ok-views.ensures.views)
    (views_named c.args.names.now c.args.world.now (has_names c.args.names.now c.args.world.now c.keeps.ensures.sound c.requires.named) c.keeps.ensures.sound (c.in_ok-views.ensures.quiet c.requires.quiet))

pub returns : goal.returns
returns c =
    let same = ap (print_settle c.args.names.now c.args.number) (c.deref.ensures.value ∙ c.in_ok-views.ensures.views) ∙ settle_is c.args.names.now c.args.number c.args.world.now c.requires.holds in
    on_ok_weaker c.put_settle.result (λ shown. shown ∙ ap (λ (t : List ℕ). c.args.output.now.items ++ t) same) c.put_settle.ensures
