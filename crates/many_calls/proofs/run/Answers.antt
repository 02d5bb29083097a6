use Rattle.std.proofs.Common.{List, subst, sym, ◌∙◌}
use Rattle.mc_model.specs.Worlds.{WorldState}
use Rattle.mc_script.specs.declared.command.Batch.{Batch}
use Rattle.many_calls.proofs.Kept.{allows_tested}
use Rattle.many_calls.specs.Allowed.{AllowsAll}
use Rattle.many_calls.proofs.run.Goals as goal

pub settle_times-requires-after_bounds : goal.settle_times-requires-after_bounds
settle_times-requires-after_bounds g c κs within =
    subst (λ (w : WorldState). AllowsAll w c.deref-2.result.now) (sym c.in_ok-parted.ensures)
    (subst (λ (batches : List Batch). AllowsAll c.in_ok-world.world batches) (c.deref.ensures.value ∙ sym c.deref-2.ensures.value)
    (allows_tested c.in_ok-world.world c.deref.result.now (sym c.allows_all.ensures ∙ c.if-not-allows_all.false)))
