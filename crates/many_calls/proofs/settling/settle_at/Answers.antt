use Rattle.std.proofs.Common.{ap, subst, sym, ◌∙◌}
use Rattle.mc_model.specs.Shapes.{AreAllowed}
use Rattle.mc_script.specs.Batches.{batch_turns}
use Rattle.many_calls.proofs.Kept.{allows_after}
use Rattle.many_calls.proofs.settling.settle_at.Goals as goal

pub settle-requires-clause-allowed : goal.settle-requires-clause-allowed
settle-requires-clause-allowed g c κs within =
    subst (AreAllowed c.args.parted) (sym (c.deref.ensures.value ∙ ap batch_turns c.index-batches-index.is))
    (c.requires.allowed c.args.index c.index-batches-index.result c.requires.index)

pub returns : goal.returns
returns g c = allows_after c.args.parted c.in_ok-parted.parted _ _ c.args.batches.now c.keeps.ensures.sound c.in_ok-parted.ensures.settled c.requires.allowed
