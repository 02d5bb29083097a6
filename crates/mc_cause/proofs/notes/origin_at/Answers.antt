use Rattle.std.proofs.Common.{◌<◌, ℕ, subst, sym}
use Rattle.mc_model.specs.Worlds.{slot_count}
use Rattle.mc_laws.proofs.ActedWorlds.{far_inside}
use Rattle.mc_cause.proofs.notes.origin_at.Goals as goal

pub bounds : goal.bounds
bounds c =
    subst (λ (n : ℕ). c.far.result < n) (sym c.requires.long)
    (subst (λ (f : ℕ). f < slot_count c.args.world.now) (sym c.far.ensures) (far_inside c.args.world.now c.args.slot c.requires.inside))
