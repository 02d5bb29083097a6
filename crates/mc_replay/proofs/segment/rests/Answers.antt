use Rattle.std.proofs.Common.{◌∙◌, ◌&&◌, ap, sym, not, Bool}
use Rattle.mc_model.specs.Settles.{can_shift}
use Rattle.mc_replay.proofs.CountsKept.{ready_rests}
use Rattle.mc_replay.proofs.segment.rests.Goals as goal

pub returns-then-is_quiet : goal.returns-then-is_quiet
returns-then-is_quiet c =
    ready_rests c.args.world.now c.args.counts c.requires
    ∙ ap (λ (b : Bool). b && not (can_shift c.args.world.now)) (sym c.if-is_quiet.true ∙ c.is_quiet.ensures)
