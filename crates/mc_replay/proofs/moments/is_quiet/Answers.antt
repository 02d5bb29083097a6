use Rattle.std.proofs.Common.{◌∙◌, ap, ℕ, nat_eq}
use Rattle.mc_replay.proofs.Quiet.{takes_quiet}
use Rattle.mc_replay.proofs.moments.is_quiet.Goals as goal

pub returns : goal.returns
returns c = ap (λ (n : ℕ). nat_eq n 0) c.total.ensures ∙ takes_quiet c.args.world.now c.takes.result.now c.keeps.ensures.sound c.takes.ensures
