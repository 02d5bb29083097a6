use Rattle.std.proofs.Common.{◌∙◌, sym}
use Rattle.mc_shard_c.proofs.Laid.{code_invalid}
use Rattle.mc_shard_c.proofs.media_shard_make.Goals as goal

pub returns-clause-invalid : goal.returns-clause-invalid
returns-clause-invalid c = λ is. c.in-Err.ensures.invalid (code_invalid c.in-Err.why (sym c.code.ensures ∙ is))
