use Rattle.std.proofs.Common.{◌∙◌, ◌==◌}
use Rattle.mc_worker.specs.EndSets.{has_bit}
use Rattle.mc_worker.proofs.Waiting.{set_off, set_on}
use Rattle.mc_worker.proofs.end_set.with_bit_as.Goals as goal

pub returns-then-is_in : goal.returns-then-is_in
returns-then-is_in c k = c.with_bit.ensures k ∙ set_on (k == c.args.place) c.args.is_in (has_bit c.args.bits k) c.if-is_in.true

pub returns-else-is_in : goal.returns-else-is_in
returns-else-is_in c k = c.without_bit.ensures k ∙ set_off (k == c.args.place) c.args.is_in (has_bit c.args.bits k) c.if-is_in.false
