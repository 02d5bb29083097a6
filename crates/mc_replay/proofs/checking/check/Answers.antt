use Rattle.std.proofs.Common.{map, subst}
use Rattle.mc_script.specs.Batches.{batch_turns}
use Rattle.mc_replay.specs.Faults.{RefusesLines}
use Rattle.mc_replay.proofs.checking.check.Goals as goal

pub returns-in-Err-At-clause-refused : goal.returns-in-Err-At-clause-refused
returns-in-Err-At-clause-refused g c =
    (subst (RefusesLines c.args.world (map batch_turns c.args.batches.now) c.args.text.now.lines.items c.args.text.now.bad) c.in-Err-At.field-0-is c.in-Err-At.ensures.refused).0
