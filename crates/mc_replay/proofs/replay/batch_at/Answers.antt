use Rattle.std.proofs.Common.{◌∙◌}
use Rattle.mc_replay.proofs.Stands.{picked}
use Rattle.mc_replay.proofs.replay.batch_at.Goals as goal

pub returns-in-Some : goal.returns-in-Some
returns-in-Some c =
    let found = c.in-Some.ensures.lookup.3 in
    c.deref.ensures.value ∙ picked c.args.batches.now c.args.place c.in-Some.batch.now found.0 found.1
