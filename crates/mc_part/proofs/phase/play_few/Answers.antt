use Rattle.std.proofs.Common.{rules}
use Rattle.mc_part.proofs.Going.{one_ready}
use Rattle.mc_part.proofs.phase.play_few.Goals as goal

pub play_one-requires-clause-ready : goal.play_one-requires-clause-ready
play_one-requires-clause-ready g c = one_ready c.args.retries c.args.every c.args.budget c.args.runs.now c.index-runs-0.result (search rules) c.requires.ready
