use Rattle.std.proofs.Common.{drop, map}
use Rattle.mc_livetop.proofs.Running.{GoesOn}
use Rattle.mc_net.specs.Nets.{batch_turns}
use Rattle.mc_livetop.proofs.run.run_live.Given as goal

-- what was run so far goes on with the batches that are left
abbrev pub invariant-loop-index : goal.invariant-loop-index
invariant-loop-index g l = GoesOn l.operators l.names l.fn.world (map batch_turns l.batches) (map batch_turns (drop l.index l.batches)) l.index l.now l.journal.items l.output.items
