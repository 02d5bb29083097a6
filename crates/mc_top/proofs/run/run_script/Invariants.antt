use Rattle.std.proofs.Common.{drop, map}
use Rattle.mc_net.specs.Nets.{batch_turns}
use Rattle.mc_top.specs.Drawn.{draws_state}
use Rattle.mc_top.specs.Printed.{opening_text, report_text}
use Rattle.mc_top.proofs.Running.{GoesOn}
use Rattle.mc_top.proofs.run.run_script.Given as goal

-- what was run so far goes on with the batches that are left
abbrev pub invariant-loop-index : goal.invariant-loop-index
invariant-loop-index g l = GoesOn (report_text l.report l.names) (opening_text l.report l.fn.world) l.fn.world (draws_state l.fn.draws) (map batch_turns l.batches) (map batch_turns (drop l.index l.batches)) l.index l.progress
