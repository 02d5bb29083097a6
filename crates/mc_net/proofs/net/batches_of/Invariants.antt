use Rattle.std.proofs.Common.{◌≡◌, ◌++◌, drop, map}
use Rattle.mc_net.specs.Nets.{batches_of, batch_turns}
use Rattle.mc_net.proofs.Batches.{all_before_next}
use Rattle.mc_net.proofs.net.batches_of.Given as goal

abbrev pub invariant-loop-command : goal.invariant-loop-command
invariant-loop-command l = map batch_turns l.batches.items ++ all_before_next l.turns.items (batches_of (drop l.command-index l.commands)) ≡ batches_of l.commands
