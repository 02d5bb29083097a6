use Rattle.std.proofs.Common.{◌≡◌, [], replicate}
use Rattle.mc_seq.specs.Commands.{queues_of}
use Rattle.mc_seq.proofs.commands.empty_queues.Given as goal

-- an empty list for each box so far
abbrev pub invariant-loop-done : goal.invariant-loop-done
invariant-loop-done l = queues_of l.queues.items ≡ replicate l._done []
