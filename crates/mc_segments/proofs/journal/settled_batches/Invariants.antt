use Rattle.std.proofs.Common.{◌≡◌, ◌++◌, drop, map}
use Rattle.mc_script.specs.Batches.{batch_turns}
use Rattle.mc_segments.specs.Lines.{settled_batches}
use Rattle.mc_segments.proofs.journal.settled_batches.Given as goal

-- the batches so far, and those of the settles that are left
abbrev pub invariant-loop-place : goal.invariant-loop-place
invariant-loop-place l = map batch_turns l.batches.items ++ settled_batches l.turns l.from (drop l.place-index l.ends) ≡ settled_batches l.turns 0 l.ends
