use Rattle.std.proofs.Common.{◌≡◌, ◌++◌, drop}
use Rattle.mc_segments.specs.Lines.{settled_lines}
use Rattle.mc_segments.proofs.journal.settled_lines.Given as goal

-- the lines so far, and those of the settles that are left
abbrev pub invariant-loop-place : goal.invariant-loop-place
invariant-loop-place l = l.lines.items ++ settled_lines l.turns l.from (drop l.place-index l.ends) ≡ settled_lines l.turns 0 l.ends
