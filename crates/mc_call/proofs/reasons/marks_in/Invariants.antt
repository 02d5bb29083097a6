use Rattle.std.proofs.Common.{◌≡◌, ◌≤◌, take}
use Rattle.mc_replay.specs.Points.{marks_in}
use Rattle.mc_call.proofs.reasons.marks_in.Given as goal

-- the marks so far
abbrev pub invariant-loop-line : goal.invariant-loop-line
invariant-loop-line l = (l.count ≡ marks_in (take l.line-index l.journal)) × (l.count ≤ l.line-index)
