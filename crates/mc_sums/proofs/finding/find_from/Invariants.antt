use Rattle.std.proofs.Common.{◌≡◌, ◌+◌, sum, take}
use Rattle.mc_sums.proofs.finding.find_from.Given as goal

-- what stands before here and what is left are what is searched for
abbrev pub invariant-loop-place : goal.invariant-loop-place
invariant-loop-place l = sum (take l.place l.level) + l.rest ≡ sum (take l.first l.level) + l.k
