use Rattle.std.proofs.Common.{◌≡◌, ◌+◌, sum, take}
use Rattle.mc_sums.proofs.finding.find_in_both_from.Given as goal

-- what stands before here and what is left are what is searched for
abbrev pub invariant-loop-place : goal.invariant-loop-place
invariant-loop-place l = sum (take l.place l.level) + sum (take l.place l.other) + l.rest ≡ sum (take l.first l.level) + sum (take l.first l.other) + l.k
