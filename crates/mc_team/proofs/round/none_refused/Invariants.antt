use Rattle.std.proofs.Common.{take}
use Rattle.mc_team.specs.Runs.{NoneRefused}
use Rattle.mc_team.proofs.round.none_refused.Given as goal

-- none so far was refused
abbrev pub invariant-loop-member : goal.invariant-loop-member
invariant-loop-member l = NoneRefused (take l.member-index l.members)
