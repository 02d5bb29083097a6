use Rattle.std.proofs.Common.{◌≡◌, take}
use Rattle.mc_team.specs.Logs.{log_lists}
use Rattle.mc_team.specs.Rounds.{round_logs}
use Rattle.mc_team.proofs.round.logs_of.Given as goal

-- the logs so far
abbrev pub invariant-loop-member : goal.invariant-loop-member
invariant-loop-member l = log_lists l.logs.items ≡ round_logs (take l.member-index l.members)
