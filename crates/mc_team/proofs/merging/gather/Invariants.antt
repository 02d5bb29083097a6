use Rattle.std.proofs.Common.{◌≡◌, ◌++◌, drop, map}
use Rattle.mc_order.specs.Keys.{keys_from}
use Rattle.mc_team.specs.Logs.{log_lists, log_stamps}
use Rattle.mc_team.proofs.merging.gather.Given as goal

-- the entries so far, and those of the logs that are left, are all
abbrev pub invariant-loop-who : goal.invariant-loop-who
invariant-loop-who l = l.keys.items ++ keys_from l.who (map log_stamps (drop l.who (log_lists l.logs))) ≡ keys_from 0 (map log_stamps (log_lists l.logs))
