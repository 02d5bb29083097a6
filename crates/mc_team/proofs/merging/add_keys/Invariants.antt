use Rattle.std.proofs.Common.{◌≡◌, ◌++◌, drop}
use Rattle.mc_order.specs.Keys.{keys_of}
use Rattle.mc_team.specs.Logs.{log_stamps}
use Rattle.mc_team.proofs.merging.add_keys.Given as goal

-- what is there, and the entries that are left, make the whole
abbrev pub invariant-loop-index : goal.invariant-loop-index
invariant-loop-index l = l.keys.items ++ keys_of l.who l.index (drop l.index (log_stamps l.log)) ≡ l.initial.keys.items ++ keys_of l.who 0 (log_stamps l.log)
