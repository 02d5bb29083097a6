use Rattle.std.proofs.Common.{◌≡◌, map, take}
use Rattle.mc_team.specs.Logs.{log_lists, logged_turn}
use Rattle.mc_team.proofs.merging.turns_of.Given as goal

-- the turns of the entries so far
abbrev pub invariant-loop-key : goal.invariant-loop-key
invariant-loop-key l = l.turns.items ≡ map (logged_turn (log_lists l.logs)) (take l.key-index l.keys)
