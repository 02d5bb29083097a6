use Rattle.std.proofs.Common.{◌≡◌, ◌++◌, drop}
use Rattle.mc_segments.specs.Ends.{commands_in}
use Rattle.mc_segments.proofs.journal.commands_in.Given as goal

-- the commands so far, and those of the turns that are left
abbrev pub invariant-loop-turn : goal.invariant-loop-turn
invariant-loop-turn l = l.commands.items ++ commands_in (drop l.turn-index l.turns) ≡ commands_in l.turns
