use Rattle.std.proofs.Common.{◌≡◌, ◌++◌, map, take}
use Rattle.mc_script.specs.declared.command.JournalLine.TheVariants.{Turn as Made}
use Rattle.mc_segments.proofs.journal.add_lines.Given as goal

-- the lines of the turns so far
abbrev pub invariant-loop-turn : goal.invariant-loop-turn
invariant-loop-turn l = l.lines.items ≡ l.fn.lines.items ++ map Made (take l.turn-index l.turns)
