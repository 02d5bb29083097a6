use Rattle.std.proofs.Common.{◌≡◌, ◌++◌, map, take}
use Rattle.mc_script.specs.declared.command.JournalLine.TheVariants.{Turn as Made}
use Rattle.mc_settle_text.proofs.journal.keep_turns.Given as goal

-- the turns so far stand after what was kept
abbrev pub invariant-loop-turn : goal.invariant-loop-turn
invariant-loop-turn l = l.journal.items ≡ l.fn.journal.items ++ map Made (take l.turn-index l.turns)
