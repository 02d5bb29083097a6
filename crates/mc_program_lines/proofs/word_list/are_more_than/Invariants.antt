use Rattle.std.proofs.Common.{◌≡◌, drop}
use Rattle.mc_program_lines.proofs.word_list.are_more_than.Given as goal

abbrev pub invariant-loop-passed : goal.invariant-loop-passed
invariant-loop-passed l = l.words ≡ drop l._passed l.initial.words
