use Rattle.std.proofs.Common.{◌≡◌, ◌++◌, length}
use Rattle.mc_program_lines.specs.Programs.{words_of}
use Rattle.mc_program_lines.proofs.program.owned.Given as goal

abbrev pub invariant-loop-word : goal.invariant-loop-word
invariant-loop-word l = words_of l.owned.items ++ l.words ≡ l.initial.words

abbrev pub decreases-loop-word : goal.decreases-loop-word
decreases-loop-word l = length l.words
