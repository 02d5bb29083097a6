use Rattle.std.proofs.Common.{◌≡◌, length}
use Rattle.mc_program_lines.specs.WordLists.{has_repeat}
use Rattle.mc_program_lines.proofs.word_list.has_repeat.Given as goal

abbrev pub invariant-loop-word : goal.invariant-loop-word
invariant-loop-word l = has_repeat l.words ≡ has_repeat l.initial.words

abbrev pub decreases-loop-word : goal.decreases-loop-word
decreases-loop-word l = length l.words
