use Rattle.std.proofs.Common.{◌≡◌, ◌++◌, take, flat_map}
use Rattle.mc_program_lines.specs.Programs.{words_of}
use Rattle.mc_net_text.specs.Lines.{next_word}
use Rattle.mc_net_text.proofs.programs.put_words.Given as goal

-- the words so far
abbrev pub invariant-loop-word : goal.invariant-loop-word
invariant-loop-word l =
    l.out.items ≡ l.fn.out.items ++ flat_map next_word (take l.word-index (words_of l.words))
