use Rattle.std.proofs.Common.{◌++◌, List, ℕ, ap, ◌∙◌, arith, take, flat_map}
use Rattle.mc_program_lines.specs.Programs.{words_of}
use Rattle.mc_net_text.specs.Lines.{next_word}
use Rattle.mc_net_text.proofs.OneMore.{word_more}
use Rattle.mc_net_text.proofs.programs.put_words.Goals as goal

pub loop-word-preserved : goal.loop-word-preserved
loop-word-preserved c =
    let before : List ℕ = c.args.out.now.items ++ flat_map next_word (take c.loop-word.word-index (words_of c.args.words.now)) in
    c.in_ok-put_next.ensures
    ∙ (ap (λ (l : List ℕ). l ++ next_word c.deref.result.now) c.loop-word.invariant
    ∙ (ap (λ (w : List ℕ). before ++ next_word w) c.deref.ensures.value
    ∙ word_more c.args.out.now.items c.args.words.now c.loop-word.word-index c.word-item.result (omega arith) c.word-item.is))
