use Rattle.std.proofs.Common.{refl, sym}
use Rattle.mc_text.specs.Lines.{is_space}
use Rattle.mc_text.proofs.FirstWord.{cut_word, no_pieces}
use Rattle.mc_text.proofs.words.Words.next_word.Goals as goal

pub returns-in_err-start-clause-word : goal.returns-in_err-start-clause-word
returns-in_err-start-clause-word c = rw (c.from_residual.ensures, ← c.self.view_is, no_pieces is_space c.self.inside.rest.now (sym c.in_err-start.ensures)) refl

pub returns-in_err-start-clause-rest : goal.returns-in_err-start-clause-rest
returns-in_err-start-clause-rest c = rw (← c.self.view_is, no_pieces is_space c.self.inside.rest.now (sym c.in_err-start.ensures)) refl

pub returns-clause-word : goal.returns-clause-word
returns-clause-word c =
    let cut = cut_word is_space c.self.inside.rest.now c.in_ok-start.start c.word_len.result (sym c.in_ok-start.ensures) (rw (← c.rest_of-words.ensures) c.word_len.ensures.first) in
    rw (c.split_at.ensures.front, c.rest_of-words.ensures, ← c.self.view_is, cut) refl

pub returns-clause-rest : goal.returns-clause-rest
returns-clause-rest c =
    let cut = cut_word is_space c.self.inside.rest.now c.in_ok-start.start c.word_len.result (sym c.in_ok-start.ensures) (rw (← c.rest_of-words.ensures) c.word_len.ensures.first) in
    rw (c.split_at.ensures.back, c.rest_of-words.ensures, ← c.self.view_is, cut) refl
