use Rattle.std.proofs.Common.{◌≡◌, drop}
use Rattle.mc_text.specs.Lines.{words}
use Rattle.mc_explain.proofs.hints.word_at.Given as goal

-- so many words are passed
abbrev pub invariant-loop : goal.invariant-loop
invariant-loop l = l.words ≡ drop l.counter (words l.line)
