use Rattle.std.proofs.Common.{IfNone, map, string_bytes, subst, sym}
use Rattle.std.proofs.lemmas.Result.{IfOk-weaker}
use Rattle.mc_words.specs.Arguments.{AreFew}
use Rattle.mc_words.proofs.Parsed.{parsed_none, parsed_some, texts_of}
use Rattle.mc_words.proofs.parser.parse_words.Goals as goal

pub returns-in-Ok-clause-some : goal.returns-in-Ok-clause-some
returns-in-Ok-clause-some c = parsed_some _ (map string_bytes c.args.words.now) c.in-Ok.matches (texts_of c.args.words.now) c.in_ok-words_command.ensures c.in-Ok.ensures.kinds c.in-Ok.ensures.matches

pub returns-in-Err-clause-none : goal.returns-in-Err-clause-none
returns-in-Err-clause-none c =
    let none = parsed_none _ (map string_bytes c.args.words.now) c.in-Err.error (texts_of c.args.words.now) c.in_ok-words_command.ensures c.in-Err.ensures.kinds in
    IfOk-weaker c.none_unless_memory.result _ _
    (λ parsed h. subst (λ p. IfNone p (AreFew (map string_bytes c.args.words.now) → ⊥)) (sym h.0) (none h.1)) c.none_unless_memory.ensures
