use Rattle.std.proofs.Common.{◌+◌, drop, sym, arith}
use Rattle.mc_text.specs.Lines.{is_space}
use Rattle.mc_text.proofs.FirstWord.{no_pieces, found_at, IsFirstWord}
use Rattle.mc_text.proofs.lines.next_word.Goals as goal

-- the place that is answered
found : (c : goal.After-word_len-len) → IsFirstWord is_space c.args.line.now c.args.from (c.args.from + c.in_ok-start.start) (c.args.from + c.in_ok-start.start + c.word_len-len.result)
found c = found_at is_space c.args.line.now c.args.from c.in_ok-start.start c.word_len-len.result c.requires
    (rw (← c.rest_of-rest.ensures) (sym c.in_ok-start.ensures)) (rw (← c.rest_of-rest.ensures, ← c.rest_of.ensures) c.word_len-len.ensures.first) (rw (← c.rest_of-rest.ensures, ← c.rest_of.ensures) c.word_len-len.ensures.within)

pub returns-in_err-start-clause-next : goal.returns-in_err-start-clause-next
returns-in_err-start-clause-next c = rw c.from_residual.ensures (no_pieces is_space (drop c.args.from c.args.line.now) (sym (rw (← c.rest_of-rest.ensures) c.in_err-start.ensures)))

pub returns-clause-within : goal.returns-clause-within
returns-clause-within c = let f = found c in (omega arith, f.some, f.within)

pub returns-clause-next : goal.returns-clause-next
returns-clause-next c = (found c).next
