use Rattle.std.proofs.Common.{◌≤◌, arith, length, sym, take}
use Rattle.std.proofs.lemmas.Grind.{common_steps}
use Rattle.std.proofs.lemmas.List.{length-drop, length-take, length-take-le}
use Rattle.mc_call.proofs.BytesBehind.{last_within}
use Rattle.mc_call.proofs.behind.journal_bytes.Goals as goal

pub slice_bounds-bytes_from-end : goal.slice_bounds-bytes_from-end
slice_bounds-bytes_from-end c = sym (length-take-le 16777216 c.args.text.now (grind (arith, common_steps, c.is_too_long.ensures, c.if-is_too_long.true)))

pub returns-then-is_too_long-clause-within : goal.returns-then-is_too_long-clause-within
returns-then-is_too_long-clause-within c =
    let from : length c.bytes_from.result.now ≤ length c.args.text.now =
    rw c.bytes_from.ensures (omega (arith, length-drop c.args.rest (take 16777216 c.args.text.now), length-take 16777216 c.args.text.now)) in
    let last = last_within c.bytes_from.result.now in
    rw c.before_last_end.ensures (omega (arith, from, last))
