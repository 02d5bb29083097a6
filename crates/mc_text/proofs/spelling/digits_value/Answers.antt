use Rattle.std.proofs.Common.{◌≡◌, take, arith}
use Rattle.std.specs.Str.Parse.{digits_value}
use Rattle.std.proofs.lemmas.Int.Digits.{digits_value_more}
use Rattle.mc_text.proofs.Numerals.{digits_small, numeral_digit}
use Rattle.mc_text.proofs.spelling.digits_value.Goals as goal

pub overflow_mul-value : goal.overflow_mul-value
overflow_mul-value c =
    let small = digits_small c.args.word.now c.loop-digit.digit-index c.requires in
    rw c.loop-digit.invariant (omega arith)

pub overflow_add-value : goal.overflow_add-value
overflow_add-value c =
    let small = digits_small c.args.word.now c.loop-digit.digit-index c.requires in
    let so_far : c.loop-digit.value ≡ digits_value 10 (take c.loop-digit.digit-index c.args.word.now) = c.loop-digit.invariant in
    let digit = numeral_digit c.args.word.now c.loop-digit.digit-index c.loop-digit-test.true c.requires in
    omega (arith, c.from.ensures)

pub loop-digit-preserved : goal.loop-digit-preserved
loop-digit-preserved c =
    let more = digits_value_more 10 c.args.word.now c.loop-digit.digit-index c.loop-digit-test.true in
    let digit = numeral_digit c.args.word.now c.loop-digit.digit-index c.loop-digit-test.true c.requires in
    let so_far : c.loop-digit.value ≡ digits_value 10 (take c.loop-digit.digit-index c.args.word.now) = c.loop-digit.invariant in
    rw (more, digit.1, ← so_far) (omega (arith, c.from.ensures))
