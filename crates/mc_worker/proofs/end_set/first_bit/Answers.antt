use Rattle.std.proofs.Common.{arith, ap, w64, ◌==◌}
use Rattle.std.proofs.lemmas.Nat.Bits.{bit_at-trailing_zeros}
use Rattle.mc_worker.proofs.end_set.first_bit.Goals as goal

pub returns-else-bits-eq0-clause-some : goal.returns-else-bits-eq0-clause-some
returns-else-bits-eq0-clause-some c =
    let first = bit_at-trailing_zeros w64 c.args.bits (omega arith) c.ranges.bits.fits in
    (first.0, ap (λ n. n == 1) first.1)
