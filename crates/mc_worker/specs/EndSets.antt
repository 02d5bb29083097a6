-- Sets of channel ends.
use Rattle.std.specs.Prelude.{ℕ, ◌==◌, Bool}
use Rattle.std.specs.Int.{bit_at}
use Rattle.mc_worker.specs.declared.end_set.EndSet.{EndSet}

abbrev pub has_bit : ℕ → ℕ → Bool
has_bit bits place = bit_at bits place == 1

-- the end is in the set
abbrev pub contains_end : EndSet → ℕ → Bool
contains_end set end = has_bit set.bits end
