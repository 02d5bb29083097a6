-- Sums over the numbers below a count.
use Rattle.std.specs.Prelude.{ℕ, ◌+◌, zero, suc}

-- the sum of what a function gives for each number below a count
abbrev pub total : (ℕ → ℕ) → ℕ → ℕ
total f zero = 0
total f (suc k) = f k + total f k
