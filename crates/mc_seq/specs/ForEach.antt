-- What a function gives for each number below a count.
use Rattle.std.specs.Prelude.{ℕ, zero, suc, List, [], ◌++◌}
use Rattle.mc_box.specs.declared.event.Turn.{Turn}

-- in rising order
abbrev pub for_each : (ℕ → List Turn) → ℕ → List Turn
for_each f zero = []
for_each f (suc n) = for_each f n ++ f n
