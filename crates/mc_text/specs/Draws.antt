-- The states of a source of draws.
use Rattle.std.specs.Prelude.{ℕ, ◌+◌, ◌*◌, ◌%◌, ◌^◌}

abbrev pub next_state : ℕ → ℕ
next_state state = (1103515245 * state + 12345) % 2 ^ 31
