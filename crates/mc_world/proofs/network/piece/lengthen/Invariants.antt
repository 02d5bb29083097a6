use Rattle.std.proofs.Common.{◌≡◌, ◌≤◌, ℕ, Some, length}
use Rattle.std.specs.List.{slice_get}
use Rattle.mc_world.proofs.network.piece.lengthen.Given as goal

-- what was there is there, and numbers are added up to this one
abbrev pub invariant-loop-done : goal.invariant-loop-done
invariant-loop-done l = ((k s : ℕ) → slice_get l.fn.home.items k ≡ Some s → slice_get l.home.items k ≡ Some s) × (length l.home.items ≡ l._done)
    × ((m : ℕ) → length l.fn.home.items ≤ m → l.least ≤ m → l._done ≤ m)
