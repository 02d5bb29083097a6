use Rattle.std.proofs.Common.{◌≡◌, ℕ, length, map}
use Rattle.mc_world.specs.Pieces.{AreFilled, HasPlaces}
use Rattle.mc_world.proofs.network.piece.numbers_by_place.Given as goal

-- the slots so far are put, where the places are those of the homes
abbrev pub invariant-loop-slot : goal.invariant-loop-slot
invariant-loop-slot l = (length l.numbers.items ≡ l.homes)
    × ((count : ℕ → ℕ) → HasPlaces l.places l.homes count → AreFilled l.places count l.slot (map (λ numbers. numbers.items) l.numbers.items))
