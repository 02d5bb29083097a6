use Rattle.std.proofs.Common.{◌≡◌, ◌<◌, ℕ, length}
use Rattle.mc_box.specs.Boxes.{no_box}
use Rattle.std.specs.Prelude.{slice_index_or}
use Rattle.mc_world.specs.Lanes.{numbers_of}
use Rattle.mc_world.proofs.network.piece.have_slots.Given as goal

-- the boxes so far have as many numbers as slots
abbrev pub invariant-loop-who : goal.invariant-loop-who
invariant-loop-who l = (k : ℕ) → k < l.who → length (numbers_of l.topology k) ≡ length (slice_index_or l.boxes k no_box).slots
