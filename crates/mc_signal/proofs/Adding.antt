-- A codec that is added at the end keeps what every list of codecs keeps.
use Rattle.std.proofs.Common.{◌≡◌, ◌+◌, ◌<◌, ◌≤◌, ℕ, List, length, Contains, slice_index, slice_set, take, arith}
use Rattle.std.proofs.lemmas.Grind.{common_steps}
use Rattle.mc_signal.specs.Codecs.{AreCodecs, AreDistinct, IsBlankFrom}

-- an entry below len that equals the codec puts it in the list
pub taken_contains : (at : List ℕ) (len codec j : ℕ) → len ≤ length at → j < len → slice_index at j ≡ codec → Contains (take len at) codec
taken_contains at len codec j fits below same = (j, grind (arith, common_steps), grind (arith, common_steps))

pub AreCodecs-add : (at : List ℕ) (len codec : ℕ) → len < length at → codec < 64 → AreCodecs len at → AreCodecs (len + 1) (slice_set at len codec)
AreCodecs-add at len codec room small known k below = let before : k < len → slice_index at k < 64 = known k in grind (arith, common_steps)

pub IsBlankFrom-add : (at : List ℕ) (len codec : ℕ) → len < length at → IsBlankFrom len at → IsBlankFrom (len + 1) (slice_set at len codec)
IsBlankFrom-add at len codec room blank k above = let before : len ≤ k → slice_index at k ≡ 0 = blank k in grind (arith, common_steps)

pub AreDistinct-add : (at : List ℕ) (len codec : ℕ) → len < length at → (Contains (take len at) codec → ⊥) → AreDistinct len at → AreDistinct (len + 1) (slice_set at len codec)
AreDistinct-add at len codec room new distinct j k less below same =
    let before : k < len → slice_index at j ≡ slice_index at k → ⊥ = distinct j k less in
    let here : slice_index at j ≡ codec → ⊥ = λ e. new (taken_contains at len codec j (omega arith) (omega arith) e) in
    grind (arith, common_steps)
