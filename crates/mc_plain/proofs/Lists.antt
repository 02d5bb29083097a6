-- Lists of codecs.
use Rattle.std.proofs.Common.{◌≡◌, ℕ, false, List, Contains, arith}
use Rattle.std.proofs.lemmas.Grind.{common_steps}
use Rattle.mc_signal.specs.Choice.{has_codec}

-- a codec that the test doesn't find isn't in the list
pub has_codec_contains : (codecs : List ℕ) (codec : ℕ) → has_codec codecs codec ≡ false → Contains codecs codec → ⊥
has_codec_contains codecs codec lacks contained = grind (arith, common_steps)
