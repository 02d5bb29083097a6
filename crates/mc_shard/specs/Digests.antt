-- The digest of a signal in its lane: 64 bits over all signals of the lane up to it.
use Rattle.std.specs.Prelude.{ℕ, ◌*◌, ◌%◌, ◌^◌, List, [], ◌∷◌, bit_xor, Option, Some, None}
use Rattle.std.specs.Int.{from_le_bytes, w64}
use Rattle.std.specs.List.{fold}
use Rattle.mc_signal.specs.declared.Descriptor.{Descriptor}
use Rattle.mc_signal.specs.declared.Medium.{Medium}
use Rattle.mc_signal.specs.declared.Medium.TheVariants.{Audio, Video}
use Rattle.mc_signal.specs.declared.Selector.{Selector}
use Rattle.mc_signal.specs.declared.Signal.{Signal}
use Rattle.mc_signal.specs.declared.Signal.TheVariants.{Open, Oack, Close, Closeack, Describe, Select}
use Rattle.mc_shard.specs.declared.limit.TheConstants.{DIGEST_FACTOR}

-- one round of FNV-1a, over a word of 64 bits
unfoldable pub mixed : ℕ → ℕ → ℕ
mixed digest word = (bit_xor digest word * DIGEST_FACTOR) % 2 ^ 64

abbrev pub medium_code : Medium → ℕ
medium_code Audio = 0
medium_code Video = 1

-- the eight places of codecs are one word
abbrev pub descriptor_words : Descriptor → List ℕ
descriptor_words d =
    d.origin ∷ d.version ∷ d.addr ∷ d.port ∷ d.codecs.len ∷ from_le_bytes w64 d.codecs.at ∷ []

abbrev pub codec_words : Option ℕ → List ℕ
codec_words None = 0 ∷ 0 ∷ []
codec_words (Some codec) = 1 ∷ codec ∷ []

abbrev pub selector_words : Selector → List ℕ
selector_words s = s.origin ∷ s.version ∷ s.addr ∷ s.port ∷ codec_words s.codec

-- its kind, and what it says
abbrev pub signal_words : Signal → List ℕ
signal_words (Open medium d) = 0 ∷ medium_code medium ∷ descriptor_words d
signal_words (Oack d) = 1 ∷ descriptor_words d
signal_words Close = 2 ∷ []
signal_words Closeack = 3 ∷ []
signal_words (Describe d) = 4 ∷ descriptor_words d
signal_words (Select s) = 5 ∷ selector_words s

-- the digest of the signal before it, which is 0 for the first, and then a round for each word
unfoldable pub digest_after : ℕ → ℕ → ℕ → ℕ → Signal → ℕ
digest_after last number stamp tunnel signal = fold mixed last (number ∷ stamp ∷ tunnel ∷ signal_words signal)
