-- The words of a printed line, and the line of words.
use Rattle.std.specs.Prelude.{ℕ, ◌<◌, Bool, true, false, length, List, [], ◌∷◌, ◌++◌, codes, slice_index_or, Option, Some, None}
use Rattle.std.specs.List.{join_with_byte}
use Rattle.mc_signal.specs.declared.Medium.{Medium}
use Rattle.mc_signal.specs.declared.Medium.TheVariants.{Audio, Video}
use Rattle.mc_text.specs.NameLists.{NameLists}

abbrev pub flow_word : Bool → List ℕ
flow_word true = codes "flowing"
flow_word false = codes "closed"

abbrev pub medium_word : Medium → List ℕ
medium_word Audio = codes "audio"
medium_word Video = codes "video"

-- the codec, if there is one, has a name
abbrev pub IsNamedCodec : NameLists → Option ℕ → Type 0
IsNamedCodec names None = Unit {0}
IsNamedCodec names (Some codec) = codec < length names.codecs

abbrev pub codec_word : NameLists → Option ℕ → List ℕ
codec_word names None = codes "none"
codec_word names (Some codec) = slice_index_or names.codecs codec []

-- words with single spaces between them, and a line end
abbrev pub line_of : List (List ℕ) → List ℕ
line_of words = join_with_byte 32 words ++ 10 ∷ []
