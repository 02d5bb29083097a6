-- A word whose codec is added to a list.
use Rattle.std.specs.Prelude.{ℕ, Bool, ◌&&◌, not, List, length, nat_lt}
use Rattle.std.specs.Option.{is_some}
use Rattle.mc_signal.specs.Choice.{has_codec}
use Rattle.mc_text.specs.NameLists.{NameLists, place_of}
use Rattle.mc_lines.specs.Meaning.{codec_number}
use Rattle.mc_lines.specs.declared.limit.TheConstants.{LIST_LIMIT}

abbrev pub is_codec : NameLists → List ℕ → Bool
is_codec names word = is_some (place_of names.codecs word)

-- the word names a codec that isn't listed, and there is room for it
abbrev pub can_add : NameLists → List ℕ → List ℕ → Bool
can_add names listed word =
    is_codec names word && not (has_codec listed (codec_number names word)) && nat_lt (length listed) LIST_LIMIT
