-- How a signal looks: its colour, and the words over its arrow.
use Rattle.std.specs.Prelude.{ℕ, if◌then◌else◌, List, [], ◌∷◌, ◌++◌, codes, length, nat_lt, take}
use Rattle.mc_signal.specs.Choice.{codecs_of}
use Rattle.mc_signal.specs.declared.Signal.{Signal}
use Rattle.mc_signal.specs.declared.Signal.TheVariants.{Open, Oack, Close, Closeack, Describe, Select}
use Rattle.mc_table.specs.Words.{codec_word}
use Rattle.mc_text.specs.NameLists.{NameLists}
use Rattle.mc_ladder.specs.Signals.{codecs_text, signal_word}
use Rattle.mc_ladder.specs.Words.{spaced}

-- the class of its colour: asked for, agreed on again, or ended
abbrev pub signal_class : Signal → List ℕ
signal_class (Open medium d) = codes "op"
signal_class (Oack d) = codes "op"
signal_class Close = codes "cl"
signal_class Closeack = codes "cl"
signal_class (Describe d) = codes "me"
signal_class (Select s) = codes "me"

-- the codecs that it carries
abbrev pub shown_codecs : NameLists → Signal → List ℕ
shown_codecs names (Open medium d) = codecs_text names (codecs_of d.codecs)
shown_codecs names (Oack d) = codecs_text names (codecs_of d.codecs)
shown_codecs names (Describe d) = codecs_text names (codecs_of d.codecs)
shown_codecs names (Select s) = spaced (codec_word names s.codec)
shown_codecs names Close = []
shown_codecs names Closeack = []

-- words of at most 18 bytes, or 17 bytes of them and `…`
abbrev pub fitted : List ℕ → List ℕ
fitted words = if nat_lt 18 (length words) then take 17 words ++ 226 ∷ 128 ∷ 166 ∷ [] else words

abbrev pub shown_words : NameLists → Signal → List ℕ
shown_words names signal = fitted (signal_word signal ++ shown_codecs names signal)
