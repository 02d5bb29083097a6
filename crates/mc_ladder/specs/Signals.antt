-- The words of a signal, each after a space.
use Rattle.std.specs.Prelude.{ℕ, Bool, true, false, List, [], ◌∷◌, ◌++◌, codes, Some}
use Rattle.std.specs.Fmt.{decimal}
use Rattle.std.specs.List.{flat_map}
use Rattle.mc_signal.specs.Choice.{codecs_of}
use Rattle.mc_signal.specs.declared.Descriptor.{Descriptor}
use Rattle.mc_signal.specs.declared.Selector.{Selector}
use Rattle.mc_signal.specs.declared.Signal.{Signal}
use Rattle.mc_signal.specs.declared.Signal.TheVariants.{Open, Oack, Close, Closeack, Describe, Select}
use Rattle.mc_model.specs.Worlds.{WorldState}
use Rattle.mc_table.specs.Words.{codec_word}
use Rattle.mc_text.specs.NameLists.{NameLists}
use Rattle.mc_ladder.specs.Placing.{place_word}
use Rattle.mc_ladder.specs.Words.{spaced}

abbrev pub signal_word : Signal → List ℕ
signal_word (Open medium d) = codes "open"
signal_word (Oack d) = codes "oack"
signal_word Close = codes "close"
signal_word Closeack = codes "closeack"
signal_word (Describe d) = codes "describe"
signal_word (Select s) = codes "select"

-- the codecs of a descriptor, or that it has none
abbrev pub codecs_text : NameLists → List ℕ → List ℕ
codecs_text names [] = spaced (codes "none")
codecs_text names (first ∷ others) = flat_map (λ codec. spaced (codec_word names (Some codec))) (first ∷ others)

-- a descriptor by its slot and its version
abbrev pub names_descriptor : NameLists → WorldState → List ℕ → (origin version : ℕ) → List ℕ
names_descriptor names world word origin version =
    spaced word ++ spaced (place_word names world origin) ++ spaced (decimal version)

-- a descriptor: its codecs, and whose it is
abbrev pub described_text : NameLists → WorldState → Descriptor → List ℕ
described_text names world d =
    codecs_text names (codecs_of d.codecs) ++ names_descriptor names world (codes "of") d.origin d.version

-- a selector: its codec, and the descriptor that it answers
abbrev pub selected_text : NameLists → WorldState → Selector → List ℕ
selected_text names world s =
    spaced (codec_word names s.codec) ++ names_descriptor names world (codes "for") s.origin s.version

-- what a signal carries
abbrev pub carried_text : NameLists → WorldState → Signal → List ℕ
carried_text names world (Open medium d) = described_text names world d
carried_text names world (Oack d) = described_text names world d
carried_text names world (Describe d) = described_text names world d
carried_text names world (Select s) = selected_text names world s
carried_text names world signal = []

abbrev pub dropped_text : Bool → List ℕ
dropped_text true = spaced (codes "dropped")
dropped_text false = []

abbrev pub signal_text : NameLists → WorldState → Signal → (dropped : Bool) → List ℕ
signal_text names world signal dropped =
    spaced (signal_word signal) ++ carried_text names world signal ++ dropped_text dropped
