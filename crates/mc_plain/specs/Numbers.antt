-- What numbers that C hands over say, and the numbers that C is handed.
use Rattle.std.specs.Prelude.{◌≡◌, ◌==◌, ◌&&◌, ◌||◌, ℕ, Bool, true, false, not, if◌then◌else◌, List, [], ◌∷◌, ◌++◌, length, nat_le, nat_lt, slice_get, take, Option, Some, None, IsTrue}
use Rattle.std.specs.Int.Count.{ones}
use Rattle.mc_signal.specs.Choice.{codecs_of, has_codec}
use Rattle.mc_signal.specs.Codecs.{AreCodecs, AreDistinct, IsBlankFrom}
use Rattle.mc_signal.specs.declared.codec_list.CodecList.{CodecList}
use Rattle.mc_signal.specs.declared.Descriptor.{Descriptor}
use Rattle.mc_signal.specs.declared.Medium.{Medium}
use Rattle.mc_signal.specs.declared.Medium.TheVariants.{Audio, Video}
use Rattle.mc_signal.specs.declared.Selector.{Selector}
use Rattle.mc_signal.specs.declared.Signal.{Signal}
use Rattle.mc_signal.specs.declared.Signal.TheVariants.{Open, Oack, Close, Closeack, Describe, Select}
use Rattle.mc_plain.specs.declared.signals.PlainList.{PlainList}
use Rattle.mc_plain.specs.declared.signals.PlainSignal.{PlainSignal}
use Rattle.mc_plain.specs.declared.signals.PlainSent.{PlainSent}

abbrev pub medium_of : ℕ → Medium
medium_of number = if number == 0 then Audio else Video

abbrev pub medium_number : Medium → ℕ
medium_number Audio = 0
medium_number Video = 1

-- ---- codecs

-- the codec is a codec, isn't listed, and there is room for it
abbrev pub can_add : List ℕ → ℕ → Bool
can_add listed codec = nat_lt codec 64 && not (has_codec listed codec) && nat_lt (length listed) 8

-- these can be added one after another, once those before them are listed
abbrev pub can_list : List ℕ → List ℕ → Bool
can_list listed [] = true
can_list listed (codec ∷ codecs) = can_add listed codec && can_list (listed ++ codec ∷ []) codecs

-- the codecs that are named, in order
abbrev pub named : PlainList → List ℕ
named plain = take plain.count plain.at

-- at most eight, each below 64, and none twice
abbrev pub is_list : PlainList → Bool
is_list plain = nat_le plain.count 8 && can_list [] (named plain)

-- so many codecs are below 64 and none is there twice, and 0 comes after them
abbrev pub IsStored : ℕ → List ℕ → Type 0
IsStored count at = AreCodecs count at × AreDistinct count at × IsBlankFrom count at

-- there are as many bits as codecs only where no two codecs are the same
abbrev pub Tells : List ℕ → ℕ → Type 0
Tells codecs marks = (ones marks ≡ length codecs) → AreDistinct (length codecs) codecs

-- a list has its codecs in front, and 0 after
abbrev pub plain_list : CodecList → PlainList
plain_list list = record { count = list.len; at = list.at }

abbrev pub no_list : PlainList
no_list = record { count = 0; at = 0 ∷ 0 ∷ 0 ∷ 0 ∷ 0 ∷ 0 ∷ 0 ∷ 0 ∷ [] }

abbrev pub one_codec : ℕ → PlainList
one_codec codec = record { count = 1; at = codec ∷ 0 ∷ 0 ∷ 0 ∷ 0 ∷ 0 ∷ 0 ∷ 0 ∷ [] }

-- ---- signals

abbrev pub SaysDescriptor : PlainSignal → Descriptor → Type 0
SaysDescriptor plain d =
    (d.origin ≡ plain.origin) × (d.version ≡ plain.version) × (d.addr ≡ plain.addr) × (d.port ≡ plain.port)
    × (codecs_of d.codecs ≡ named plain.codecs)

abbrev pub SaysSelector : PlainSignal → Selector → Type 0
SaysSelector plain s =
    (s.origin ≡ plain.origin) × (s.version ≡ plain.version) × (s.addr ≡ plain.addr) × (s.port ≡ plain.port)
    × (s.codec ≡ slice_get (named plain.codecs) 0)

-- the numbers say this signal
abbrev pub Says : PlainSignal → Signal → Type 0
Says plain (Open medium d) = (plain.kind ≡ 0) × (medium ≡ medium_of plain.medium) × SaysDescriptor plain d
Says plain (Oack d) = (plain.kind ≡ 1) × SaysDescriptor plain d
Says plain Close = plain.kind ≡ 2
Says plain Closeack = plain.kind ≡ 3
Says plain (Describe d) = (plain.kind ≡ 4) × SaysDescriptor plain d
Says plain (Select s) = (plain.kind ≡ 5) × SaysSelector plain s

-- the numbers are of a kind of signal with a descriptor, and of a medium
abbrev pub IsDescribed : PlainSignal → Type 0
IsDescribed plain = IsTrue ((plain.kind == 0 && nat_lt plain.medium 2) || plain.kind == 1 || plain.kind == 4)

-- the numbers say some signal: its kind, its medium and its codecs are such
abbrev pub is_signal : PlainSignal → Bool
is_signal plain =
    if plain.kind == 0 then nat_lt plain.medium 2 && is_list plain.codecs else
    if plain.kind == 1 then is_list plain.codecs else
    if plain.kind == 2 then true else
    if plain.kind == 3 then true else
    if plain.kind == 4 then is_list plain.codecs else
    if plain.kind == 5 then nat_le plain.codecs.count 1 else false

abbrev pub plain_descriptor : (kind medium : ℕ) → Descriptor → PlainSignal
plain_descriptor kind medium d = record {
  kind = kind;
  medium = medium;
  codecs = plain_list d.codecs;
  port = d.port;
  origin = d.origin;
  version = d.version;
  addr = d.addr;
}

abbrev pub plain_bare : (kind : ℕ) → PlainSignal
plain_bare kind = record { kind = kind; medium = 0; codecs = no_list; port = 0; origin = 0; version = 0; addr = 0 }

abbrev pub plain_codec : Option ℕ → PlainList
plain_codec None = no_list
plain_codec (Some codec) = one_codec codec

abbrev pub plain_selector : Selector → PlainSignal
plain_selector s = record {
  kind = 5;
  medium = 0;
  codecs = plain_codec s.codec;
  port = s.port;
  origin = s.origin;
  version = s.version;
  addr = s.addr;
}

-- the numbers of a signal
abbrev pub plain_of : Signal → PlainSignal
plain_of (Open medium d) = plain_descriptor 0 (medium_number medium) d
plain_of (Oack d) = plain_descriptor 1 0 d
plain_of Close = plain_bare 2
plain_of Closeack = plain_bare 3
plain_of (Describe d) = plain_descriptor 4 0 d
plain_of (Select s) = plain_selector s

abbrev pub sent_of : ℕ × Signal → PlainSent
sent_of sending = record { slot = sending.0; signal = plain_of sending.1 }
