-- An entry as bytes, of fixed fields, little-endian: each definition gives the bytes of a value, and then more.
use Rattle.std.specs.Prelude.{◌≡◌, ℕ, ◌<◌, ◌^◌, List, [], ◌∷◌, ◌++◌, length, replicate, Option, Some, None}
use Rattle.std.specs.List.{AllByRecursion}
use Rattle.std.specs.Int.{to_le_bytes, w16, w32, w64}
use Rattle.mc_box.specs.declared.event.Event.{Event}
use Rattle.mc_signal.specs.declared.codec_list.CodecList.{CodecList}
use Rattle.mc_signal.specs.declared.Descriptor.{Descriptor}
use Rattle.mc_signal.specs.declared.Selector.{Selector}
use Rattle.mc_signal.specs.declared.Signal.{Signal}
use Rattle.mc_signal.specs.declared.Signal.TheVariants.{Open, Oack, Close, Closeack, Describe, Select}
use Rattle.mc_shard.specs.Journals.{EntryState}
use Rattle.mc_shard.specs.declared.entry.Asked.{Asked}
use Rattle.mc_shard.specs.declared.entry.AtEnd.{AtEnd}
use Rattle.mc_shard.specs.Digests.{medium_code}
use Rattle.mc_entry.specs.Codes.{event_code, kind_code}
use Rattle.mc_entry.specs.declared.codes.TheConstants.{FORM_VERSION}

-- ---- numbers

unfoldable pub word2 : ℕ → List ℕ → List ℕ
word2 n more = to_le_bytes w16 n ++ more

unfoldable pub word4 : ℕ → List ℕ → List ℕ
word4 n more = to_le_bytes w32 n ++ more

unfoldable pub word8 : ℕ → List ℕ → List ℕ
word8 n more = to_le_bytes w64 n ++ more

-- bytes that say nothing
unfoldable pub zeros : ℕ → List ℕ → List ℕ
zeros count more = replicate count 0 ++ more

-- ---- signals

-- how many codecs, and eight places
abbrev pub codecs_wire : CodecList → List ℕ → List ℕ
codecs_wire list more = list.len ∷ (list.at ++ more)

-- 23 bytes
abbrev pub descriptor_wire : Descriptor → List ℕ → List ℕ
descriptor_wire d more = word4 d.origin (word4 d.version (word4 d.addr (word2 d.port (codecs_wire d.codecs more))))

abbrev pub codec_wire : Option ℕ → List ℕ → List ℕ
codec_wire None more = 0 ∷ 0 ∷ more
codec_wire (Some codec) more = 1 ∷ codec ∷ more

-- as long as a descriptor
abbrev pub selector_wire : Selector → List ℕ → List ℕ
selector_wire s more =
    word4 s.origin (word4 s.version (word4 s.addr (word2 s.port (codec_wire s.codec (zeros 7 more)))))

-- the medium, which is 0 but for an open, and what the signal says
abbrev pub body_wire : Signal → List ℕ → List ℕ
body_wire (Open medium d) more = medium_code medium ∷ descriptor_wire d more
body_wire (Oack d) more = 0 ∷ descriptor_wire d more
body_wire Close more = 0 ∷ zeros 23 more
body_wire Closeack more = 0 ∷ zeros 23 more
body_wire (Describe d) more = 0 ∷ descriptor_wire d more
body_wire (Select s) more = 0 ∷ selector_wire s more

-- 25 bytes
abbrev pub signal_wire : Signal → List ℕ → List ℕ
signal_wire signal more = kind_code signal ∷ body_wire signal more

-- 54 bytes
abbrev pub at_wire : AtEnd → List ℕ → List ℕ
at_wire one more =
    word4 one.end (word8 one.item.number (word8 one.item.stamp (word8 one.item.digest
    (one.item.tunnel ∷ signal_wire one.item.signal more))))

abbrev pub all_wire : List AtEnd → List ℕ → List ℕ
all_wire [] more = more
all_wire (one ∷ rest) more = at_wire one (all_wire rest more)

abbrev pub taken_wire : Option AtEnd → List ℕ → List ℕ
taken_wire None more = 0 ∷ more
taken_wire (Some one) more = 1 ∷ at_wire one more

-- ---- an entry

-- 3 bytes
abbrev pub event_wire : Event → List ℕ → List ℕ
event_wire event more = (event_code event).0 ∷ (event_code event).1 ∷ (event_code event).2 ∷ more

-- which request asked for it
abbrev pub asked_wire : Option Asked → List ℕ → List ℕ
asked_wire None more = 0 ∷ more
asked_wire (Some asked) more = 1 ∷ word4 asked.asker (word8 asked.number more)

-- 20 bytes, 12 for a request, 54 for what was taken, and 54 for each signal that was sent
abbrev pub entry_wire : EntryState → List ℕ → List ℕ
entry_wire entry more = FORM_VERSION ∷ word4 entry.who (word8 entry.stamp (event_wire entry.event
    (asked_wire entry.asked (taken_wire entry.taken (word2 (length entry.sent) (all_wire entry.sent more))))))

-- ---- what has a form

pub record FitsDescriptor (d : Descriptor) : Type 0 where
  pub origin : d.origin < 2 ^ 32
  pub version : d.version < 2 ^ 32
  pub addr : d.addr < 2 ^ 32
  pub port : d.port < 2 ^ 16
  pub codecs : length d.codecs.at ≡ 8

pub record FitsSelector (s : Selector) : Type 0 where
  pub origin : s.origin < 2 ^ 32
  pub version : s.version < 2 ^ 32
  pub addr : s.addr < 2 ^ 32
  pub port : s.port < 2 ^ 16

abbrev pub FitsSignal : Signal → Type 0
FitsSignal (Open medium d) = FitsDescriptor d
FitsSignal (Oack d) = FitsDescriptor d
FitsSignal Close = Unit {0}
FitsSignal Closeack = Unit {0}
FitsSignal (Describe d) = FitsDescriptor d
FitsSignal (Select s) = FitsSelector s

pub record FitsAt (one : AtEnd) : Type 0 where
  pub end : one.end < 2 ^ 32
  pub number : one.item.number < 2 ^ 64
  pub stamp : one.item.stamp < 2 ^ 64
  pub digest : one.item.digest < 2 ^ 64
  pub signal : FitsSignal one.item.signal

abbrev pub FitsTaken : Option AtEnd → Type 0
FitsTaken None = Unit {0}
FitsTaken (Some one) = FitsAt one

abbrev pub FitsRequest : Option Asked → Type 0
FitsRequest None = Unit {0}
FitsRequest (Some asked) = (asked.asker < 2 ^ 32) × (asked.number < 2 ^ 64)

-- each number fits its field
pub record FitsEntry (entry : EntryState) : Type 0 where
  pub who : entry.who < 2 ^ 32
  pub stamp : entry.stamp < 2 ^ 64
  pub asked : FitsRequest entry.asked
  pub taken : FitsTaken entry.taken
  pub count : length entry.sent < 2 ^ 16
  pub sent : AllByRecursion FitsAt entry.sent

-- no form of an entry begins another: so what was written is read again, whatever follows it
abbrev pub OneForm : Type 0
OneForm = (a b : EntryState) (more rest : List ℕ) → FitsEntry a → FitsEntry b → entry_wire a more ≡ entry_wire b rest
    → (a ≡ b) × (more ≡ rest)

-- ---- writing

-- these bytes were appended
abbrev pub Writes : List ℕ → List ℕ → (List ℕ → List ℕ) → Type 0
Writes old new wire = (more : List ℕ) → new ++ more ≡ old ++ wire more
