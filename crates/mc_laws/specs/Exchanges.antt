-- Worked exchanges of two phones, computed by the definitions alone. alice can do with the codecs 0 and 1, bob with 1.
use Rattle.std.specs.Prelude.{◌≡◌, ℕ, ◌≤◌, true, false, List, [], ◌∷◌, ◌++◌, replicate, Option, Some, None, IsSome, IsTrue, refl}
use Rattle.std.proofs.Common.{arith}
use Rattle.std.proofs.lemmas.Grind.{common_steps}
use Rattle.mc_signal.specs.Codecs.{AreCodecs, AreDistinct, HasPlaces, IsBlankFrom}
use Rattle.mc_signal.specs.declared.codec_list.CodecList.{CodecList}
use Rattle.mc_signal.specs.declared.Medium.TheVariants.{Audio}
use Rattle.mc_slot.specs.declared.Goal.{Goal}
use Rattle.mc_slot.specs.declared.Goal.TheVariants.{Open as ToOpen, Close as ToClose, Hold as ToHold}
use Rattle.mc_slot.specs.declared.State.{State}
use Rattle.mc_slot.specs.declared.State.TheVariants.{Closed, Flowing}
use Rattle.mc_box.specs.Boxes.{first_box}
use Rattle.mc_model.specs.PathTable.{path_state, low_hears, high_hears, selected_codec}
use Rattle.mc_model.specs.Paths.{PathEnds, paths, has_ring}
use Rattle.mc_model.specs.Settles.{rests}
use Rattle.mc_model.specs.Steps.{run, after}
use Rattle.mc_model.specs.Worlds.{WorldState, first_world, slot_of}
use Rattle.mc_box.specs.declared.event.Change.TheVariants.{End as NewEnd}
use Rattle.mc_box.specs.declared.event.Event.{Event}
use Rattle.mc_box.specs.declared.event.Event.TheVariants.{Take, Set, Retry}
use Rattle.mc_box.specs.declared.event.Kind.TheVariants.{Device}
use Rattle.mc_box.specs.declared.event.Turn.{Turn}

abbrev pub both_entries : List ℕ
both_entries = 0 ∷ 1 ∷ replicate 6 0

abbrev pub one_entries : List ℕ
one_entries = 1 ∷ replicate 7 0

pub both_places : HasPlaces both_entries
both_places = refl

pub both_short : 2 ≤ 8
both_short = omega arith

pub both_known : AreCodecs 2 both_entries
both_known k below = grind (arith, common_steps)

pub both_distinct : AreDistinct 2 both_entries
both_distinct j k less below = grind (arith, common_steps)

pub both_blank : IsBlankFrom 2 both_entries
both_blank k above = grind (arith, common_steps)

pub one_places : HasPlaces one_entries
one_places = refl

pub one_short : 1 ≤ 8
one_short = omega arith

pub one_known : AreCodecs 1 one_entries
one_known k below = grind (arith, common_steps)

pub one_distinct : AreDistinct 1 one_entries
one_distinct j k less below = grind arith

pub one_blank : IsBlankFrom 1 one_entries
one_blank k above = grind (arith, common_steps)

abbrev pub both_codecs : CodecList
both_codecs =
    record {
      len = 2;
      at = both_entries;
      places = both_places;
      short = both_short;
      known = both_known;
      distinct =
          both_distinct;
      blank = both_blank;
    }

abbrev pub one_codec : CodecList
one_codec =
    record {
      len = 1;
      at = one_entries;
      places = one_places;
      short = one_short;
      known = one_known;
      distinct =
          one_distinct;
      blank = one_blank;
    }

abbrev pub two_phones : WorldState
two_phones = first_world
    (first_box Device 0 both_codecs both_codecs 1
    (record { origin = 0; medium = Audio; initiator = true; address = None } ∷ []) None
    ∷ first_box Device 1 one_codec one_codec 1
    (record { origin = 1; medium = Audio; initiator = false; address = None } ∷ []) None
    ∷ [])
    (record { from = 0; to = 1; tunnels = record { medium = Audio; from = 0; to = 0 } ∷ [] } ∷ [])

abbrev pub alice : Event → Turn
alice event = record { who = 0; event = event }

abbrev pub bob : Event → Turn
bob event = record { who = 1; event = event }

abbrev pub sets : Goal → Event
sets goal = Set (NewEnd 0 goal)

abbrev pub takes : Event
takes = Take 0

abbrev pub path : PathEnds
path = record { low = 0; high = 1 }

-- alice opens, and bob holds
abbrev pub opens_held : List Turn
opens_held = alice (sets ToOpen) ∷ bob (sets ToHold) ∷ bob takes ∷ alice takes ∷ bob takes ∷ alice takes ∷ []

-- alice opens, and bob, who was left closed, refuses; he refuses the retry too
abbrev pub opens_closed : List Turn
opens_closed =
    alice (sets ToOpen) ∷ bob takes ∷ alice takes ∷ bob takes ∷ alice (Retry 0) ∷ bob takes ∷ alice takes ∷ bob takes
    ∷ []

-- both hold from the start
abbrev pub holds_held : List Turn
holds_held = alice (sets ToHold) ∷ bob (sets ToHold) ∷ []

-- alice holds after the media have flowed
abbrev pub flows_held : List Turn
flows_held = opens_held ++ alice (sets ToHold) ∷ []

-- alice opens and closes before bob has taken anything
abbrev pub opens_and_closes : List Turn
opens_and_closes =
    alice (sets ToOpen) ∷ alice (sets ToClose) ∷ bob (sets ToHold) ∷ bob takes ∷ alice takes ∷ alice takes ∷ bob takes
    ∷ alice takes ∷ []

-- the turns are a run of the two phones that comes to rest. Their one path is in this state, and so are its two slots;
-- where it flows its ends hear these codecs, and the selectors that they got say so
pub record ComesTo (turns : List Turn) (state : State) (low high : Option ℕ) : Type 0 where
  pub runs : IsSome (run two_phones turns)
  pub at_rest : IsTrue (rests (after two_phones turns))
  pub no_ring : has_ring (after two_phones turns) ≡ false
  pub one_path : paths (after two_phones turns) ≡ path ∷ []
  pub answer : path_state (after two_phones turns) path ≡ state
  pub low_state : (slot_of (after two_phones turns) path.low).state ≡ state
  pub high_state : (slot_of (after two_phones turns) path.high).state ≡ state
  pub low_selected : selected_codec (slot_of (after two_phones turns) path.low).sel_in ≡ low
  pub high_selected : selected_codec (slot_of (after two_phones turns) path.high).sel_in ≡ high
  pub low_hears : state ≡ Flowing → low_hears (after two_phones turns) path ≡ low
  pub high_hears : state ≡ Flowing → high_hears (after two_phones turns) path ≡ high

pub record WorkedExchanges : Type 0 where
  pub nothing : ComesTo [] Closed None None
  pub opens_held : ComesTo opens_held Flowing (Some 1) (Some 1)
  pub opens_closed : ComesTo opens_closed Closed None None
  pub holds_held : ComesTo holds_held Closed None None
  pub flows_held : ComesTo flows_held Flowing (Some 1) (Some 1)
  pub opens_and_closes : ComesTo opens_and_closes Closed None None
