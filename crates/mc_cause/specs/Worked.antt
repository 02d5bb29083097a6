-- Worked causes, computed by the definitions alone.
use Rattle.std.specs.Prelude.{◌≡◌, ◌++◌, ℕ, Bool, false, true, List, [], ◌∷◌, Some, None, IsSome}
use Rattle.mc_signal.specs.Empty.{no_codecs}
use Rattle.mc_signal.specs.declared.Medium.TheVariants.{Audio}
use Rattle.mc_slot.specs.declared.Goal.TheVariants.{Open as ToOpen, Close as ToClose, Hold as ToHold}
use Rattle.mc_box.specs.Boxes.{first_box}
use Rattle.mc_box.specs.declared.event.Change.TheVariants.{Link as NewLink}
use Rattle.mc_box.specs.declared.event.Event.{Event}
use Rattle.mc_box.specs.declared.event.Event.TheVariants.{Take, Set, Retry}
use Rattle.mc_box.specs.declared.event.Kind.TheVariants.{Device, Feature}
use Rattle.mc_box.specs.declared.event.Turn.{Turn}
use Rattle.mc_box.specs.declared.setup.SlotSetup.{SlotSetup}
use Rattle.mc_laws.specs.Exchanges.{alice, bob, holds_held, one_codec, opens_and_closes, opens_closed, opens_held, sets, takes, two_phones}
use Rattle.mc_model.specs.Steps.{run}
use Rattle.mc_model.specs.Worlds.{WorldState, first_world}
use Rattle.mc_cause.specs.Causes.{why}

-- both phones hang up, each before it has taken the other's close
abbrev pub closes_cross : List Turn
closes_cross =
    opens_held ++ alice (sets ToClose) ∷ bob (sets ToClose) ∷ alice takes ∷ bob takes ∷ alice takes ∷ bob takes ∷ []

-- a slot for speech, by its number among all slots, and whether it is on the side of its channel's initiator
abbrev pub speech_slot : ℕ → Bool → SlotSetup
speech_slot origin initiator = record { origin = origin; medium = Audio; initiator = initiator; address = None }

-- two phones, and a box between them that links its two slots. alice's slot is 0, the box has 1 and 2, and bob's is 3
abbrev pub phones_and_box : WorldState
phones_and_box = first_world
    (first_box Device 0 one_codec one_codec 1 (speech_slot 0 true ∷ []) None
    ∷ first_box Feature 1 no_codecs no_codecs 1 (speech_slot 1 false ∷ speech_slot 2 true ∷ []) None
    ∷ first_box Device 2 one_codec one_codec 1 (speech_slot 3 false ∷ []) None
    ∷ [])
    (record { from = 0; to = 1; tunnels = record { medium = Audio; from = 0; to = 0 } ∷ [] }
    ∷ record { from = 1; to = 2; tunnels = record { medium = Audio; from = 1; to = 0 } ∷ [] }
    ∷ [])

abbrev pub feature : Event → Turn
feature event = record { who = 1; event = event }

abbrev pub far_bob : Event → Turn
far_bob event = record { who = 2; event = event }

-- alice opens and bob holds, through the box
abbrev pub opens_through : List Turn
opens_through =
    feature (Set (NewLink 0 1)) ∷ alice (sets ToOpen) ∷ far_bob (sets ToHold) ∷ feature (Take 0) ∷ far_bob takes
    ∷ feature (Take 1)
    ∷ alice takes ∷ feature (Take 1) ∷ feature (Take 0) ∷ alice takes ∷ far_bob takes ∷ []

-- and bob closes
abbrev pub closes_through : List Turn
closes_through =
    opens_through ++ far_bob (sets ToClose) ∷ feature (Take 1) ∷ far_bob takes ∷ alice takes ∷ feature (Take 0) ∷ []

-- alice asks again, and bob refuses that too: his answer is turn 19
abbrev pub refuses_through : List Turn
refuses_through =
    closes_through ++ alice (Retry 0) ∷ feature (Take 0) ∷ far_bob takes ∷ feature (Take 1) ∷ far_bob takes
    ∷ alice takes ∷ feature (Take 0) ∷ []

pub record WorkedCauses : Type 0 where
  pub refused : (why two_phones opens_closed 0 ≡ Some 6) × (why two_phones opens_closed 1 ≡ Some 6)
  pub hung_up : (why two_phones opens_and_closes 0 ≡ Some 2) × (why two_phones opens_and_closes 1 ≡ Some 2)
  pub crossed : (why two_phones closes_cross 0 ≡ Some 7) × (why two_phones closes_cross 1 ≡ Some 8)
  pub never : (why two_phones holds_held 0 ≡ None) × (why two_phones holds_held 1 ≡ None)
  pub runs : IsSome (run phones_and_box refuses_through)
  pub closed : (why phones_and_box closes_through 0 ≡ Some 12) × (why phones_and_box closes_through 3 ≡ Some 12)
  pub refused_again : (why phones_and_box refuses_through 0 ≡ Some 19)
      × (why phones_and_box refuses_through 3 ≡ Some 19)
