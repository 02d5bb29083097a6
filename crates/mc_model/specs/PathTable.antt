-- The path table: the state of a path at a settle by its two end goals, and what is then heard. It knows no slot
-- between, no signal, and no kept value.
use Rattle.std.specs.Prelude.{◌≡◌, ◌⊎◌, ℕ, Option, Some, None}
use Rattle.std.specs.Option.{option_and_then, unwrap_or}
use Rattle.mc_signal.specs.Choice.{codecs_of, shared_codec, choose}
use Rattle.mc_signal.specs.declared.Descriptor.{Descriptor}
use Rattle.mc_signal.specs.declared.Selector.{Selector}
use Rattle.mc_signal.specs.declared.Sender.{Sender}
use Rattle.mc_slot.specs.declared.Goal.{Goal}
use Rattle.mc_slot.specs.declared.Goal.TheVariants.{Close as ToClose, Hold as ToHold}
use Rattle.mc_slot.specs.declared.Slot.{Slot}
use Rattle.mc_slot.specs.declared.State.{State}
use Rattle.mc_slot.specs.declared.State.TheVariants.{Closed, Flowing}
use Rattle.mc_model.specs.Paths.{PathEnds, end_goal}
use Rattle.mc_model.specs.Worlds.{WorldState, slot_of, own_descriptor, own_sender}

-- the table: closed where an end closes, flowing where one opens and none closes, either of the two for hold against
-- hold
abbrev pub table : Goal → Goal → Option State
table ToClose goal = Some Closed
table goal ToClose = Some Closed
table ToHold ToHold = None
table goal other = Some Flowing

-- the state of a path: the table's answer, and where it leaves two, that of the lower end's slot
abbrev pub path_state : WorldState → PathEnds → State
path_state world path =
    unwrap_or (table (end_goal world path.low) (end_goal world path.high)) (slot_of world path.low).state

-- the codec that an end hears: the first that it offers among those that the other end can send
abbrev pub heard_codec : Descriptor → Sender → Option ℕ
heard_codec own sender = shared_codec (codecs_of own.codecs) (codecs_of sender.codecs)

-- the codec that a selector says, where there is a selector
abbrev pub selected_codec : Option Selector → Option ℕ
selected_codec selector = option_and_then (λ chosen. chosen.codec) selector

abbrev pub low_hears : WorldState → PathEnds → Option ℕ
low_hears world path = heard_codec (own_descriptor world path.low) (own_sender world path.high)

abbrev pub high_hears : WorldState → PathEnds → Option ℕ
high_hears world path = heard_codec (own_descriptor world path.high) (own_sender world path.low)

-- an end of a flowing path last got the other end's newest descriptor, and the choice for its own
pub record Hears (slot : Slot) (own : Descriptor) (far_own : Descriptor) (far_sender : Sender) : Type 0 where
  pub got : slot.got ≡ Some far_own
  pub chosen : slot.sel_in ≡ Some (choose own far_sender)

-- a path is closed or flowing, its two end slots are in its state, and where it flows they have each other's newest
-- descriptor and the choice for it
pub record PathHolds (world : WorldState) (path : PathEnds) : Type 0 where
  pub closed_or_flowing : (path_state world path ≡ Closed) ⊎ (path_state world path ≡ Flowing)
  pub low : (slot_of world path.low).state ≡ path_state world path
  pub high : (slot_of world path.high).state ≡ path_state world path
  pub low_hears : path_state world path ≡ Flowing
      → Hears (slot_of world path.low) (own_descriptor world path.low) (own_descriptor world path.high)
      (own_sender world path.high)
  pub high_hears : path_state world path ≡ Flowing
      → Hears (slot_of world path.high) (own_descriptor world path.high) (own_descriptor world path.low)
      (own_sender world path.low)
