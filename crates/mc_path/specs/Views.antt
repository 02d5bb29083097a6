-- What is shown of a path.
use Rattle.std.specs.Prelude.{◌≡◌, ℕ, ◌*◌, ◌&&◌, Bool, true, false, length, Option, None}
use Rattle.mc_signal.specs.declared.Selector.{Selector}
use Rattle.mc_slot.specs.declared.State.{State}
use Rattle.mc_slot.specs.declared.State.TheVariants.{Flowing}
use Rattle.mc_view.specs.declared.EndView.{EndView}
use Rattle.mc_view.specs.declared.PathView.{PathView}
use Rattle.mc_box.specs.BoxShapes.{is_device}
use Rattle.mc_model.specs.PathTable.{selected_codec}
use Rattle.mc_model.specs.Paths.{PathEnds, end_goal, slots_on, whole_walk}
use Rattle.mc_model.specs.Worlds.{WorldState, box_at, tunnel_of, own_descriptor, own_sender, place, slot_of}

abbrev pub is_flowing : State → Bool
is_flowing Flowing = true
is_flowing state = false

-- the codec that an end hears: that of the selector that it last got, where there is one and its path flows
abbrev pub shown_codec : Bool → Option Selector → Option ℕ
shown_codec true selector = selected_codec selector
shown_codec false selector = None

-- an end of a path that flows, or of one that doesn't, by its slot's number
abbrev pub end_view : WorldState → Bool → ℕ → EndView
end_view world flowing s = record {
  slot = s;
  who = (place world s).0;
  local = (place world s).1;
  goal = end_goal world s;
  own = own_descriptor world s;
  hears = shown_codec flowing (slot_of world s).sel_in;
  sends = (own_sender world s).codecs;
  device = is_device (box_at world (place world s).0).kind;
}

-- a path flows where the slots of both its ends do
abbrev pub path_flows : WorldState → PathEnds → Bool
path_flows world path = is_flowing (slot_of world path.low).state && is_flowing (slot_of world path.high).state

-- a path, by its two end slots
abbrev pub view_of : WorldState → PathEnds → PathView
view_of world path = record {
  low = end_view world (path_flows world path) path.low;
  high = end_view world (path_flows world path) path.high;
  flowing = path_flows world path;
  medium = (tunnel_of world path.low).medium;
  tunnels = length (whole_walk world path.low);
}

-- no end hears anything on a path that doesn't flow, whatever selector its slot keeps
abbrev pub SilentUnlessFlowing : Type 0
SilentUnlessFlowing = (world : WorldState) (path : PathEnds) → (view_of world path).flowing ≡ false
    → ((view_of world path).low.hears ≡ None) × ((view_of world path).high.hears ≡ None)

-- a path goes over two slots for each tunnel that is shown
abbrev pub TwoSlotsATunnel : Type 0
TwoSlotsATunnel =
    (world : WorldState) (path : PathEnds) → length (slots_on world path) ≡ 2 * (view_of world path).tunnels
