-- Worlds that are alike but for what signals change: the states and the kept values of slots, and what is under way.
use Rattle.std.specs.Prelude.{◌≡◌, ◌↔◌, ℕ, Option}
use Rattle.mc_slot.specs.declared.Slot.{Slot}
use Rattle.mc_slot.specs.declared.State.TheVariants.{Flowing}
use Rattle.mc_box.specs.Boxes.{slot_at}
use Rattle.mc_model.specs.PathTable.{high_hears, low_hears, path_state}
use Rattle.mc_model.specs.Paths.{PathEnds, end_goal, has_ring, other_end, partner_of, paths, slots_on}
use Rattle.mc_model.specs.Rings.{IsLeastOnRing, IsOnRing}
use Rattle.mc_model.specs.Shapes.{HasShape}
use Rattle.mc_model.specs.Worlds.{WorldState, box_at, goal_of, own_descriptor, own_sender, places, slot_of, tunnel_of}
use Rattle.mc_settings.specs.Settings.{settings_of}

-- worlds of one shape, whose boxes have the same settings, and whose slots are of the same media and sides
pub record AreAlike (world other : WorldState) : Type 0 where
  pub shape : HasShape world other
  pub settings : (who : ℕ) → settings_of (box_at world who) ≡ settings_of (box_at other who)
  pub media : (who local : ℕ) → (slot_at (box_at world who) local).medium ≡ (slot_at (box_at other who) local).medium
  pub sides : (who local : ℕ)
      → (slot_at (box_at world who) local).initiator ≡ (slot_at (box_at other who) local).initiator

-- worlds with the same slots and tunnels, the same rings and paths, and the same goals, descriptors and senders at
-- their slots, so that at each path the same is to be heard
pub record HaveSamePaths (world other : WorldState) : Type 0 where
  pub places : places world ≡ places other
  pub tunnels : (s : ℕ) → tunnel_of world s ≡ tunnel_of other s
  pub goals : (s : ℕ) → goal_of world s ≡ goal_of other s
  pub partners : (s : ℕ) → partner_of world s ≡ partner_of other s
  pub ends : (s : ℕ) → other_end world s ≡ other_end other s
  pub ring : has_ring world ≡ has_ring other
  pub rings : (s : ℕ) → IsOnRing world s ↔ IsOnRing other s
  pub least : (ring : Option ℕ) → IsLeastOnRing world ring ↔ IsLeastOnRing other ring
  pub paths : paths world ≡ paths other
  pub slots : (path : PathEnds) → slots_on world path ≡ slots_on other path
  pub end_goals : (s : ℕ) → end_goal world s ≡ end_goal other s
  pub descriptors : (s : ℕ) → own_descriptor world s ≡ own_descriptor other s
  pub senders : (s : ℕ) → own_sender world s ≡ own_sender other s
  pub low_hears : (path : PathEnds) → low_hears world path ≡ low_hears other path
  pub high_hears : (path : PathEnds) → high_hears world path ≡ high_hears other path

-- slots that last got the same descriptor and the same selector
pub record GotSame (slot other : Slot) : Type 0 where
  pub got : slot.got ≡ other.got
  pub chosen : slot.sel_in ≡ other.sel_in

-- a path that is in one state in both worlds, and so are its end slots, which last got the same where it flows
pub record EndsAgree (world other : WorldState) (path : PathEnds) : Type 0 where
  pub state : path_state world path ≡ path_state other path
  pub low : (slot_of world path.low).state ≡ (slot_of other path.low).state
  pub high : (slot_of world path.high).state ≡ (slot_of other path.high).state
  pub low_got : path_state world path ≡ Flowing → GotSame (slot_of world path.low) (slot_of other path.low)
  pub high_got : path_state world path ≡ Flowing → GotSame (slot_of world path.high) (slot_of other path.high)
