-- What every box keeps, and a box's fields as clauses see them.
use Rattle.std.specs.Prelude.{◌≡◌, ◌≢◌, ℕ, ◌^◌, ◌<◌, ◌≤◌, length, List, max, min, Option, IfNone, IfSome, None}
use Rattle.mc_link.specs.LinkTurn.{IsLinkAtRest}
use Rattle.mc_signal.specs.Own.{address_of}
use Rattle.mc_slot.specs.EndTurn.{IsAtRest}
use Rattle.mc_slot.specs.Tunnel.{Kept}
use Rattle.mc_slot.specs.declared.Slot.{Slot}
use Rattle.mc_slot.specs.declared.SlotGoal.{SlotGoal}
use Rattle.mc_slot.specs.declared.sends.Sends.{Sends}
use Rattle.mc_slot.specs.declared.SlotGoal.TheVariants.{End, Link}
use Rattle.mc_lane.specs.Queue.{Queue}
use Rattle.mc_rule.specs.Programs.{ProgStateState}
use Rattle.mc_signal.specs.declared.Signal.{Signal}
use Rattle.mc_box.specs.BoxEvents.{AddsStep, Appends, BoxStep}
use Rattle.mc_box.specs.Boxes.{BoxState, FitsSlots, IsBox, slot_at, goal_at, own, sender, states_of}
use Rattle.mc_box.specs.declared.event.Kind.{Kind}
use Rattle.mc_box.specs.declared.event.Kind.TheVariants.{Feature}
use Rattle.mc_box.specs.declared.limit.TheConstants.{SLOT_LIMIT}
use Rattle.mc_box.specs.declared.parts.BoxParts.{BoxParts}

-- a linked slot of a feature and its partner, another slot of the same medium, which is linked with it
pub record IsLinked (box : BoxState) (local partner : ℕ) : Type 0 where
  pub inside : partner < length box.slots
  pub other : partner ≢ local
  pub back : goal_at box partner ≡ Link local
  pub feature : box.kind ≡ Feature
  pub medium : (slot_at box partner).medium ≡ (slot_at box local).medium

-- a box's program, if any: it is for these slots of a feature, and at no state or at one of its own. Without one there
-- is no told word
pub record FitsProgram (kind : Kind) (slots : List Slot) (program : Option (List ProgStateState))
    (at told : Option ℕ) : Type 0 where
  pub states : IfSome program (FitsSlots kind slots)
  pub here : IfSome at (λ number. number < length (states_of program))
  pub word : IfNone program (told ≡ None)

-- each slot has its goal and its media, local numbers and the address fit, each slot keeps what its state allows, links
-- are mutual, and the program fits
pub record IsWired (box : BoxState) : Type 0 where
  pub whole : IsBox box
  pub few : length box.slots ≤ SLOT_LIMIT
  pub address : address_of box.number < 2 ^ 32
  pub kept : (local : ℕ) → Kept (slot_at box local)
  pub links : (local partner : ℕ) → goal_at box local ≡ Link partner → IsLinked box local partner
  pub program : FitsProgram box.kind box.slots box.program box.at box.told

-- the goal is at rest: a turn that isn't pushed, and follows no close, would send nothing
abbrev pub RestsAt : SlotGoal → BoxState → ℕ → Type 0
RestsAt (End goal) box local = IsAtRest goal (slot_at box local) (own box local) (sender box local)
RestsAt (Link partner) box local = IsLinkAtRest (slot_at box (min local partner)) (slot_at box (max local partner))

-- and each goal is at rest
pub record IsSoundBox (box : BoxState) : Type 0 where
  pub wired : IsWired box
  pub rests : (local : ℕ) → RestsAt (goal_at box local) box local

abbrev pub box_state : BoxParts → BoxState
box_state parts = record {
  kind = parts.kind;
  number = parts.number;
  receives = parts.codecs;
  sends = parts.sends;
  first_version = parts.first_version;
  slots = parts.slots.items;
  goals = parts.goals.items;
  media = parts.media.items;
  program = parts.program;
  at = parts.at;
  told = parts.told;
}

-- the parts of a box made a step, and what it sends is appended to a queue
abbrev pub AppendsTo : Option BoxStep → BoxParts → Queue (ℕ × Signal) → Queue (ℕ × Signal) → Type 0
AppendsTo made after old new = Appends made (box_state after) old.items new.items

-- and to a list of sendings
abbrev pub AddsTo : Option BoxStep → BoxParts → Sends → Sends → Type 0
AddsTo made after old new = AddsStep made (box_state after) old new
