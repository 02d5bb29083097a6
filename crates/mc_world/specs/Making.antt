-- One event of one box, by the tables of its network.
use Rattle.std.specs.Prelude.{◌≡◌, ℕ, List, Option, Some}
use Rattle.std.specs.List.{slice_get}
use Rattle.mc_signal.specs.declared.Signal.{Signal}
use Rattle.mc_signal.specs.declared.Tagged.{Tagged}
use Rattle.mc_slot.specs.declared.SlotGoal.TheVariants.{Link}
use Rattle.mc_box.specs.BoxEvents.{box_event}
use Rattle.mc_box.specs.Boxes.{BoxState, goal_at}
use Rattle.mc_box.specs.declared.event.Event.{Event}
use Rattle.mc_world.specs.Lanes.{all_sent, numbers_of}
use Rattle.mc_world.specs.declared.lanes.Senders.{Senders}
use Rattle.mc_world.specs.declared.topology.Topology.{Topology}

-- an event happens to a box, and what it sends goes away from these lanes on
pub record MakesEvent (topology : Topology) (who : ℕ) (box after : BoxState) (event : Event) (signal : Option Signal)
    (before lanes : List (List Tagged)) : Type 0 where
  pub sent : List (ℕ × Signal)
  pub goes : box_event box event signal ≡ Some (record { sent = sent; after = after })
  pub lanes_are : lanes ≡ all_sent topology who before sent

-- where the slot that takes is linked with one that has a number, that is the other sender's
abbrev pub IsBeside : Topology → ℕ → BoxState → Senders → Type 0
IsBeside topology who box senders =
    (other s : ℕ) → goal_at box senders.own.0 ≡ Link other → slice_get (numbers_of topology who) other ≡ Some s
    → senders.partner.1 ≡ s
