-- The slots by which a box sends in an event.
use Rattle.std.specs.Prelude.{◌≡◌, ℕ, Some}
use Rattle.std.specs.List.{slice_get}
use Rattle.mc_box.specs.declared.event.Event.{Event}
use Rattle.mc_box.specs.declared.event.Event.TheVariants.{Retry}
use Rattle.mc_world.specs.Lanes.{numbers_of}
use Rattle.mc_world.specs.declared.lanes.Senders.{Senders}
use Rattle.mc_world.specs.declared.topology.Topology.{Topology}

-- the slots by which an event other than a Take may send: a retry sends by its own, and any other by each of the box
abbrev pub MaySendBy : Event → ℕ → Type 0
MaySendBy (Retry own) local = local ≡ own
MaySendBy event local = Unit {0}

-- the slots by which a Take sends: both are the box's, each with its number
pub record AreSenders (topology : Topology) (who : ℕ) (senders : Senders) : Type 0 where
  pub own : slice_get (numbers_of topology who) senders.own.0 ≡ Some senders.own.1
  pub partner : slice_get (numbers_of topology who) senders.partner.0 ≡ Some senders.partner.1
