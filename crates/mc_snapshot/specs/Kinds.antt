-- The numbers of values of few kinds.
use Rattle.std.specs.Prelude.{ℕ, Bool, true, false}
use Rattle.mc_signal.specs.declared.Medium.{Medium}
use Rattle.mc_signal.specs.declared.Medium.TheVariants.{Audio, Video}
use Rattle.mc_slot.specs.declared.Goal.{Goal}
use Rattle.mc_slot.specs.declared.Goal.TheVariants.{Open as ToOpen, Close as ToClose, Hold as ToHold}
use Rattle.mc_slot.specs.declared.State.{State}
use Rattle.mc_slot.specs.declared.State.TheVariants.{Closed, Opening, Opened, Flowing, Closing}
use Rattle.mc_box.specs.declared.event.Kind.{Kind}
use Rattle.mc_box.specs.declared.event.Kind.TheVariants.{Device, Feature}

abbrev pub flag_number : Bool → ℕ
flag_number true = 1
flag_number false = 0

abbrev pub medium_number : Medium → ℕ
medium_number Audio = 0
medium_number Video = 1

abbrev pub kind_number : Kind → ℕ
kind_number Device = 0
kind_number Feature = 1

abbrev pub goal_number : Goal → ℕ
goal_number ToOpen = 0
goal_number ToClose = 1
goal_number ToHold = 2

abbrev pub state_number : State → ℕ
state_number Closed = 0
state_number Opening = 1
state_number Opened = 2
state_number Flowing = 3
state_number Closing = 4
