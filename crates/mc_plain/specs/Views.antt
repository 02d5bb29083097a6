-- What there is to see of a box and of its slots, as numbers.
use Rattle.std.specs.Prelude.{ℕ, Bool, true, false, is_some, length, Option, Some, None}
use Rattle.std.specs.Option.{unwrap_or}
use Rattle.mc_signal.specs.declared.Descriptor.{Descriptor}
use Rattle.mc_signal.specs.declared.Selector.{Selector}
use Rattle.mc_slot.specs.declared.Goal.TheVariants.{Open, Close, Hold}
use Rattle.mc_slot.specs.declared.Slot.{Slot}
use Rattle.mc_slot.specs.declared.SlotGoal.{SlotGoal}
use Rattle.mc_slot.specs.declared.SlotGoal.TheVariants.{End, Link}
use Rattle.mc_slot.specs.declared.State.{State}
use Rattle.mc_slot.specs.declared.State.TheVariants.{Closed, Opening, Opened, Flowing, Closing}
use Rattle.mc_box.specs.BoxEvents.{is_enabled}
use Rattle.mc_box.specs.Boxes.{BoxState, box_owes, goal_at, slot_at}
use Rattle.mc_box.specs.declared.event.Event.TheVariants.{Shift}
use Rattle.mc_box.specs.declared.event.Kind.{Kind}
use Rattle.mc_box.specs.declared.event.Kind.TheVariants.{Device, Feature}
use Rattle.mc_plain.specs.Numbers.{medium_number}
use Rattle.mc_plain.specs.declared.view.PlainBoxView.{PlainBoxView}
use Rattle.mc_plain.specs.declared.view.PlainFlow.{PlainFlow}
use Rattle.mc_plain.specs.declared.view.PlainSlotView.{PlainSlotView}

abbrev pub state_number : State → ℕ
state_number Closed = 0
state_number Opening = 1
state_number Opened = 2
state_number Flowing = 3
state_number Closing = 4

abbrev pub goal_number : SlotGoal → ℕ
goal_number (End Open) = 0
goal_number (End Close) = 1
goal_number (End Hold) = 2
goal_number (Link partner) = 3

abbrev pub partner : SlotGoal → ℕ
partner (End goal) = 0
partner (Link other) = other

-- media in this codec, where there is one
abbrev pub flow : Option ℕ → (port addr : ℕ) → PlainFlow
flow (Some codec) port addr = record { flows = 1; codec = codec; port = port; addr = addr }
flow None port addr = record { flows = 0; codec = 0; port = 0; addr = 0 }

-- by the selector that was sent, to where the descriptor that was got says
abbrev pub sends_by : State → Option Selector → Option Descriptor → PlainFlow
sends_by Flowing (Some s) (Some d) = flow s.codec d.port d.addr
sends_by state s d = flow None 0 0

abbrev pub sends : Slot → PlainFlow
sends slot = sends_by slot.state slot.sel_out slot.got

-- by the selector that was got
abbrev pub hears_by : State → Option Selector → PlainFlow
hears_by Flowing (Some s) = flow s.codec s.port s.addr
hears_by state s = flow None 0 0

abbrev pub hears : Slot → PlainFlow
hears slot = hears_by slot.state slot.sel_in

abbrev pub flag_number : Bool → ℕ
flag_number true = 1
flag_number false = 0

abbrev pub slot_view : BoxState → ℕ → PlainSlotView
slot_view box local = record {
  state = state_number (slot_at box local).state;
  medium = medium_number (slot_at box local).medium;
  goal = goal_number (goal_at box local);
  partner = partner (goal_at box local);
  owes = flag_number (box_owes box local);
  sends = sends (slot_at box local);
  hears = hears (slot_at box local);
}

abbrev pub kind_number : Kind → ℕ
kind_number Device = 0
kind_number Feature = 1

abbrev pub box_view : BoxState → PlainBoxView
box_view box = record {
  kind = kind_number box.kind;
  slots = length box.slots;
  has_program = flag_number (is_some box.program);
  has_state = flag_number (is_some box.at);
  was_told = flag_number (is_some box.told);
  word = unwrap_or box.told 0;
  shifts = flag_number (is_enabled box Shift);
  state = unwrap_or box.at 0;
  number = box.number;
}
