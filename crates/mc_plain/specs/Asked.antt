-- What the numbers of a setup and of an event say.
use Rattle.std.specs.Prelude.{◌≡◌, ◌==◌, ◌&&◌, ℕ, Bool, true, false, if◌then◌else◌, List, length, map, nat_le, nat_lt, Option, Some, None, IfSome}
use Rattle.std.specs.List.{list_all}
use Rattle.std.specs.Option.{option_map}
use Rattle.mc_signal.specs.Choice.{codecs_of}
use Rattle.mc_signal.specs.declared.codec_list.CodecList.{CodecList}
use Rattle.mc_slot.specs.declared.Goal.{Goal}
use Rattle.mc_slot.specs.declared.Goal.TheVariants.{Open, Close, Hold}
use Rattle.mc_box.specs.Boxes.{BoxState, first_box, first_slot, FitsSlots}
use Rattle.mc_box.specs.declared.event.Change.TheVariants.{End, Link}
use Rattle.mc_box.specs.declared.event.Event.{Event}
use Rattle.mc_box.specs.declared.event.Event.TheVariants.{Set, Media, Tell, Retry, Shift}
use Rattle.mc_box.specs.declared.event.Kind.{Kind}
use Rattle.mc_box.specs.declared.event.Kind.TheVariants.{Device, Feature}
use Rattle.mc_box.specs.declared.event.MediaChange.TheVariants.{Hear, Talk}
use Rattle.mc_box.specs.declared.limit.TheConstants.{SLOT_LIMIT}
use Rattle.mc_box.specs.declared.setup.MediaAddress.{MediaAddress}
use Rattle.mc_box.specs.declared.setup.Setup.{Setup}
use Rattle.mc_box.specs.declared.setup.SlotSetup.{SlotSetup}
use Rattle.mc_plain.specs.Numbers.{is_list, medium_of, named}
use Rattle.mc_plain.specs.declared.asked.PlainEvent.{PlainEvent}
use Rattle.mc_plain.specs.declared.asked.PlainSetup.{PlainSetup}
use Rattle.mc_plain.specs.Programs.{is_program, program_of}
use Rattle.mc_plain.specs.declared.asked.PlainSlot.{PlainSlot}
use Rattle.mc_plain.specs.declared.program.PlainState.{PlainState}

-- ---- events

abbrev pub goal_of : ℕ → Option Goal
goal_of number =
    if number == 0 then Some Open else if number == 1 then Some Close else if number == 2 then Some Hold else None

abbrev pub flag_of : ℕ → Option Bool
flag_of number = if number == 0 then Some false else if number == 1 then Some true else None

-- the event that the numbers say, where they say one; none takes a signal
abbrev pub event_of : PlainEvent → Option Event
event_of plain =
    if plain.kind == 0 then option_map (λ goal. Set (End plain.first goal)) (goal_of plain.second) else
    if plain.kind == 1 then Some (Set (Link plain.first plain.second)) else
    if plain.kind == 2 then option_map (λ on. Media (Hear plain.first on)) (flag_of plain.second) else
    if plain.kind == 3 then option_map (λ on. Media (Talk plain.first on)) (flag_of plain.second) else
    if plain.kind == 4 then Some (Tell plain.first) else
    if plain.kind == 5 then Some (Retry plain.first) else
    if plain.kind == 6 then Some Shift else None

-- ---- setups

abbrev pub kind_of : ℕ → Kind
kind_of number = if number == 0 then Device else Feature

abbrev pub is_plain_slot : PlainSlot → Bool
is_plain_slot plain = nat_lt plain.medium 2 && nat_lt plain.initiator 2 && nat_lt plain.has_address 2

-- the media address that is given, if any
abbrev pub given_address : PlainSlot → Option MediaAddress
given_address plain = if plain.has_address == 1 then Some record { addr = plain.addr; port = plain.port } else None

abbrev pub setup_of : PlainSlot → SlotSetup
setup_of plain = record {
  origin = plain.origin;
  medium = medium_of plain.medium;
  initiator = plain.initiator == 1;
  address = given_address plain;
}

-- the numbers say a box that can be made, without its program
abbrev pub is_setup : PlainSetup → List PlainSlot → Bool
is_setup plain slots =
    nat_lt plain.kind 2 && nat_lt plain.number 4294967295 && nat_le (length slots) SLOT_LIMIT
    && is_list plain.receives && is_list plain.sends && list_all is_plain_slot slots

-- and with it
abbrev pub is_box : PlainSetup → List PlainSlot → List PlainState → Bool
is_box plain slots states = is_setup plain slots && is_program plain.kind slots states

-- the numbers say this box, as it is when it is new
pub record SaysBox (plain : PlainSetup) (slots : List PlainSlot) (states : List PlainState)
    (box : BoxState) : Type 0 where
  pub possible : is_box plain slots states ≡ true
  pub receives : CodecList
  pub sends : CodecList
  pub receives_these : codecs_of receives ≡ named plain.receives
  pub sends_these : codecs_of sends ≡ named plain.sends
  pub is : box ≡ first_box (kind_of plain.kind) plain.number receives sends plain.first_version (map setup_of slots)
      (program_of (length slots) states)

-- and this setup
pub record SaysSetup (plain : PlainSetup) (plains : List PlainSlot) (states : List PlainState)
    (setup : Setup) : Type 0 where
  pub kind : setup.kind ≡ kind_of plain.kind
  pub number : setup.number ≡ plain.number
  pub version : setup.first_version ≡ plain.first_version
  pub receives : codecs_of setup.codecs ≡ named plain.receives
  pub sends : codecs_of setup.sends ≡ named plain.sends
  pub slots : setup.slots.items ≡ map setup_of plains
  pub program : setup.program ≡ program_of (length plains) states
  pub fits : IfSome setup.program (FitsSlots (kind_of plain.kind) (map first_slot (map setup_of plains)))
