-- The forms of a slot, of its goal, and of what its descriptors are made of.
use Rattle.std.specs.Prelude.{ℕ, ◌<◌, ◌^◌, List, ◌∷◌}
use Rattle.mc_entry.specs.Wire.{FitsDescriptor, FitsSelector, descriptor_wire, selector_wire, word2, word4}
use Rattle.mc_slot.specs.declared.Slot.{Slot}
use Rattle.mc_slot.specs.declared.SlotGoal.{SlotGoal}
use Rattle.mc_slot.specs.declared.SlotGoal.TheVariants.{End, Link}
use Rattle.mc_box.specs.declared.setup.MediaAddress.{MediaAddress}
use Rattle.mc_box.specs.declared.setup.SlotMedia.{SlotMedia}
use Rattle.mc_snapshot.specs.Forms.{FitsOption, option_wire}
use Rattle.mc_snapshot.specs.Kinds.{flag_number, goal_number, medium_number, state_number}

-- 6 bytes
abbrev pub address_wire : MediaAddress → List ℕ → List ℕ
address_wire address more = word4 address.addr (word2 address.port more)

pub record FitsAddress (address : MediaAddress) : Type 0 where
  pub addr : address.addr < 2 ^ 32
  pub port : address.port < 2 ^ 16

-- 11 bytes, or 17 with an address
abbrev pub media_wire : SlotMedia → List ℕ → List ℕ
media_wire media more = word4 media.origin (word4 media.version (flag_number media.hears ∷ flag_number media.talks ∷
    option_wire address_wire media.address more))

pub record FitsMedia (media : SlotMedia) : Type 0 where
  pub origin : media.origin < 2 ^ 32
  pub version : media.version < 2 ^ 32
  pub address : FitsOption FitsAddress media.address

-- 2 bytes
abbrev pub goal_wire : SlotGoal → List ℕ → List ℕ
goal_wire (End goal) more = 0 ∷ goal_number goal ∷ more
goal_wire (Link partner) more = 1 ∷ partner ∷ more

abbrev pub FitsGoal : SlotGoal → Type 0
FitsGoal (End goal) = Unit {0}
FitsGoal (Link partner) = partner < 2 ^ 8

-- 7 bytes, and 23 for each descriptor and selector
abbrev pub slot_wire : Slot → List ℕ → List ℕ
slot_wire slot more = state_number slot.state ∷ medium_number slot.medium ∷ flag_number slot.initiator ∷
    option_wire descriptor_wire slot.sent (option_wire descriptor_wire slot.got
    (option_wire selector_wire slot.sel_out (option_wire selector_wire slot.sel_in more)))

pub record FitsSlot (slot : Slot) : Type 0 where
  pub sent : FitsOption FitsDescriptor slot.sent
  pub got : FitsOption FitsDescriptor slot.got
  pub sel_out : FitsOption FitsSelector slot.sel_out
  pub sel_in : FitsOption FitsSelector slot.sel_in
