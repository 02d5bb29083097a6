-- What is looked at, slot by slot, of parts that may be a box's.
use Rattle.std.specs.Prelude.{◌≡◌, ℕ, ◌^◌, ◌<◌, ◌≤◌, List, length, slice_index_or}
use Rattle.mc_signal.specs.Own.{address_of}
use Rattle.mc_slot.specs.Tunnel.{Kept}
use Rattle.mc_slot.specs.declared.Goal.TheVariants.{Close as ToClose}
use Rattle.mc_slot.specs.declared.Slot.{Slot}
use Rattle.mc_slot.specs.declared.SlotGoal.{SlotGoal}
use Rattle.mc_slot.specs.declared.SlotGoal.TheVariants.{End, Link}
use Rattle.mc_rule.specs.Programs.{ProgStateState}
use Rattle.mc_box.specs.BoxSound.{IsLinked, RestsAt}
use Rattle.mc_box.specs.Boxes.{BoxState, IsBox, goal_at, goals_in, no_slot, slot_at}
use Rattle.mc_box.specs.declared.limit.TheConstants.{SLOT_LIMIT}

-- each slot has its goal and its media, and local numbers and the address fit
pub record FitsNumbers (box : BoxState) : Type 0 where
  pub whole : IsBox box
  pub few : length box.slots ≤ SLOT_LIMIT
  pub address : address_of box.number < 2 ^ 32

-- a slot keeps what its state allows, and if it is linked, so is its partner
pub record IsWiredAt (box : BoxState) (local : ℕ) : Type 0 where
  pub kept : Kept (slot_at box local)
  pub links : (partner : ℕ) → goal_at box local ≡ Link partner → IsLinked box local partner

abbrev pub AreWired : BoxState → Type 0
AreWired box = (local : ℕ) → local < length box.slots → IsWiredAt box local

abbrev pub AllRest : BoxState → Type 0
AllRest box = (local : ℕ) → local < length box.slots → RestsAt (goal_at box local) box local

-- ---- the goals of a program's states

-- a link is of two slots of one medium
abbrev pub LinksAlike : List Slot → ℕ → SlotGoal → Type 0
LinksAlike slots local (End goal) = Unit {0}
LinksAlike slots local (Link partner) =
    (slice_index_or slots partner no_slot).medium ≡ (slice_index_or slots local no_slot).medium

-- there is a goal for each slot, and each link is of two slots of one medium
pub record FitsGoals (slots : List Slot) (goals : List SlotGoal) : Type 0 where
  pub count : length goals ≡ length slots
  pub alike : (local : ℕ) → local < length goals → LinksAlike slots local (slice_index_or goals local (End ToClose))

-- so it is in each state
abbrev pub FitGoals : List Slot → List ProgStateState → Type 0
FitGoals slots states = (at : ℕ) → at < length states → FitsGoals slots (goals_in states at)
