-- A new box is sound.
use Rattle.std.proofs.Common.{◌≡◌, ℕ, ◌^◌, ◌<◌, ◌≤◌, Option, Some, None, IfSome, List, [], ◌∷◌, map, length, refl, ap, sym, ◌∙◌, subst, zero, suc, arith}
use Rattle.std.proofs.Math.ListN.{get_or}
use Rattle.std.proofs.lemmas.Grind.{common_steps}
use Rattle.mc_signal.specs.Own.{address_of}
use Rattle.mc_signal.specs.declared.codec_list.CodecList.{CodecList}
use Rattle.mc_signal.specs.declared.Descriptor.{Descriptor}
use Rattle.mc_signal.specs.declared.Sender.{Sender}
use Rattle.mc_slot.specs.EndTurn.{IsAtRest}
use Rattle.mc_slot.specs.Moves.{closed_slot}
use Rattle.mc_slot.specs.Tunnel.{Kept}
use Rattle.mc_slot.specs.declared.Goal.TheVariants.{Close as ToClose}
use Rattle.mc_slot.specs.declared.Slot.{Slot}
use Rattle.mc_slot.specs.declared.SlotGoal.{SlotGoal}
use Rattle.mc_slot.specs.declared.SlotGoal.TheVariants.{End, Link}
use Rattle.mc_slot.specs.declared.State.TheVariants.{Closed}
use Rattle.mc_rule.specs.Programs.{ProgStateState}
use Rattle.mc_box.specs.BoxSound.{FitsProgram, IsLinked, IsSoundBox, RestsAt}
use Rattle.mc_box.specs.Boxes.{BoxState, FitsSlots, IsNewBox, first_box, first_slot, first_goal, first_media, no_slot, slot_at, goal_at, own, sender}
use Rattle.mc_box.specs.declared.event.Kind.{Kind}
use Rattle.mc_box.specs.declared.setup.SlotSetup.{SlotSetup}
use Rattle.mc_box.specs.declared.limit.TheConstants.{SLOT_LIMIT}

-- a new slot keeps nothing
new_kept : (setups : List SlotSetup) (local : ℕ) → Kept (get_or (map first_slot setups) local no_slot)
new_kept [] local = (refl, refl, refl, refl)
new_kept (setup ∷ setups) zero = (refl, refl, refl, refl)
new_kept (setup ∷ setups) (suc local) = new_kept setups local

-- and is closed
new_closed : (setups : List SlotSetup) (local : ℕ) → (get_or (map first_slot setups) local no_slot).state ≡ Closed
new_closed [] local = refl
new_closed (setup ∷ setups) zero = refl
new_closed (setup ∷ setups) (suc local) = new_closed setups local

-- its goal is close
pub new_goal : (setups : List SlotSetup) (local : ℕ) → get_or (map first_goal setups) local (End ToClose) ≡ End ToClose
new_goal [] local = refl
new_goal (setup ∷ setups) zero = refl
new_goal (setup ∷ setups) (suc local) = new_goal setups local

-- a closed end that is to close is at rest
closed_rests : (slot : Slot) (mine : Descriptor) (me : Sender) → slot.state ≡ Closed → IsAtRest ToClose slot mine me
closed_rests slot mine me is = grind arith

-- so is a slot of such a goal
pub closed_goal_rests : (goal : SlotGoal) (box : BoxState) (local : ℕ) → goal ≡ End ToClose → (slot_at box local).state ≡ Closed → RestsAt goal box local
closed_goal_rests goal box local is closed =
    subst (λ (g : SlotGoal). RestsAt g box local) (sym is) (closed_rests (slot_at box local) (own box local) (sender box local) closed)

-- and no such goal is a link
unlinked : (box : BoxState) (local partner : ℕ) → goal_at box local ≡ End ToClose → goal_at box local ≡ Link partner → IsLinked box local partner
unlinked box local partner one two = absurd (cc)

-- a program that is at no state, and was told nothing
new_program : (program : Option (List ProgStateState)) (kind : Kind) (slots : List Slot) (at told : Option ℕ) → at ≡ None → told ≡ None
    → IfSome program (FitsSlots kind slots) → FitsProgram kind slots program at told
new_program None kind slots None None at_is told_is fits = record { states = tt; here = tt; word = refl }
new_program (Some states) kind slots None None at_is told_is fits = record { states = fits; here = tt; word = tt }
new_program program kind slots (Some number) told at_is told_is fits = absurd (cc)
new_program program kind slots None (Some word) at_is told_is fits = absurd (cc)

new_sound : (box : BoxState) (setups : List SlotSetup) (version : ℕ)
    → box.slots ≡ map first_slot setups → box.goals ≡ map first_goal setups → box.media ≡ map (first_media version) setups
    → box.at ≡ None → box.told ≡ None → length setups ≤ SLOT_LIMIT → address_of box.number < 2 ^ 32 → IfSome box.program (FitsSlots box.kind box.slots) → IsSoundBox box
new_sound box setups version slots goals media at told few address fits =
    let goal_is = λ (local : ℕ). ap (λ (l : List SlotGoal). get_or l local (End ToClose)) goals ∙ new_goal setups local in
    record {
      wired = record {
        whole = record { goals = grind (arith, common_steps); media = grind (arith, common_steps) };
        few = grind (arith, common_steps);
        address = address;
        kept = λ local. subst (λ (l : List Slot). Kept (get_or l local no_slot)) (sym slots) (new_kept setups local);
        links = λ local partner is. unlinked box local partner (goal_is local) is;
        program = new_program box.program box.kind box.slots box.at box.told at told fits;
      };
      rests = λ local. closed_goal_rests (goal_at box local) box local (goal_is local)
          (ap (λ (l : List Slot). (get_or l local no_slot).state) slots ∙ new_closed setups local);
    }

pub first_sound : (box : BoxState) (kind : Kind) (number : ℕ) (receives sends : CodecList) (version : ℕ) (setups : List SlotSetup) (program : Option (List ProgStateState))
    → length setups ≤ SLOT_LIMIT → address_of number < 2 ^ 32 → IfSome program (FitsSlots kind (map first_slot setups))
    → box ≡ first_box kind number receives sends version setups program → IsSoundBox box
first_sound box kind number receives sends version setups program few address fits is =
    subst (λ (b : BoxState). IsSoundBox b) (sym is)
    (new_sound (first_box kind number receives sends version setups program) setups version refl refl refl refl refl few address fits)

-- whatever a box is made of, it is new
pub first_is_new : (kind : Kind) (number : ℕ) (receives sends : CodecList) (version : ℕ) (setups : List SlotSetup) (program : Option (List ProgStateState))
    → length setups ≤ SLOT_LIMIT → address_of number < 2 ^ 32 → IfSome program (FitsSlots kind (map first_slot setups))
    → IsNewBox (first_box kind number receives sends version setups program)
first_is_new kind number receives sends version setups program few address fits =
    record { version = version; setups = setups; few = few; address = address; program = fits; is = refl }

-- and a box that is new is sound
pub new_box_sound : (box : BoxState) → IsNewBox box → IsSoundBox box
new_box_sound box new =
    first_sound box box.kind box.number box.receives box.sends new.version new.setups box.program new.few new.address
    (subst (λ (l : List Slot). IfSome box.program (FitsSlots box.kind l)) (ap (λ (b : BoxState). b.slots) new.is) new.program) new.is

-- each of its slots is closed
first_closed : (setups : List SlotSetup) (local : ℕ)
    → get_or (map first_slot setups) local no_slot ≡ closed_slot (get_or (map first_slot setups) local no_slot).medium (get_or (map first_slot setups) local no_slot).initiator
first_closed [] local = refl
first_closed (setup ∷ setups) zero = refl
first_closed (setup ∷ setups) (suc local) = first_closed setups local

pub new_slot_closed : (box : BoxState) (local : ℕ) → IsNewBox box → slot_at box local ≡ closed_slot (slot_at box local).medium (slot_at box local).initiator
new_slot_closed box local new =
    subst (λ (b : BoxState). slot_at b local ≡ closed_slot (slot_at b local).medium (slot_at b local).initiator) (sym new.is) (first_closed new.setups local)
