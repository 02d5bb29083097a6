-- What two live slots send, part by part.
use Rattle.std.proofs.Common.{◌≡◌, ◌&&◌, Option, Some, None, Bool, true, false, List, [], ◌∷◌, ◌++◌, refl, sym, ◌∙◌, arith}
use Rattle.std.specs.Option.{option_and_then}
use Rattle.mc_signal.specs.declared.Descriptor.{Descriptor}
use Rattle.mc_signal.specs.declared.Signal.{Signal}
use Rattle.mc_slot.specs.Moves.{is_live, slot_send_all}
use Rattle.mc_slot.specs.Tunnel.{Kept}
use Rattle.mc_slot.specs.declared.Slot.{Slot}
use Rattle.mc_link.specs.LinkTurn.{selector_due, flow, from_side, lean, descriptor_due}
use Rattle.mc_link.specs.declared.Side.TheVariants.{First, Second}
use Rattle.mc_link.proofs.Sides.{sent_all-append}

-- two tests that hold together hold each
pub both : (x y : Bool) → x && y ≡ true → (x ≡ true) × (y ≡ true)
both true y e = (refl, e)
both false y e = absurd (cc)

-- two live slots flow
pub live_both : (a b : Slot) → is_live a.state ≡ true → is_live b.state ≡ true → lean a b ≡ flow a b
live_both a b a_live b_live = grind (arith)

-- a live slot has got a descriptor
pub live_got : (slot : Slot) (o : Option Descriptor) → slot.got ≡ o → Kept slot → is_live slot.state ≡ true → (d : Descriptor) × (slot.got ≡ Some d)
live_got slot None is kept live = absurd (grind (arith))
live_got slot (Some d) is kept live = (d, is)

-- a slot that sends two lists sends the one, and then the other
pub record Split (slot : Slot) (first second : List Signal) (last : Slot) : Type 0 where
  pub middle : Slot
  pub one : slot_send_all slot first ≡ Some middle
  pub two : slot_send_all middle second ≡ Some last

-- by the slot between
split_by : (o : Option Slot) (slot : Slot) (first second : List Signal) (last : Slot) → slot_send_all slot first ≡ o
    → option_and_then (λ (middle : Slot). slot_send_all middle second) o ≡ Some last → Split slot first second last
split_by None slot first second last is goes = absurd (cc)
split_by (Some middle) slot first second last is goes = record { middle = middle; one = is; two = goes }

-- a slot that sends one list after another has a slot between
pub split : (slot : Slot) (first second : List Signal) (last : Slot) → slot_send_all slot (first ++ second) ≡ Some last → Split slot first second last
split slot first second last goes = split_by (slot_send_all slot first) slot first second last refl (sym (sent_all-append slot first second) ∙ goes)

-- four lists that are empty together are empty each
four_empty : (p q r t : List Signal) → from_side First p ++ (from_side Second q ++ (from_side First r ++ from_side Second t)) ≡ [] → (p ≡ []) × (q ≡ []) × (r ≡ []) × (t ≡ [])
four_empty [] [] [] [] e = (refl, refl, refl, refl)
four_empty [] [] [] (signal ∷ signals) e = absurd (cc)
four_empty [] [] (signal ∷ signals) t e = absurd (cc)
four_empty [] (signal ∷ signals) r t e = absurd (cc)
four_empty (signal ∷ signals) q r t e = absurd (cc)

-- and the other way round
pub empty_four : (p q r t : List Signal) → p ≡ [] → q ≡ [] → r ≡ [] → t ≡ [] → from_side First p ++ (from_side Second q ++ (from_side First r ++ from_side Second t)) ≡ []
empty_four p q r t p_none q_none r_none t_none = rw (p_none, q_none, r_none, t_none) refl

-- two live slots at rest send none of the four parts
pub record Quiet (a b : Slot) : Type 0 where
  pub first_passes : descriptor_due a b ≡ []
  pub second_passes : descriptor_due b a ≡ []
  pub first_chooses : selector_due a b ≡ []
  pub second_chooses : selector_due b a ≡ []

-- each part is empty, since all are
pub quiet : (a b : Slot) → is_live a.state ≡ true → is_live b.state ≡ true → lean a b ≡ [] → Quiet a b
quiet a b a_live b_live rest =
    let four = four_empty (descriptor_due a b) (descriptor_due b a) (selector_due a b) (selector_due b a) (sym (live_both a b a_live b_live) ∙ rest) in
    record { first_passes = four.0; second_passes = four.1; first_chooses = four.2; second_chooses = four.3 }
