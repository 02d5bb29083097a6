-- No slot of new boxes waits for a closeack.
use Rattle.std.proofs.Common.{◌≡◌, ◌≤◌, inl, inr, ℕ, length, refl, ap, sym, ◌∙◌, arith}
use Rattle.std.proofs.Math.ListN.{get_or-eq_default}
use Rattle.std.proofs.lemmas.Bool.{cases_lt}
use Rattle.mc_slot.specs.declared.Slot.{Slot}
use Rattle.mc_slot.specs.declared.State.{State}
use Rattle.mc_slot.specs.declared.State.TheVariants.{Closed, Closing}
use Rattle.mc_box.specs.Boxes.{BoxState, no_box, slot_at}
use Rattle.mc_model.specs.Worlds.{box_at, first_world, place, slot_of}
use Rattle.mc_cause.specs.CauseLaws.{NewNoneCloses}
use Rattle.mc_box.proofs.NewBoxes.{new_slot_closed}

closed_closing : (state : State) → state ≡ Closed → state ≡ Closing → ⊥
closed_closing state one two = let both : Closed ≡ Closing = sym one ∙ two in cc

at_none : (local : ℕ) → (slot_at no_box local).state ≡ Closed
at_none local = refl

pub new_none_closes : NewNoneCloses
new_none_closes boxes channels new s inside closing =
    elim (cases_lt (place (first_world boxes channels) s).0 (length boxes)) [
      | inl below ↦
          closed_closing (slot_of (first_world boxes channels) s).state
          (ap (λ (slot : Slot). slot.state)
          (new_slot_closed (box_at (first_world boxes channels) (place (first_world boxes channels) s).0) (place (first_world boxes channels) s).1 (new (place (first_world boxes channels) s).0 below)))
          closing
      | inr above ↦
          let past : length boxes ≤ (place (first_world boxes channels) s).0 = omega arith in
          closed_closing (slot_of (first_world boxes channels) s).state
          (ap (λ (box : BoxState). (slot_at box (place (first_world boxes channels) s).1).state) (get_or-eq_default boxes no_box past)) closing
    ]
