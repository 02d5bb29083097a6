-- Boxes whose programs can go on.
use Rattle.std.proofs.Common.{◌≡◌, ◌<◌, ◌||◌, ℕ, zero, suc, Bool, true, false, List, [], ◌∷◌, length, refl, arith}
use Rattle.std.specs.List.{list_any}
use Rattle.std.proofs.Math.ListN.{get_or}
use Rattle.mc_box.specs.BoxEvents.{is_enabled}
use Rattle.mc_box.specs.Boxes.{BoxState, no_box}
use Rattle.mc_box.specs.declared.event.Event.TheVariants.{Shift}
use Rattle.mc_model.specs.Settles.{can_shift}
use Rattle.mc_model.specs.Worlds.{WorldState}
use Rattle.mc_seq.specs.Restless.{IsFirstShifter}

one_or : (a b : Bool) → a ≡ true → (a || b) ≡ true
one_or a b is = rw is refl

other_or : (a b : Bool) → b ≡ true → (a || b) ≡ true
other_or true b is = refl
other_or false b is = is

any_at : (p : BoxState → Bool) (boxes : List BoxState) (who : ℕ) → who < length boxes → p (get_or boxes who no_box) ≡ true → list_any p boxes ≡ true
any_at p [] who inside is = absurd (omega arith)
any_at p (box ∷ boxes) zero inside is = one_or (p box) (list_any p boxes) is
any_at p (box ∷ boxes) (suc who) inside is = other_or (p box) (list_any p boxes) (any_at p boxes who (omega arith) is)

-- where a box's program can, some program can
pub first_can : (world : WorldState) (who : ℕ) → IsFirstShifter world who → can_shift world ≡ true
first_can world who first = any_at (λ (box : BoxState). is_enabled box Shift) world.boxes who first.inside first.can
