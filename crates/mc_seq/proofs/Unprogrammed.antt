-- A world has no programs exactly where none of its boxes has one.
use Rattle.std.proofs.Common.{◌≡◌, ◌↔◌, ◌||◌, ℕ, zero, suc, Bool, true, false, is_some, Option, Some, None, List, [], ◌∷◌, refl}
use Rattle.std.specs.List.{list_any}
use Rattle.std.proofs.Math.ListN.{get_or}
use Rattle.mc_box.specs.Boxes.{BoxState, no_box}
use Rattle.mc_model.specs.Unprogrammed.{HasNoPrograms}
use Rattle.mc_model.specs.Worlds.{WorldState}

none_is : {A : Type 0} (o : Option A) → is_some o ≡ false → o ≡ None
none_is None is = refl
none_is (Some x) is = absurd (cc)

neither : (a b : Bool) → (a || b) ≡ false → (a ≡ false) × (b ≡ false)
neither true b is = absurd (cc)
neither false b is = (refl, is)

both_false : (a b : Bool) → a ≡ false → b ≡ false → (a || b) ≡ false
both_false a b one two = rw (one, two) refl

none_there : (boxes : List BoxState) → list_any (λ one. is_some one.program) boxes ≡ false → (who : ℕ) → (get_or boxes who no_box).program ≡ None
none_there [] none who = refl
none_there (box ∷ boxes) none zero = none_is box.program (neither (is_some box.program) (list_any (λ (one : BoxState). is_some one.program) boxes) none).0
none_there (box ∷ boxes) none (suc who) = none_there boxes (neither (is_some box.program) (list_any (λ (one : BoxState). is_some one.program) boxes) none).1 who

some_none : {A : Type 0} (o : Option A) → o ≡ None → is_some o ≡ false
some_none o is = rw is refl

none_found : (boxes : List BoxState) → ((who : ℕ) → (get_or boxes who no_box).program ≡ None) → list_any (λ one. is_some one.program) boxes ≡ false
none_found [] none = refl
none_found (box ∷ boxes) none =
    both_false (is_some box.program) (list_any (λ (one : BoxState). is_some one.program) boxes) (some_none box.program (none 0)) (none_found boxes (λ who. none (suc who)))

pub unprogrammed_is : (world : WorldState) (found : Bool) → found ≡ list_any (λ one. is_some one.program) world.boxes → (found ≡ false) ↔ HasNoPrograms world
unprogrammed_is world found is = rw is (none_there world.boxes, none_found world.boxes)
