-- Names and shapes of boxes go on to fit while boxes and slots are added.
use Rattle.std.proofs.Common.{◌≡◌, ◌⊎◌, inl, inr, ℕ, zero, suc, ◌<◌, List, [], ◌∷◌, ◌++◌, length, length-append, slice_index_or, refl, sym, ap, ◌∙◌, arith}
use Rattle.std.proofs.lemmas.Grind.{common_steps}
use Rattle.mc_text.specs.NameLists.{NameLists, slot_names, with_box_name}
use Rattle.mc_box.specs.BoxShapes.{BoxShapeState, shape_of}
use Rattle.mc_box.specs.declared.event.Kind.{Kind}
use Rattle.mc_script.specs.Places.{Fits}
use Rattle.mc_lines.specs.Forms.{IsInForm}
use Rattle.mc_lines.specs.Meaning.{new_shape, with_new_box}
use Rattle.mc_lines.specs.SoFar.{Declared, DeclaredBox}

fits_box : (names : NameLists) (shape : List BoxShapeState) (name : List ℕ) (kind : Kind) → length names.slots ≡ length names.boxes → Fits names shape → Fits (with_box_name names name) (shape ++ new_shape kind ∷ [])
fits_box names shape name kind listed fits = record {
  boxes = grind (arith, common_steps, fits.boxes);
  slots = λ who within. by who (grind (arith, common_steps));
}
  where
    by : (who : ℕ) → (who < length names.boxes) ⊎ (who ≡ length names.boxes) → length (shape_of (shape ++ new_shape kind ∷ []) who).media ≡ length (slot_names (with_box_name names name) who)
    by who (inl earlier) =
        let old = fits.slots who earlier in
        let same_shape : shape_of (shape ++ new_shape kind ∷ []) who ≡ shape_of shape who = grind (arith, common_steps, fits.boxes) in
        let same_slots : slot_names (with_box_name names name) who ≡ slot_names names who = grind (arith, common_steps) in
        rw (same_shape, same_slots) old
    by who (inr last) =
        let new : shape_of (shape ++ new_shape kind ∷ []) who ≡ new_shape kind = grind (arith, common_steps, fits.boxes) in
        let none : slot_names (with_box_name names name) who ≡ [] = grind (arith, common_steps) in
        rw (new, none) refl

-- the slots of each box stay where a box comes last
pub same_before : {A : Type 0} (xs : List (List A)) (who : ℕ) → slice_index_or (xs ++ [] ∷ []) who [] ≡ slice_index_or xs who []
same_before [] zero = refl
same_before [] (suc who) = refl
same_before (x ∷ xs) zero = refl
same_before (x ∷ xs) (suc who) = same_before xs who

-- a box more
pub in_form_with_box : (d : Declared) (name : List ℕ) (declared : DeclaredBox) → IsInForm d → IsInForm (with_new_box d name declared)
in_form_with_box d name declared form = record {
  fits = fits_box d.names d.shape name declared.kind form.named.listed form.fits;
  named = record {
    listed = let same = form.named.listed in omega (arith, length-append d.names.slots ([] ∷ []), length-append d.names.boxes (name ∷ []));
    boxes = let same = form.named.boxes in omega (arith, length-append d.boxes (declared ∷ []), length-append d.names.boxes (name ∷ []));
    slots = λ who. form.named.slots who ∙ ap (λ (names : List (List ℕ)). length names) (sym (same_before d.names.slots who));
  };
  block = tt;
}
