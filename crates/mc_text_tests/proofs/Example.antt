-- Two boxes with one slot each.
use Rattle.std.proofs.Common.{◌≡◌, ℕ, zero, suc, ◌<◌, List, length, ◌∙◌, sym, arith}
use Rattle.mc_text.specs.NameLists.{NameLists, slot_names}
use Rattle.mc_box.specs.BoxShapes.{BoxShapeState, shape_of}
use Rattle.mc_script.specs.Places.{Fits}

module _ (names : NameLists) (shape : List BoxShapeState) where
  -- they fit where there are two of each, with one slot each
  pub fits_two : length shape ≡ 2 → length (shape_of shape 0).media ≡ 1 → length (shape_of shape 1).media ≡ 1
      → length names.boxes ≡ 2 → length (slot_names names 0) ≡ 1 → length (slot_names names 1) ≡ 1 → Fits names shape
  fits_two shapes first second boxes slots others = record { boxes = shapes ∙ sym boxes; slots = at }
    where
      at : (who : ℕ) → who < length names.boxes → length (shape_of shape who).media ≡ length (slot_names names who)
      at zero within = first ∙ sym slots
      at (suc zero) within = second ∙ sym others
      at (suc (suc who)) within = absurd (omega (arith, boxes))
