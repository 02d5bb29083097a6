-- The last program of a list, and the one that takes its place.
use Rattle.std.proofs.Common.{◌≡◌, ℕ, zero, suc, true, ◌+◌, ◌-◌, List, [], ◌∷◌, ◌++◌, length, slice_set, Some, refl, arith, length-append}
use Rattle.std.proofs.lemmas.Grind.{common_steps}
use Rattle.std.specs.List.{slice_get}
use Rattle.mc_text.specs.NameLists.{NameLists}
use Rattle.mc_box.specs.BoxShapes.{BoxShapeState, shape_of}
use Rattle.mc_script.specs.Places.{Fits}
use Rattle.mc_lines.specs.Meaning.{programmed_shape}
use Rattle.mc_lines.specs.Forms.{IsOpenIn}
use Rattle.mc_program_lines.specs.Programs.{BlockState, FitsBox}

at_length : {A : Type 0} (xs : List A) (x : A) → slice_get (xs ++ x ∷ []) (length xs) ≡ Some x
at_length [] x = refl
at_length (y ∷ ys) x = at_length ys x

-- what was pushed is last
pub last_pushed : {A : Type 0} (xs : List A) (x : A) → slice_get (xs ++ x ∷ []) (length (xs ++ x ∷ []) - 1) ≡ Some x
last_pushed xs x =
    let count : length (xs ++ x ∷ []) ≡ length xs + 1 = length-append xs (x ∷ []) in
    let place : length (xs ++ x ∷ []) - 1 ≡ length xs = omega arith in
    rw place (at_length xs x)

-- the media of a box that gets a program stay, and so do the others
pub same_media : (shape : List BoxShapeState) (who k : ℕ) → (shape_of (programmed_shape shape who) k).media ≡ (shape_of shape k).media
same_media shape who k = go shape who k
  where
    go : (boxes : List BoxShapeState) (i j : ℕ) → (shape_of (slice_set boxes i (record (shape_of boxes i) { programmed = true })) j).media ≡ (shape_of boxes j).media
    go [] i j = refl
    go (box ∷ boxes) zero zero = refl
    go (box ∷ boxes) zero (suc j) = refl
    go (box ∷ boxes) (suc i) zero = refl
    go (box ∷ boxes) (suc i) (suc j) = go boxes i j

pub fits_program : (names : NameLists) (shape : List BoxShapeState) (who : ℕ) → Fits names shape → Fits names (programmed_shape shape who)
fits_program names shape who fits = record {
  boxes = let same : length (programmed_shape shape who) ≡ length shape = grind (arith, common_steps) in rw same fits.boxes;
  slots = λ k within. rw (same_media shape who k) (fits.slots k within);
}

-- a program that is pushed is open
pub pushed_is_open : (names : NameLists) (blocks pushed : List BlockState) (block : BlockState) → pushed ≡ blocks ++ block ∷ [] → FitsBox names block → IsOpenIn names (slice_get pushed (length pushed - 1))
pushed_is_open names blocks pushed block is fits = rw is (rw (last_pushed blocks block) fits)
