-- Where a word is missing, so are those after it, and a place has no word just where it has no box, or no value.
use Rattle.std.proofs.Common.{◌≡◌, ◌||◌, false, ℕ, List, [], ◌∷◌, Option, Some, None, refl}
use Rattle.std.specs.List.{slice_get}
use Rattle.std.specs.Option.{is_none}
use Rattle.mc_text.specs.NameLists.{NameLists}
use Rattle.mc_script.specs.Places.{box_named, is_no, lacks, spelt_value}

pub misses_box : (names : NameLists) (word : Option (List ℕ)) → lacks names.boxes word ≡ false → is_none (box_named names word) ≡ is_none word
misses_box names None lacking = refl
misses_box names (Some word) lacking = lacking

pub misses_value : {X : Type 0} (meaning : List ℕ → Option X) (word : Option (List ℕ)) → is_no meaning word ≡ false → is_none (spelt_value meaning word) ≡ is_none word
misses_value meaning None fixed = refl
misses_value meaning (Some word) fixed = fixed

-- of the first two words one is missing just where the second is
pub misses_second : (words : List (List ℕ)) → (is_none (slice_get words 0) || is_none (slice_get words 1)) ≡ is_none (slice_get words 1)
misses_second [] = refl
misses_second (a ∷ []) = refl
misses_second (a ∷ b ∷ others) = refl

-- and of the first three where the third is
pub misses_third : (words : List (List ℕ)) → (is_none (slice_get words 0) || is_none (slice_get words 1) || is_none (slice_get words 2)) ≡ is_none (slice_get words 2)
misses_third [] = refl
misses_third (a ∷ []) = refl
misses_third (a ∷ b ∷ []) = refl
misses_third (a ∷ b ∷ c ∷ others) = refl
