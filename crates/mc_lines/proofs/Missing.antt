-- A place in which no box is known.
use Rattle.std.proofs.Common.{◌≡◌, false, ℕ, List, Option, Some, None, refl, arith}
use Rattle.mc_text.specs.NameLists.{NameLists}
use Rattle.mc_script.specs.Places.{box_named, lacks}

-- a place in which no box is known and none is lacking has no word
pub no_word_without_box : (names : NameLists) (word : Option (List ℕ)) → lacks names.boxes word ≡ false → box_named names word ≡ None → word ≡ None
no_word_without_box names None lacking none = refl
no_word_without_box names (Some word) lacking none = absurd (grind arith)
