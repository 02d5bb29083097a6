-- The names of a text, as lists. A name's place in its list is its number.
use Rattle.std.specs.Prelude.{ℕ, ◌≡◌, ◌<◌, ◌≤◌, false, List, [], ◌∷◌, ◌++◌, codes, length, Option, position, slice_index_or, slice_set, IsTrue, if◌then◌else◌}
use Rattle.std.specs.Option.{is_some}
use Rattle.std.specs.Str.{bytes_eq}
use Rattle.mc_text.specs.Spelling.{is_name}
use Rattle.mc_text.specs.declared.limit.TheConstants.{BOX_LIMIT, CODEC_LIMIT, SLOT_LIMIT, TOLD_LIMIT}

-- the names of codecs, of boxes, of the slots of each box, and the told words
pub record NameLists : Type 0 where
  pub codecs : List (List ℕ)
  pub boxes : List (List ℕ)
  pub slots : List (List (List ℕ))
  pub told : List (List ℕ)

abbrev pub no_names : NameLists
no_names = record { codecs = []; boxes = []; slots = []; told = [] }

-- the number of a name in a list
abbrev pub place_of : List (List ℕ) → List ℕ → Option ℕ
place_of names name = position (bytes_eq name) names

-- the list with the name last
abbrev pub with_name : List (List ℕ) → List ℕ → List (List ℕ)
with_name names name = names ++ name ∷ []

-- the slots of a box
abbrev pub slot_names : NameLists → ℕ → List (List ℕ)
slot_names names who = slice_index_or names.slots who []

-- a slot and its box, as `box/slot`
abbrev pub slot_word : NameLists → ℕ → ℕ → List ℕ
slot_word names who slot =
    slice_index_or names.boxes who [] ++ codes "/" ++ slice_index_or (slot_names names who) slot []

abbrev pub with_codec_name : NameLists → List ℕ → NameLists
with_codec_name names name = record names { codecs = with_name names.codecs name }

-- a new box has no slots
abbrev pub with_box_name : NameLists → List ℕ → NameLists
with_box_name names name = record names { boxes = with_name names.boxes name; slots = names.slots ++ [] ∷ [] }

abbrev pub with_slot_name : NameLists → ℕ → List ℕ → NameLists
with_slot_name names who name =
    record names { slots = slice_set names.slots who (with_name (slot_names names who) name) }

-- a told word is added once
abbrev pub with_told_word : NameLists → List ℕ → NameLists
with_told_word names name =
    if is_some (place_of names.told name) then names else record names { told = with_name names.told name }

-- every one is a name, and none stands twice
pub record AreNames (names : List (List ℕ)) : Type 0 where
  pub spelt : (i : ℕ) → i < length names → IsTrue (is_name (slice_index_or names i []))
  pub distinct : (i j : ℕ) → i < j → j < length names
      → bytes_eq (slice_index_or names j []) (slice_index_or names i []) ≡ false

-- no list has more names than it may have, and every box has its list of slots
pub record HaveRoom (all_codecs all_boxes : List (List ℕ)) (all_slots : List (List (List ℕ)))
    (all_told : List (List ℕ)) : Type 0 where
  pub listed : length all_slots ≡ length all_boxes
  pub codecs : length all_codecs ≤ CODEC_LIMIT
  pub boxes : length all_boxes ≤ BOX_LIMIT
  pub slots : (who : ℕ) → length (slice_index_or all_slots who []) ≤ SLOT_LIMIT
  pub told : length all_told ≤ TOLD_LIMIT
