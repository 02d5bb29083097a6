-- Words of printed lines.
use Rattle.std.specs.Prelude.{ℕ, List, [], codes, slice_index_or}
use Rattle.mc_model.specs.Worlds.{WorldState, place}
use Rattle.mc_slot.specs.declared.State.{State}
use Rattle.mc_slot.specs.declared.State.TheVariants.{Flowing}
use Rattle.mc_text.specs.NameLists.{NameLists, slot_word}

abbrev pub state_word : State → List ℕ
state_word Flowing = codes "flowing"
state_word state = codes "closed"

-- a box by its number
abbrev pub box_word : NameLists → ℕ → List ℕ
box_word names who = slice_index_or names.boxes who []

-- a slot by its number, as `box/slot`
abbrev pub place_word : NameLists → WorldState → ℕ → List ℕ
place_word names world s = slot_word names (place world s).0 (place world s).1
