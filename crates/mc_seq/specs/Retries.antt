-- The retries that are owed: by one slot, by a box, and in all.
use Rattle.std.specs.Prelude.{◌≡◌, ◌≢◌, ℕ, if◌then◌else◌, List, [], ◌∷◌, length}
use Rattle.mc_box.specs.Boxes.{box_owes}
use Rattle.mc_box.specs.declared.event.Event.TheVariants.{Retry}
use Rattle.mc_box.specs.declared.event.Turn.{Turn}
use Rattle.mc_model.specs.Worlds.{WorldState, box_at}
use Rattle.mc_seq.specs.ForEach.{for_each}

abbrev pub retry_turn : ℕ → ℕ → Turn
retry_turn who local = record { who = who; event = Retry local }

-- the retry of a box's slot, if it owes one
abbrev pub owed_retry : WorldState → ℕ → ℕ → List Turn
owed_retry world who local = if box_owes (box_at world who) local then retry_turn who local ∷ [] else []

-- those of a box, by local number in rising order
abbrev pub retries_of : WorldState → ℕ → List Turn
retries_of world who = for_each (owed_retry world who) (length (box_at world who).slots)

-- those of all boxes, box by box
abbrev pub retries_by_box : WorldState → List Turn
retries_by_box world = for_each (retries_of world) (length world.boxes)

-- each other box owes what it owed
abbrev pub OthersOwe : (old new : WorldState) → ℕ → Type 0
OthersOwe old new who =
    (other local : ℕ) → other ≢ who → box_owes (box_at new other) local ≡ box_owes (box_at old other) local
