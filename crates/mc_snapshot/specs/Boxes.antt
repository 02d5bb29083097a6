-- The form of a box.
use Rattle.std.specs.Prelude.{ℕ, ◌<◌, ◌^◌, List, ◌∷◌, Option, Some, None}
use Rattle.mc_rule.specs.Programs.{IsProgram, ProgStateState}
use Rattle.mc_entry.specs.Wire.{codecs_wire, word4}
use Rattle.mc_box.specs.BoxSound.{IsSoundBox}
use Rattle.mc_box.specs.Boxes.{BoxState}
use Rattle.mc_snapshot.specs.Forms.{FitsList, FitsOption, list_wire, option_wire}
use Rattle.mc_snapshot.specs.Kinds.{kind_number}
use Rattle.mc_snapshot.specs.Rules.{FitsState, state_wire}
use Rattle.mc_snapshot.specs.Slots.{FitsGoal, FitsMedia, FitsSlot, goal_wire, media_wire, slot_wire}

abbrev pub byte_wire : ℕ → List ℕ → List ℕ
byte_wire n more = n ∷ more

-- the state that its program is at, and the told word that it keeps
abbrev pub progress_wire : BoxState → List ℕ → List ℕ
progress_wire box more = option_wire word4 box.at (option_wire byte_wire box.told more)

-- its slots, their goals, and what their descriptors are made of
abbrev pub slots_wire : BoxState → List ℕ → List ℕ
slots_wire box more = list_wire slot_wire box.slots (list_wire goal_wire box.goals (list_wire media_wire box.media more))

-- what it is
abbrev pub head_wire : BoxState → List ℕ → List ℕ
head_wire box more = kind_number box.kind ∷ word4 box.number (codecs_wire box.receives (codecs_wire box.sends
    (word4 box.first_version more)))

-- all that it keeps
abbrev pub box_wire : BoxState → List ℕ → List ℕ
box_wire box more =
    head_wire box (slots_wire box (option_wire (list_wire state_wire) box.program (progress_wire box more)))

-- each number fits its field
pub record FitsBox (box : BoxState) : Type 0 where
  pub number : box.number < 2 ^ 32
  pub first_version : box.first_version < 2 ^ 32
  pub slots : FitsList FitsSlot box.slots
  pub goals : FitsList FitsGoal box.goals
  pub media : FitsList FitsMedia box.media
  pub program : FitsOption (FitsList FitsState) box.program
  pub at : FitsOption (λ n. n < 2 ^ 32) box.at
  pub told : FitsOption (λ n. n < 2 ^ 8) box.told

-- no program has these states
abbrev pub NoProgram : Option (List ProgStateState) → Type 0
NoProgram None = ⊥
NoProgram (Some states) = IsProgram states → ⊥

-- what is known of a box that was written
pub record IsWritten (box : BoxState) : Type 0 where
  pub fits : FitsBox box
  pub sound : IsSoundBox box
