-- The orders in which the commands of a batch may come that several operators ask for at once.
use Rattle.std.specs.Prelude.{◌≡◌, ℕ, ◌+◌, ◌%◌, ◌==◌, ◌<◌, if◌then◌else◌, List, [], ◌∷◌, length, map, slice_index_or}
use Rattle.std.specs.List.{AllByRecursion, AllZip, range_with_len}
use Rattle.mc_box.specs.declared.event.Turn.{Turn}
use Rattle.mc_model.specs.Settles.{commands_of}

-- ---- hands

-- of the commands whose places begin at a number, those that are dealt to an operator
abbrev pub hand_from : ℕ → ℕ → ℕ → List Turn → List Turn
hand_from operators operator place [] = []
hand_from operators operator place (turn ∷ turns) =
    if place % operators == operator then turn ∷ hand_from operators operator (place + 1) turns
    else hand_from operators operator (place + 1) turns

-- the commands of a batch are dealt to so many operators in turn: those of one of them, in their order
abbrev pub hand_of : ℕ → List Turn → ℕ → List Turn
hand_of operators batch operator = hand_from operators operator 0 batch

-- those of all of them
abbrev pub hands_of : ℕ → List Turn → List (List Turn)
hands_of operators batch = map (hand_of operators batch) (range_with_len 0 operators)

-- ---- lists that come in one another's midst

-- the entries that have this owner, by the list of all owners
abbrev pub owned_by : ℕ → List ℕ → List Turn → List Turn
owned_by owner [] whole = []
owned_by owner (other ∷ owners) [] = []
owned_by owner (other ∷ owners) (turn ∷ whole) =
    if other == owner then turn ∷ owned_by owner owners whole else owned_by owner owners whole

-- a list has the entries of all these lists and no others, each once, those of each list in their order: it is known of
-- each entry from which list it is
pub record AreInterleaved (lists : List (List Turn)) (whole : List Turn) : Type 0 where
  pub owners : List ℕ
  pub count : length owners ≡ length whole
  pub known : AllByRecursion (λ owner. owner < length lists) owners
  pub each : (owner : ℕ) → owner < length lists → owned_by owner owners whole ≡ slice_index_or lists owner []

-- ---- orders

-- of each operator the commands for one box
abbrev pub hands_for : ℕ → ℕ → List Turn → List (List Turn)
hands_for who operators batch = map (commands_of who) (hands_of operators batch)

-- an order of a batch that is dealt to so many operators: box by box it has the batch's commands, each once, those of
-- each operator in their order
pub record IsOrderOf (operators : ℕ) (batch order : List Turn) : Type 0 where
  pub each : (who : ℕ) → AreInterleaved (hands_for who operators batch) (commands_of who order)

-- one for each batch
abbrev pub AreOrdersOf : ℕ → List (List Turn) → List (List Turn) → Type 0
AreOrdersOf operators batches orders = AllZip (IsOrderOf operators) batches orders
