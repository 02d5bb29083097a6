-- What a page shows of a world: a cell for each thing that a turn may change, as a list of words in JSON.
use Rattle.std.specs.Prelude.{ℕ, ◌==◌, false, List, [], ◌∷◌, ◌++◌, codes, length, map, if◌then◌else◌, slice_index_or, Option, Some, None}
use Rattle.std.specs.Fmt.{decimal}
use Rattle.std.specs.List.{flat_map, range_with_len}
use Rattle.mc_model.specs.Worlds.{WorldState, box_at, goal_of, list_to, own_descriptor, own_sender, place, slot_count, slot_of}
use Rattle.mc_program_lines.specs.Programs.{BlockState}
use Rattle.mc_script.specs.Meaning.{goal_word, slot_name}
use Rattle.mc_signal.specs.Choice.{codecs_of}
use Rattle.mc_signal.specs.declared.Signal.{Signal}
use Rattle.mc_slot.specs.declared.SlotGoal.{SlotGoal}
use Rattle.mc_slot.specs.declared.SlotGoal.TheVariants.{End, Link}
use Rattle.mc_slot.specs.declared.State.{State}
use Rattle.mc_slot.specs.declared.State.TheVariants.{Closed, Opening, Opened, Flowing, Closing}
use Rattle.mc_table.specs.Words.{codec_word, flow_word}
use Rattle.mc_text.specs.NameLists.{NameLists}
use Rattle.mc_view.specs.declared.PathView.{PathView}
use Rattle.mc_ladder.specs.Rows.{state_at, state_word}
use Rattle.mc_ladder.specs.Signals.{codecs_text, signal_text}
use Rattle.mc_ladder.specs.Words.{spaced}
use Rattle.mc_ladder_choice.specs.Choices.{views_of}

-- a word more of a list: between quotes, behind a comma
abbrev pub quoted : List ℕ → List ℕ
quoted word = codes ",\"" ++ word ++ codes "\""

-- ---- a slot

abbrev pub slot_state_word : State → List ℕ
slot_state_word Closed = codes "closed"
slot_state_word Opening = codes "opening"
slot_state_word Opened = codes "opened"
slot_state_word Flowing = codes "flowing"
slot_state_word Closing = codes "closing"

-- the goal of an end, or the slot of the same box with which a slot is linked
abbrev pub goal_text : NameLists → (who : ℕ) → SlotGoal → List ℕ
goal_text names who (End goal) = goal_word goal
goal_text names who (Link other) = codes "link" ++ spaced (slot_name names who other)

-- a signal under way, in words
abbrev pub signal_quoted : NameLists → WorldState → Signal → List ℕ
signal_quoted names world signal = quoted (signal_text names world signal false)

-- all signals under way to a slot, the next one first
abbrev pub under_way : NameLists → WorldState → (s : ℕ) → List ℕ
under_way names world s = flat_map (signal_quoted names world) (list_to world s)

-- its state and its goal
abbrev pub slot_words : NameLists → WorldState → (s : ℕ) → List ℕ
slot_words names world s =
    quoted (slot_state_word (slot_of world s).state) ++ quoted (goal_text names (place world s).0 (goal_of world s))

abbrev pub slot_cell : NameLists → WorldState → (s : ℕ) → List ℕ
slot_cell names world s = codes "[\"slot\"" ++ slot_words names world s ++ under_way names world s ++ codes "]"

-- ---- its media

-- the codecs that it can receive, and those that it can send
abbrev pub media_cell : NameLists → WorldState → (s : ℕ) → List ℕ
media_cell names world s =
    codes "[\"media\""
    ++ quoted (codecs_text names (codecs_of (own_descriptor world s).codecs))
    ++ quoted (codecs_text names (codecs_of (own_sender world s).codecs))
    ++ codes "]"

-- ---- the path of which it is the lower end

-- whether the path flows, and what its lower and its higher end hear
abbrev pub path_words : NameLists → PathView → List ℕ
path_words names view =
    quoted (flow_word view.flowing)
    ++ quoted (codec_word names view.low.hears)
    ++ quoted (codec_word names view.high.hears)

abbrev pub path_text : NameLists → PathView → List ℕ
path_text names view = codes "[\"path\"," ++ decimal view.high.slot ++ path_words names view ++ codes "]"

-- that of the first of these paths that has this lower end; a slot that is no lower end has none
abbrev pub path_cell : NameLists → List PathView → (s : ℕ) → List ℕ
path_cell names [] s = codes "[\"none\"]"
path_cell names (view ∷ views) s = if view.low.slot == s then path_text names view else path_cell names views s

-- ---- a box

-- the name of a told word, if there is one
abbrev pub told_text : NameLists → Option ℕ → List ℕ
told_text names None = []
told_text names (Some word) = slice_index_or names.told word []

-- the state of its program, and the told word that waits
abbrev pub box_cell : NameLists → List BlockState → WorldState → (who : ℕ) → List ℕ
box_cell names blocks world who =
    codes "[\"box\""
    ++ quoted (state_word blocks who (state_at world who))
    ++ quoted (told_text names (box_at world who).told)
    ++ codes "]"

-- ---- all of them

abbrev pub slot_cells : NameLists → WorldState → List PathView → (s : ℕ) → List (List ℕ)
slot_cells names world views s = slot_cell names world s ∷ media_cell names world s ∷ path_cell names views s ∷ []

abbrev pub all_slot_cells : NameLists → WorldState → List PathView → (count : ℕ) → List (List ℕ)
all_slot_cells names world views count = flat_map (slot_cells names world views) (range_with_len 0 count)

abbrev pub all_box_cells : NameLists → List BlockState → WorldState → (count : ℕ) → List (List ℕ)
all_box_cells names blocks world count = map (box_cell names blocks world) (range_with_len 0 count)

-- three for each slot by the slots' numbers, and then one for each box
abbrev pub cells_of : NameLists → List BlockState → WorldState → List (List ℕ)
cells_of names blocks world =
    all_slot_cells names world (views_of world) (slot_count world)
    ++ all_box_cells names blocks world (length names.boxes)
