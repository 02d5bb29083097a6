-- The data of a page: what a network has, and for each line of a journal which cells are others after it.
use Rattle.std.specs.Prelude.{ℕ, zero, suc, ◌+◌, Bool, true, false, List, [], ◌∷◌, ◌++◌, codes, length, slice_index_or}
use Rattle.std.specs.Fmt.{decimal}
use Rattle.mc_model.specs.Worlds.{WorldState, place, slot_count, slot_of}
use Rattle.mc_program_lines.specs.Programs.{BlockState}
use Rattle.mc_script.specs.Meaning.{slot_name}
use Rattle.mc_script.specs.declared.command.JournalLine.{JournalLine}
use Rattle.mc_script.specs.declared.command.JournalLine.TheVariants.{Turn as Made, Settled}
use Rattle.mc_table.specs.Words.{medium_word}
use Rattle.mc_text.specs.NameLists.{NameLists}
use Rattle.mc_ladder.specs.Columns.{columns_of}
use Rattle.mc_ladder.specs.Glyphs.{each_of}
use Rattle.mc_ladder_choice.specs.Entries.{world_after}
use Rattle.mc_ladder_svg.specs.Heads.{box_of, is_device_at}
use Rattle.mc_ladder_page.specs.declared.row.Passed.{Passed}
use Rattle.mc_ladder_page.specs.Cells.{cells_of, quoted}
use Rattle.mc_ladder_page.specs.Changes.{CellChange, changes_between, changes_text}

-- ---- what stays the same

-- what stands before an entry of a list, by how many stand before it
abbrev pub comma : ℕ → List ℕ
comma zero = []
comma (suc before) = codes ","

abbrev pub kind_word : (device : Bool) → List ℕ
kind_word true = codes "device"
kind_word false = codes "feature"

-- the beginning of an entry: the number of a box
abbrev pub entry_opening : (who : ℕ) → List ℕ
entry_opening who = codes "[" ++ decimal who

-- a box, its name and its kind
abbrev pub box_entry : NameLists → WorldState → (who : ℕ) → List ℕ
box_entry names world who =
    entry_opening who
    ++ quoted (slice_index_or names.boxes who [])
    ++ quoted (kind_word (is_device_at world who))
    ++ codes "]"

-- the box of a column
abbrev pub column_entry : NameLists → WorldState → List ℕ → (column : ℕ) → List ℕ
column_entry names world columns column = comma column ++ box_entry names world (box_of columns column)

-- the boxes in the order of their columns
abbrev pub column_entries : NameLists → WorldState → List ℕ → List ℕ
column_entries names world columns = each_of (length columns) (column_entry names world columns)

-- a slot: the number of its box, its name and its medium
abbrev pub slot_entry_by : NameLists → WorldState → (s who local : ℕ) → List ℕ
slot_entry_by names world s who local =
    entry_opening who
    ++ quoted (slot_name names who local)
    ++ quoted (medium_word (slot_of world s).medium)
    ++ codes "]"

abbrev pub slot_entry : NameLists → WorldState → (s : ℕ) → List ℕ
slot_entry names world s = comma s ++ slot_entry_by names world s (place world s).0 (place world s).1

-- the slots by their numbers
abbrev pub slot_entries : NameLists → WorldState → List ℕ
slot_entries names world = each_of (slot_count world) (slot_entry names world)

-- boxes and slots
abbrev pub network_text : NameLists → WorldState → List ℕ
network_text names world =
    codes "{\"boxes\":["
    ++ column_entries names world (columns_of names world)
    ++ codes "],\n\"slots\":["
    ++ slot_entries names world
    ++ codes "],\n"

-- ---- what changes

-- nothing was passed yet
abbrev pub none_passed : Passed
none_passed = record { turns = 0; settles = 0 }

abbrev pub passed_after : Passed → JournalLine → Passed
passed_after passed (Made turn) = record { turns = passed.turns + 1; settles = passed.settles }
passed_after passed Settled = record { turns = passed.turns; settles = passed.settles + 1 }

-- the name that the row of a line has in the ladder, too
abbrev pub row_name : Passed → JournalLine → List ℕ
row_name passed (Made turn) = codes "\n,[\"turn-" ++ (decimal (passed.turns + 1) ++ codes "\"")
row_name passed Settled = codes "\n,[\"settle-" ++ (decimal (passed.settles + 1) ++ codes "\"")

-- which cells a line changes
abbrev pub line_changes : NameLists → List BlockState → WorldState → JournalLine → List CellChange
line_changes names blocks world line =
    changes_between (cells_of names blocks world) (cells_of names blocks (world_after world line))

-- the row of a line that leads from some cells to others
abbrev pub row_by : Passed → JournalLine → (old new : List (List ℕ)) → List ℕ
row_by passed line old new = row_name passed line ++ changes_text (changes_between old new) ++ codes "]"

abbrev pub line_row : NameLists → List BlockState → WorldState → Passed → JournalLine → List ℕ
line_row names blocks world passed line =
    row_by passed line (cells_of names blocks world) (cells_of names blocks (world_after world line))

-- a row for each line, in a world and after so many lines
abbrev pub data_rows : NameLists → List BlockState → WorldState → Passed → List JournalLine → List ℕ
data_rows names blocks world passed [] = []
data_rows names blocks world passed (line ∷ lines) =
    line_row names blocks world passed line
    ++ data_rows names blocks (world_after world line) (passed_after passed line) lines

-- the row before the first turn: all cells
abbrev pub first_changes : NameLists → List BlockState → WorldState → List CellChange
first_changes names blocks world = changes_between [] (cells_of names blocks world)

abbrev pub first_row_by : (cells : List (List ℕ)) → List ℕ
first_row_by cells = codes "\"rows\":[[\"start\"" ++ changes_text (changes_between [] cells) ++ codes "]"

abbrev pub first_row : NameLists → List BlockState → WorldState → List ℕ
first_row names blocks world = first_row_by (cells_of names blocks world)

-- the data of the page of a journal, from the first world of a network on
abbrev pub page_data : NameLists → List BlockState → WorldState → List JournalLine → List ℕ
page_data names blocks world journal =
    network_text names world
    ++ first_row names blocks world
    ++ data_rows names blocks world none_passed journal
    ++ codes "]}\n"
