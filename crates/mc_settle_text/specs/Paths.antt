-- What is printed of paths, by the path table.
use Rattle.std.specs.Prelude.{ℕ, List, [], ◌∷◌, ◌++◌, codes, Option}
use Rattle.std.specs.Fmt.{decimal}
use Rattle.std.specs.List.{flat_map}
use Rattle.mc_model.specs.PathTable.{high_hears, low_hears, path_state}
use Rattle.mc_model.specs.Paths.{PathEnds, end_goal, paths}
use Rattle.mc_model.specs.Worlds.{WorldState, tunnel_of}
use Rattle.mc_script.specs.Meaning.{goal_word}
use Rattle.mc_settle_text.specs.Words.{place_word, state_word}
use Rattle.mc_slot.specs.declared.State.{State}
use Rattle.mc_slot.specs.declared.State.TheVariants.{Flowing}
use Rattle.mc_table.specs.Words.{codec_word, line_of, medium_word}
use Rattle.mc_text.specs.NameLists.{NameLists}

-- a path: its ends, their goals, the state that the path table gives, and its medium
abbrev pub path_line : NameLists → WorldState → PathEnds → List ℕ
path_line names world path = line_of (
    codes "path"
    ∷ place_word names world path.low
    ∷ place_word names world path.high
    ∷ goal_word (end_goal world path.low)
    ∷ goal_word (end_goal world path.high)
    ∷ state_word (path_state world path)
    ∷ medium_word (tunnel_of world path.low).medium
    ∷ [])

abbrev pub hears_line : NameLists → WorldState → ℕ → Option ℕ → List ℕ
hears_line names world s codec = line_of (codes "hears" ∷ place_word names world s ∷ codec_word names codec ∷ [])

-- who hears what, where the path flows
abbrev pub hears_lines : State → NameLists → WorldState → PathEnds → List ℕ
hears_lines Flowing names world path =
    hears_line names world path.low (low_hears world path) ++ hears_line names world path.high (high_hears world path)
hears_lines state names world path = []

abbrev pub path_text : NameLists → WorldState → PathEnds → List ℕ
path_text names world path = path_line names world path ++ hears_lines (path_state world path) names world path

-- the line that a settle begins with, by its number
abbrev pub settle_line : ℕ → List ℕ
settle_line number = line_of (codes "settle" ∷ decimal number ∷ [])

-- a settle by its number, with these paths, in this order
abbrev pub paths_text : NameLists → ℕ → WorldState → List PathEnds → List ℕ
paths_text names number world ends = settle_line number ++ flat_map (path_text names world) ends

-- a settle by its number: each path once, in the order of the lower end slots
abbrev pub settle_text : NameLists → ℕ → WorldState → List ℕ
settle_text names number world = paths_text names number world (paths world)
