-- What is printed of settles in one line each, and in front of the first.
use Rattle.std.specs.Prelude.{ℕ, List, [], ◌∷◌, ◌++◌, codes, count_by, length, not, sum_by}
use Rattle.std.specs.Fmt.{decimal}
use Rattle.mc_model.specs.PathTable.{path_state, low_hears, high_hears}
use Rattle.mc_model.specs.Paths.{paths}
use Rattle.mc_model.specs.Worlds.{WorldState}
use Rattle.mc_path.specs.Views.{is_flowing}
use Rattle.mc_table.specs.Summaries.{heard_ends, summary_line}
use Rattle.mc_table.specs.Words.{line_of}

-- how many paths flow, by the path table
abbrev pub flowing_paths : WorldState → ℕ
flowing_paths world = count_by (λ path. is_flowing (path_state world path)) (paths world)

-- how many don't
abbrev pub closed_paths : WorldState → ℕ
closed_paths world = count_by (λ path. not (is_flowing (path_state world path))) (paths world)

-- how many ends of paths hear a codec, by the path table
abbrev pub hearing_path_ends : WorldState → ℕ
hearing_path_ends world =
    sum_by (λ path. heard_ends (is_flowing (path_state world path)) (low_hears world path) (high_hears world path))
    (paths world)

-- a settle by its number, in one line: how many paths flow and are closed, and how many ends hear a codec
abbrev pub summary_text : ℕ → WorldState → List ℕ
summary_text number world = summary_line number (flowing_paths world) (closed_paths world) (hearing_path_ends world)

-- the words that asked for it, and how many boxes and channels the world has
abbrev pub heading_text : (number size : ℕ) → WorldState → List ℕ
heading_text number size world =
    line_of (codes "gen" ∷ decimal number ∷ decimal size ∷ [])
    ++ line_of (codes "boxes" ∷ decimal (length world.boxes) ∷ codes "channels" ∷ decimal (length world.channels) ∷ [])
