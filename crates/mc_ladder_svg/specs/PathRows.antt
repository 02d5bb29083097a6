-- A path at a settle: its line, what its ends are for, and who hears what, or which turn closed it.
use Rattle.std.specs.Prelude.{ℕ, ◌+◌, ◌-◌, ◌*◌, ◌==◌, ◌||◌, not, Bool, true, false, is_some, if◌then◌else◌, List, [], ◌∷◌, ◌++◌, codes, length, slice_index_or, Option, None}
use Rattle.std.specs.Fmt.{decimal}
use Rattle.std.specs.List.{concat}
use Rattle.mc_model.specs.Worlds.{WorldState}
use Rattle.mc_script.specs.Meaning.{goal_word, slot_name}
use Rattle.mc_table.specs.Whys.{why_word}
use Rattle.mc_table.specs.Words.{codec_word, flow_word, medium_word}
use Rattle.mc_text.specs.NameLists.{NameLists}
use Rattle.mc_view.specs.declared.EndView.{EndView}
use Rattle.mc_view.specs.declared.PathView.{PathView}
use Rattle.mc_ladder.specs.declared.path.Ends.{Ends}
use Rattle.mc_ladder.specs.Glyphs.{each_of}
use Rattle.mc_ladder.specs.Routes.{ends_of, is_stop}
use Rattle.mc_ladder.specs.Words.{spaced}
use Rattle.mc_ladder_svg.specs.declared.measure.TextSide.{TextSide}
use Rattle.mc_ladder_svg.specs.declared.measure.TextSide.TheVariants.{Left, Right}
use Rattle.mc_ladder_svg.specs.Elements.{box_class, text_at, text_beside}
use Rattle.mc_ladder_svg.specs.Lines.{ends_drawn, is_turned, left_of, links, route, stops_drawn}
use Rattle.mc_ladder_svg.specs.Marks.{is_last}
use Rattle.mc_ladder_svg.specs.Measures.{beside, opposite, x_of}

-- ---- its ends

-- the words of the left end stand at the left of its line, and those of the right end at the right
abbrev pub low_side : Ends → TextSide
low_side ends = if is_turned ends then Right else Left

-- an end's slot and goal, above the line of the path
abbrev pub goal_words : NameLists → EndView → List ℕ
goal_words names end = slot_name names end.who end.local ++ spaced (goal_word end.goal)

abbrev pub goal_label : NameLists → TextSide → (x : ℕ) → EndView → List ℕ
goal_label names side x end = text_beside (codes "o d") side x 10 (goal_words names end)

-- what an end hears, where the path flows
abbrev pub hears_words : NameLists → EndView → List ℕ
hears_words names end = codes "hears" ++ spaced (codec_word names end.hears)

-- an end that hears nothing has the colour of what is silent
abbrev pub hears_class : (heard : Bool) → List ℕ
hears_class true = codes "o"
hears_class false = codes "o d"

-- from which turn the close came by which an end became closed, there, where the path doesn't
abbrev pub why_words : List (Option ℕ) → EndView → List ℕ
why_words whys end = codes "why" ++ spaced (why_word (slice_index_or whys end.slot None))

-- what is told of an end below it
abbrev pub told_label : NameLists → (flowing : Bool) → List (Option ℕ) → TextSide → (x : ℕ) → EndView → List ℕ
told_label names true whys side x end =
    text_beside (hears_class (is_some end.hears)) side x 39 (hears_words names end)
told_label names false whys side x end = text_beside (codes "o d") side x 39 (why_words whys end)

abbrev pub end_labels_at : NameLists → (flowing : Bool) → List (Option ℕ) → TextSide → (x : ℕ) → EndView → List ℕ
end_labels_at names flowing whys side x end = goal_label names side x end ++ told_label names flowing whys side x end

-- the words of an end stand 10 px from the line of its box
abbrev pub end_labels : NameLists → (flowing : Bool) → List (Option ℕ) → TextSide → (column : ℕ) → EndView → List ℕ
end_labels names flowing whys side column end = end_labels_at names flowing whys side (beside side (x_of column) 10) end

abbrev pub low_labels : NameLists → List (Option ℕ) → Ends → EndView → List ℕ
low_labels names whys ends end = end_labels names ends.flowing whys (low_side ends) ends.low end

-- those of the higher end stand at the other side
abbrev pub high_labels : NameLists → List (Option ℕ) → Ends → EndView → List ℕ
high_labels names whys ends end = end_labels names ends.flowing whys (opposite (low_side ends)) ends.high end

-- ---- the whole path

-- where it is told whether a path flows: over the gap at the right of its left end; where both ends stand in one column
-- that has the words of the other end, and so it is the gap after that, or the one before in the last column
abbrev pub flow_x : (columns : ℕ) → Ends → ℕ
flow_x columns ends =
    if not (ends.low == ends.high) then x_of (left_of ends) + 68
    else if is_last columns ends.low then x_of (left_of ends) - 204
    else x_of (left_of ends) + 204

abbrev pub flow_words : PathView → List ℕ
flow_words view = flow_word view.flowing ++ spaced (medium_word view.medium)

abbrev pub flow_label : (columns : ℕ) → Ends → PathView → List ℕ
flow_label columns ends view = text_at (codes "o m") (flow_x columns ends) 10 (flow_words view)

abbrev pub path_labels : (columns : ℕ) → NameLists → List (Option ℕ) → Ends → PathView → List ℕ
path_labels columns names whys ends view =
    low_labels names whys ends view.low ++ high_labels names whys ends view.high ++ flow_label columns ends view

-- its line, the boxes that link it, and its ends
abbrev pub path_drawn : Ends → List ℕ → List ℕ
path_drawn ends stops = route ends.flowing stops ++ links stops ++ ends_drawn ends stops

-- somebody hears something
abbrev pub is_heard : PathView → Bool
is_heard view = is_some view.low.hears || is_some view.high.hears

-- the colour of a path tells whether somebody hears something
abbrev pub path_class : (heard : Bool) → List ℕ
path_class true = codes "<g class=\"fl"
path_class false = codes "<g class=\"si"

-- the class of a column, where a path stops there
abbrev pub stop_class : List ℕ → (column : ℕ) → List ℕ
stop_class stops column = if is_stop stops column then box_class column else []

abbrev pub path_boxes : (columns : ℕ) → List ℕ → List ℕ
path_boxes columns stops = each_of columns (stop_class stops)

-- the place of the path that has so many before it
abbrev pub path_place : (before : ℕ) → List ℕ
path_place before = concat (codes "\" transform=\"translate(0," ∷ decimal (28 + 44 * before) ∷ codes ")\">" ∷ [])

-- up to its line
abbrev pub path_opening : (columns : ℕ) → List ℕ → PathView → (before : ℕ) → List ℕ
path_opening columns stops view before = path_class (is_heard view) ++ path_boxes columns stops ++ path_place before

-- a path by the columns of its ends and of its slots
abbrev pub path_between : (columns : ℕ) → NameLists → List (Option ℕ) → Ends → List ℕ → PathView → (before : ℕ) → List ℕ
path_between columns names whys ends stops view before =
    path_opening columns stops view before ++ path_drawn ends stops ++ path_labels columns names whys ends view
    ++ codes "</g>\n"

-- a path that has so many before it. Why all slots are closed is told by a list
abbrev pub path_row : List ℕ → NameLists → WorldState → List (Option ℕ) → PathView → (before : ℕ) → List ℕ
path_row columns names world whys view before =
    path_between (length columns) names whys (ends_of columns view)
    (stops_drawn columns world view.low.slot (ends_of columns view)) view before
