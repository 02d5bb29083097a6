-- A settle: between two rules, each path, and who hears what on it, or which turn closed it.
use Rattle.std.specs.Prelude.{ℕ, Bool, true, false, List, [], ◌∷◌, ◌++◌, codes, length, Option}
use Rattle.std.specs.Fmt.{decimal}
use Rattle.std.specs.List.{flat_map}
use Rattle.mc_model.specs.Worlds.{WorldState}
use Rattle.mc_table.specs.Shown.{hearing_line, view_line}
use Rattle.mc_table.specs.Whys.{why_line}
use Rattle.mc_table.specs.Words.{line_of}
use Rattle.mc_text.specs.NameLists.{NameLists}
use Rattle.mc_view.specs.declared.PathView.{PathView}
use Rattle.mc_ladder.specs.declared.glyph.Glyph.TheVariants.{Blank}
use Rattle.mc_ladder.specs.declared.glyph.Style.{Style}
use Rattle.mc_ladder.specs.declared.lanes.TheConstants.{MARGIN}
use Rattle.mc_ladder.specs.Frames.{FrameState}
use Rattle.mc_ladder.specs.Glyphs.{cells}
use Rattle.mc_ladder.specs.Lanes.{bare_lanes, rule_lanes}
use Rattle.mc_ladder.specs.Routes.{ends_of, path_columns, path_lanes}

-- a path over the columns
abbrev pub route_lanes : Style → List ℕ → WorldState → PathView → List ℕ
route_lanes style columns world view =
    cells style Blank MARGIN
    ++ path_lanes style (length columns) (ends_of columns view) (path_columns columns world view.low.slot)

-- a path, and after it the line that is printed for it
abbrev pub path_row : Style → List ℕ → NameLists → WorldState → PathView → List ℕ
path_row style columns names world view = route_lanes style columns world view ++ view_line names view

-- the lines of the boxes, and a line after them
abbrev pub bare_row : FrameState → List ℕ → List ℕ
bare_row frame line = cells frame.style Blank MARGIN ++ bare_lanes frame.style (length frame.columns) ++ line

-- what is told of both ends of a path: who hears what, where it flows, and else from which turn the close came by which
-- each became closed
abbrev pub end_rows : FrameState → NameLists → (flowing : Bool) → List (Option ℕ) → PathView → List ℕ
end_rows frame names true whys view =
    bare_row frame (hearing_line names view.low) ++ bare_row frame (hearing_line names view.high)
end_rows frame names false whys view =
    bare_row frame (why_line names whys view.low) ++ bare_row frame (why_line names whys view.high)

abbrev pub path_rows : FrameState → NameLists → WorldState → List (Option ℕ) → PathView → List ℕ
path_rows frame names world whys view =
    path_row frame.style frame.columns names world view ++ end_rows frame names view.flowing whys view

-- the rule before them, with the number of the settle
abbrev pub titled_rule : FrameState → ℕ → List ℕ
titled_rule frame number =
    rule_lanes frame.style (length frame.columns) ++ 32 ∷ line_of (codes "settle" ∷ decimal number ∷ [])

-- the rule after them
abbrev pub rule_row : FrameState → List ℕ
rule_row frame = rule_lanes frame.style (length frame.columns) ++ 10 ∷ []

-- a settle of a world, with its number: these paths, each once, in their order. Why all slots are closed is told by a
-- list
abbrev pub settle_rows : FrameState → NameLists → WorldState → List (Option ℕ) → List PathView → (number : ℕ) → List ℕ
settle_rows frame names world whys views number =
    titled_rule frame number ++ flat_map (path_rows frame names world whys) views ++ rule_row frame
