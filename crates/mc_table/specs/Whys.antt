-- What is printed of why paths closed, for the paths that are shown.
use Rattle.std.specs.Prelude.{ℕ, Bool, true, false, List, [], ◌∷◌, ◌++◌, codes, slice_index_or, Option, None, Some}
use Rattle.std.specs.Fmt.{decimal}
use Rattle.std.specs.List.{flat_map}
use Rattle.mc_view.specs.declared.EndView.{EndView}
use Rattle.mc_view.specs.declared.PathView.{PathView}
use Rattle.mc_text.specs.NameLists.{NameLists}
use Rattle.mc_table.specs.Shown.{end_word}
use Rattle.mc_table.specs.Words.{line_of}

-- a turn by its number, or that there was none
abbrev pub why_word : Option ℕ → List ℕ
why_word None = codes "never"
why_word (Some at) = decimal at

-- why an end's slot is closed, by the list of why all slots are
abbrev pub why_line : NameLists → List (Option ℕ) → EndView → List ℕ
why_line names whys end = line_of (codes "why" ∷ end_word names end ∷ why_word (slice_index_or whys end.slot None) ∷ [])

-- both ends of a path, where it doesn't flow
abbrev pub why_lines : Bool → NameLists → List (Option ℕ) → PathView → List ℕ
why_lines true names whys view = []
why_lines false names whys view = why_line names whys view.low ++ why_line names whys view.high

-- the ends of each closed path that is shown, in their order
abbrev pub print_whys : NameLists → List PathView → List (Option ℕ) → List ℕ
print_whys names views whys = flat_map (λ view. why_lines view.flowing names whys view) views
