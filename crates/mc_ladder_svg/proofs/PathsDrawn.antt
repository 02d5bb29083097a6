-- The paths of a settle: those that are drawn, and those that are left, are all.
use Rattle.std.proofs.Common.{◌≡◌, ◌<◌, ◌≤◌, ◌+◌, ◌++◌, ◌∙◌, ℕ, Option, List, ◌∷◌, drop, length, ap, sym, append_assoc, append-nil}
use Rattle.std.proofs.Math.ListN.{get_or}
use Rattle.std.proofs.lemmas.List.{drop_all, drop_more}
use Rattle.mc_model.specs.Worlds.{WorldState}
use Rattle.mc_text.specs.NameLists.{NameLists}
use Rattle.mc_view.specs.declared.PathView.{PathView}
use Rattle.mc_ladder_svg.specs.PathRows.{path_row}
use Rattle.mc_ladder_svg.specs.Settles.{paths_drawn}

-- a path more
pub path_more : (columns : List ℕ) (names : NameLists) (world : WorldState) (whys : List (Option ℕ)) (views : List PathView) (before : ℕ) (view : PathView) (drawn next whole : List ℕ) → before < length views → view ≡ get_or views before view
    → next ≡ drawn ++ path_row columns names world whys view before
    → drawn ++ paths_drawn columns names world whys before (drop before views) ≡ whole
    → next ++ paths_drawn columns names world whys (before + 1) (drop (before + 1) views) ≡ whole
path_more columns names world whys views before view drawn next whole below here is so_far =
    ap (λ (l : List ℕ). l ++ paths_drawn columns names world whys (before + 1) (drop (before + 1) views)) is
    ∙ (append_assoc drawn (path_row columns names world whys view before) (paths_drawn columns names world whys (before + 1) (drop (before + 1) views))
    ∙ (ap (λ (vs : List PathView). drawn ++ paths_drawn columns names world whys before vs) (ap (λ (v : PathView). v ∷ drop (before + 1) views) here ∙ sym (drop_more views before view below)) ∙ so_far))

-- after the last path all are drawn
pub all_paths : (columns : List ℕ) (names : NameLists) (world : WorldState) (whys : List (Option ℕ)) (views : List PathView) (before : ℕ) (drawn whole : List ℕ) → length views ≤ before
    → drawn ++ paths_drawn columns names world whys before (drop before views) ≡ whole → drawn ≡ whole
all_paths columns names world whys views before drawn whole past so_far =
    sym (append-nil drawn) ∙ (ap (λ (vs : List PathView). drawn ++ paths_drawn columns names world whys before vs) (sym (drop_all before views past)) ∙ so_far)
