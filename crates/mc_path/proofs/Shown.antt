-- What is shown of all paths, slot by slot: each slot that is a path's lower end has that path.
use Rattle.std.proofs.Common.{◌≡◌, ◌<◌, ◌≤◌, ◌+◌, ◌++◌, ℕ, Option, Some, None, List, [], ◌∷◌, drop, map, refl, ap, sym, ◌∙◌}
use Rattle.std.specs.List.{enumerate_from, filter_map}
use Rattle.std.specs.Option.{option_map}
use Rattle.std.proofs.Math.ListN.{get_or}
use Rattle.std.proofs.lemmas.List.{append-nil, append_assoc, drop_all, drop_more}
use Rattle.mc_view.specs.declared.PathView.{PathView}
use Rattle.mc_model.specs.Paths.{PathEnds, path_from, paths}
use Rattle.mc_model.specs.Worlds.{WorldState, places, slot_count}
use Rattle.mc_path.specs.Views.{view_of}

-- ---- a list as it is walked

-- what is shown of what there is for these slots, from a number on
abbrev shown_by : (PathEnds → PathView) → (ℕ → Option PathEnds) → ℕ → List (ℕ × ℕ) → List PathView
shown_by view f first slots = map view (filter_map (λ entry. f entry.0) (enumerate_from first slots))

-- nothing of a slot that has no path
none_first : (view : PathEnds → PathView) (f : ℕ → Option PathEnds) (s : ℕ) (slot : ℕ × ℕ) (slots : List (ℕ × ℕ)) (found : Option PathEnds)
    → f s ≡ found → option_map view found ≡ None → shown_by view f s (slot ∷ slots) ≡ shown_by view f (s + 1) slots
none_first view f s slot slots None is none = rw (is) refl
none_first view f s slot slots (Some path) is none = absurd (cc)

-- and of one that has one that path, before what is shown of the slots after it
some_first : (view : PathEnds → PathView) (f : ℕ → Option PathEnds) (s : ℕ) (slot : ℕ × ℕ) (slots : List (ℕ × ℕ)) (shown : PathView) (found : Option PathEnds)
    → f s ≡ found → option_map view found ≡ Some shown → shown_by view f s (slot ∷ slots) ≡ shown ∷ shown_by view f (s + 1) slots
some_first view f s slot slots shown None is some = absurd (cc)
some_first view f s slot slots shown (Some path) is some = let same : view path ≡ shown = cc in rw (is, same) refl

-- ---- the paths of a world

-- what is still to be shown from a slot on
abbrev pub still_shown : WorldState → ℕ → List PathView
still_shown world s = shown_by (view_of world) (path_from world) s (drop s (places world))

-- the slots from one on are that one and those after it
from_slot : (world : WorldState) (s : ℕ) → s < slot_count world → still_shown world s ≡ shown_by (view_of world) (path_from world) s (get_or (places world) s (0, 0) ∷ drop (s + 1) (places world))
from_slot world s inside = ap (shown_by (view_of world) (path_from world) s) (drop_more (places world) s (0, 0) inside)

-- what was shown, with all that is still to be shown, is all paths
abbrev pub ShownTo : WorldState → ℕ → List PathView → Type 0
ShownTo world s views = views ++ still_shown world s ≡ map (view_of world) (paths world)

-- a slot with no path leaves it so
pub shown_none : (world : WorldState) (s : ℕ) (views next : List PathView) → s < slot_count world → option_map (view_of world) (path_from world s) ≡ None → next ≡ views
    → ShownTo world s views → ShownTo world (s + 1) next
shown_none world s views next inside none is so_far =
    let after : still_shown world s ≡ still_shown world (s + 1) =
    from_slot world s inside ∙ none_first (view_of world) (path_from world) s (get_or (places world) s (0, 0)) (drop (s + 1) (places world)) (path_from world s) refl none in
    ap (λ (shown : List PathView). shown ++ still_shown world (s + 1)) is ∙ (ap (λ (more : List PathView). views ++ more) (sym after) ∙ so_far)

-- and the path of one that has one comes after those so far
pub shown_next : (world : WorldState) (s : ℕ) (views next : List PathView) (view : PathView) → s < slot_count world → option_map (view_of world) (path_from world s) ≡ Some view
    → next ≡ views ++ view ∷ [] → ShownTo world s views → ShownTo world (s + 1) next
shown_next world s views next view inside some is so_far =
    let after : still_shown world s ≡ view ∷ still_shown world (s + 1) =
    from_slot world s inside ∙ some_first (view_of world) (path_from world) s (get_or (places world) s (0, 0)) (drop (s + 1) (places world)) view (path_from world s) refl some in
    ap (λ (shown : List PathView). shown ++ still_shown world (s + 1)) is
    ∙ (append_assoc views (view ∷ []) (still_shown world (s + 1)) ∙ (ap (λ (more : List PathView). views ++ more) (sym after) ∙ so_far))

-- after the last slot nothing is still to be shown
pub shown_all : (world : WorldState) (s : ℕ) (views : List PathView) → slot_count world ≤ s → ShownTo world s views → views ≡ map (view_of world) (paths world)
shown_all world s views past so_far =
    let none : still_shown world s ≡ [] = ap (shown_by (view_of world) (path_from world) s) (drop_all s (places world) past) in
    sym (append-nil views) ∙ (ap (λ (more : List PathView). views ++ more) (sym none) ∙ so_far)
