-- What is counted of the paths of worlds that are alike, where their goals decide these.
use Rattle.std.proofs.Common.{◌≡◌, ◌+◌, ◌∷◌, [], ℕ, not, cond, List, Option, refl, ap, sym, ◌∙◌}
use Rattle.std.specs.List.{AllByRecursion, sum_by}
use Rattle.std.proofs.lemmas.List.Elements.{recursion_from_All}
use Rattle.std.proofs.lemmas.List.Sums.{sum_by-cons}
use Rattle.mc_slot.specs.declared.State.{State}
use Rattle.mc_model.specs.PathTable.{high_hears, low_hears, path_state}
use Rattle.mc_model.specs.Paths.{PathEnds, paths}
use Rattle.mc_model.specs.Worlds.{WorldState}
use Rattle.mc_path.specs.Views.{is_flowing}
use Rattle.mc_settings.proofs.Agreeing.{decided_paths_agree}
use Rattle.mc_settings.proofs.SamePaths.{alike_have_same_paths}
use Rattle.mc_settings.specs.Alike.{AreAlike}
use Rattle.mc_settings.specs.Batches.{AreDecided}
use Rattle.mc_table.specs.Summaries.{heard_ends, summary_line}
use Rattle.mc_top.specs.Summaries.{closed_paths, flowing_paths, hearing_path_ends, summary_text}

-- a sum of terms that are equal where this holds
sums_same : {X : Type 0} (P : X → Type 0) (f g : X → ℕ) → ((x : X) → P x → f x ≡ g x) → (xs : List X) → AllByRecursion P xs → sum_by f xs ≡ sum_by g xs
sums_same P f g same [] all = refl
sums_same P f g same (x ∷ xs) all =
    sum_by-cons f x xs
    ∙ (ap (λ (n : ℕ). n + sum_by f xs) (same x all.0)
    ∙ (ap (λ (n : ℕ). g x + n) (sums_same P f g same xs all.1) ∙ sym (sum_by-cons g x xs)))

-- the line of a settle
pub summary_same : (number : ℕ) (world other : WorldState) → AreAlike world other → AreDecided world → summary_text number world ≡ summary_text number other
summary_same number world other alike decided =
    let same = alike_have_same_paths world other alike in
    let all = recursion_from_All (λ (path : PathEnds). path_state world path ≡ path_state other path) (paths world) (decided_paths_agree world other alike decided) in
    let flowing : flowing_paths world ≡ flowing_paths other =
    sums_same (λ (path : PathEnds). path_state world path ≡ path_state other path) (λ (path : PathEnds). cond (is_flowing (path_state world path)) 1 0) (λ (path : PathEnds). cond (is_flowing (path_state other path)) 1 0)
    (λ path here. ap (λ (state : State). cond (is_flowing state) 1 0) here) (paths world) all
    ∙ ap (λ (ends : List PathEnds). sum_by (λ (path : PathEnds). cond (is_flowing (path_state other path)) 1 0) ends) same.paths in
    let closed : closed_paths world ≡ closed_paths other =
    sums_same (λ (path : PathEnds). path_state world path ≡ path_state other path) (λ (path : PathEnds). cond (not (is_flowing (path_state world path))) 1 0) (λ (path : PathEnds). cond (not (is_flowing (path_state other path))) 1 0)
    (λ path here. ap (λ (state : State). cond (not (is_flowing state)) 1 0) here) (paths world) all
    ∙ ap (λ (ends : List PathEnds). sum_by (λ (path : PathEnds). cond (not (is_flowing (path_state other path))) 1 0) ends) same.paths in
    let heard : hearing_path_ends world ≡ hearing_path_ends other =
    sums_same (λ (path : PathEnds). path_state world path ≡ path_state other path)
    (λ (path : PathEnds). heard_ends (is_flowing (path_state world path)) (low_hears world path) (high_hears world path))
    (λ (path : PathEnds). heard_ends (is_flowing (path_state other path)) (low_hears other path) (high_hears other path))
    (λ path here.
    ap (λ (state : State). heard_ends (is_flowing state) (low_hears world path) (high_hears world path)) here
    ∙ (ap (λ (codec : Option ℕ). heard_ends (is_flowing (path_state other path)) codec (high_hears world path)) (same.low_hears path)
    ∙ ap (λ (codec : Option ℕ). heard_ends (is_flowing (path_state other path)) (low_hears other path) codec) (same.high_hears path))) (paths world) all
    ∙ ap (λ (ends : List PathEnds). sum_by (λ (path : PathEnds). heard_ends (is_flowing (path_state other path)) (low_hears other path) (high_hears other path)) ends) same.paths in
    ap (λ (n : ℕ). summary_line number n (closed_paths world) (hearing_path_ends world)) flowing
    ∙ (ap (λ (n : ℕ). summary_line number (flowing_paths other) n (hearing_path_ends world)) closed
    ∙ ap (λ (n : ℕ). summary_line number (flowing_paths other) (closed_paths other) n) heard)
