-- What is printed for a settle in one line: counts of the paths that are shown.
use Rattle.std.specs.Prelude.{ℕ, ◌+◌, Bool, true, false, not, cond, count_by, is_some, List, [], ◌∷◌, Option, codes, sum_by}
use Rattle.std.specs.Fmt.{decimal}
use Rattle.mc_view.specs.declared.PathView.{PathView}
use Rattle.mc_table.specs.Words.{line_of}

-- how many paths flow
abbrev pub flowing_views : List PathView → ℕ
flowing_views views = count_by (λ view. view.flowing) views

-- how many don't
abbrev pub closed_views : List PathView → ℕ
closed_views views = count_by (λ view. not view.flowing) views

-- how many of the two ends of a path hear a codec, by whether it flows and by what each hears: none where it doesn't
abbrev pub heard_ends : Bool → (low high : Option ℕ) → ℕ
heard_ends true low high = cond (is_some low) 1 0 + cond (is_some high) 1 0
heard_ends false low high = 0

-- how many ends of all paths hear a codec
abbrev pub hearing_ends : List PathView → ℕ
hearing_ends views = sum_by (λ view. heard_ends view.flowing view.low.hears view.high.hears) views

-- the line of a settle with these counts: of the paths that flow and are closed, and of the ends that hear a codec
abbrev pub summary_line : (number flowing closed heard : ℕ) → List ℕ
summary_line number flowing closed heard = line_of (
    codes "settle"
    ∷ decimal number
    ∷ codes "flowing"
    ∷ decimal flowing
    ∷ codes "closed"
    ∷ decimal closed
    ∷ codes "heard"
    ∷ decimal heard
    ∷ [])

-- a settle by its number, with the counts of what is shown
abbrev pub print_summary : ℕ → List PathView → List ℕ
print_summary number views = summary_line number (flowing_views views) (closed_views views) (hearing_ends views)
