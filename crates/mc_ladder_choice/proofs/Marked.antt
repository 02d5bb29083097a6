-- Marks that are set for numbers, one after another.
use Rattle.std.proofs.Common.{◌≡◌, ◌≢◌, ◌⊎◌, inl, inr, eq-eqb, ne_eqb, ◌<◌, ◌≤◌, ◌+◌, ◌==◌, ◌||◌, ◌∙◌, ◌++◌, ℕ, Bool, true, false, Option, None, Some, List, [], ◌∷◌, length, refl, ap, sym, append-nil, append_assoc, flat_map, take, subst, arith}
use Rattle.std.specs.List.{cons_option, list_any}
use Rattle.std.proofs.Math.ListN.{get_or, set}
use Rattle.std.proofs.lemmas.List.{get_or-set_other, get_or-set_same, length-set, same_lists}
use Rattle.std.proofs.lemmas.Bool.{cases_eq}
use Rattle.std.proofs.lemmas.List.Folds.{list_any-append}
use Rattle.std.proofs.lemmas.List.FromFn.{get_or-map-range_with_len, length-map-range_with_len, map-range_with_len_more}
use Rattle.std.proofs.lemmas.Grind.{common_steps}
use Rattle.std.specs.Prelude.{slice_index_or}
use Rattle.mc_view.specs.declared.PathView.{PathView}
use Rattle.mc_ladder_choice.specs.Closings.{AddsMarks, is_closing, marks_of, path_closings}

-- ---- none

pub unmarked_more : (count : ℕ) (marks next : List Bool) → marks ≡ marks_of count [] → next ≡ marks ++ false ∷ [] → next ≡ marks_of (count + 1) []
unmarked_more count marks next so_far is = is ∙ (ap (λ (l : List Bool). l ++ false ∷ []) so_far ∙ sym (map-range_with_len_more (is_closing []) 0 count count (omega arith)))

pub no_more : (marks : List Bool) → AddsMarks [] marks marks
no_more marks = λ count closings is. is ∙ ap (marks_of count) (sym (append-nil closings))

-- ---- one

long : (count : ℕ) (closings : List ℕ) → length (marks_of count closings) ≡ count
long count closings = length-map-range_with_len (is_closing closings) 0 count

mark_at : (count : ℕ) (closings : List ℕ) (k : ℕ) (d : Bool) → k < count → get_or (marks_of count closings) k d ≡ is_closing closings k
mark_at count closings k d inside = get_or-map-range_with_len (is_closing closings) 0 count k k d inside (omega arith)

or_true : (a : Bool) → (a || true) ≡ true
or_true true = refl
or_true false = refl

or_false : (a : Bool) → (a || false) ≡ a
or_false true = refl
or_false false = refl

own : (closings : List ℕ) (at : ℕ) → is_closing (closings ++ at ∷ []) at ≡ true
own closings at = list_any-append (λ o. o == at) closings (at ∷ []) ∙ (ap (λ (b : Bool). list_any (λ o. o == at) closings || (b || false)) (eq-eqb at at refl) ∙ or_true (list_any (λ o. o == at) closings))

other : (closings : List ℕ) (at k : ℕ) → k ≢ at → is_closing (closings ++ at ∷ []) k ≡ is_closing closings k
other closings at k apart = list_any-append (λ o. o == k) closings (at ∷ []) ∙ (ap (λ (b : Bool). list_any (λ o. o == k) closings || (b || false)) (ne_eqb at k (λ same. apart (sym same))) ∙ or_false (list_any (λ o. o == k) closings))

set_at : (at count k : ℕ) (closings : List ℕ) (old new : List Bool) (d : Bool) → length old ≡ count → at < count → k < count → new ≡ set old at true → old ≡ marks_of count closings → (k ≡ at) ⊎ (k ≢ at)
    → get_or new k d ≡ get_or (marks_of count (closings ++ at ∷ [])) k d
set_at at count k closings old new d longs inside within is so_far (inl same) =
    let own_now = own closings at in
    let hit = get_or-set_same old at true d (omega (arith, longs, inside)) in
    ap (λ (l : List Bool). get_or l k d) is ∙ (ap (λ (j : ℕ). get_or (set old at true) j d) same ∙ (hit ∙ (sym own_now ∙ (ap (is_closing (closings ++ at ∷ [])) (sym same) ∙ sym (mark_at count (closings ++ at ∷ []) k d within)))))
set_at at count k closings old new d longs inside within is so_far (inr apart) =
    ap (λ (l : List Bool). get_or l k d) is
    ∙ (get_or-set_other old at k true d apart
    ∙ (ap (λ (l : List Bool). get_or l k d) so_far
    ∙ (mark_at count closings k d within ∙ (sym (other closings at k apart) ∙ sym (mark_at count (closings ++ at ∷ []) k d within)))))

pub one_more : (at : ℕ) (old new : List Bool) → at < length old → new ≡ set old at true → AddsMarks (at ∷ []) old new
one_more at old new inside is = λ count closings so_far.
    let longs : length old ≡ count = ap length so_far ∙ long count closings in
    same_lists new (marks_of count (closings ++ at ∷ [])) (ap length is ∙ (length-set old at true ∙ (longs ∙ sym (long count (closings ++ at ∷ [])))))
    (λ k d within.
    let in_new : length new ≡ count = ap length is ∙ (length-set old at true ∙ longs) in
    set_at at count k closings old new d longs (omega (arith, inside, longs)) (omega (arith, within, in_new)) is so_far (cases_eq k at))

pub one_outside : (at : ℕ) (old : List Bool) → length old ≤ at → AddsMarks (at ∷ []) old old
one_outside at old outside = λ count closings so_far.
    let longs : length old ≡ count = ap length so_far ∙ long count closings in
    same_lists old (marks_of count (closings ++ at ∷ [])) (longs ∙ sym (long count (closings ++ at ∷ [])))
    (λ k d within.
    let inside : k < count = omega (arith, within, longs) in
    let apart : k ≢ at = omega (arith, within, outside) in
    ap (λ (l : List Bool). get_or l k d) so_far ∙ (mark_at count closings k d inside ∙ (sym (other closings at k apart) ∙ sym (mark_at count (closings ++ at ∷ []) k d inside))))

-- ---- more

pub both : (more others : List ℕ) (old next new : List Bool) → AddsMarks more old next → AddsMarks others next new → AddsMarks (more ++ others) old new
both more others old next new first then =
    λ count closings is. then count (closings ++ more) (first count closings is) ∙ ap (marks_of count) (append_assoc closings more others)

-- ---- those that paths name

-- of both ends of a path
ends : (low high : Option ℕ) (old next new : List Bool) → AddsMarks (cons_option low []) old next → AddsMarks (cons_option high []) next new → AddsMarks (cons_option low (cons_option high [])) old new
ends None high old next new first then = both [] (cons_option high []) old next new first then
ends (Some low) high old next new first then = both (low ∷ []) (cons_option high []) old next new first then

pub ends_marked : (whys : List (Option ℕ)) (view : PathView) (low high : Option ℕ) (old next new : List Bool) → low ≡ slice_index_or whys view.low.slot None → high ≡ slice_index_or whys view.high.slot None
    → AddsMarks (cons_option low []) old next → AddsMarks (cons_option high []) next new → AddsMarks (path_closings whys false view) old new
ends_marked whys view low high old next new is_low is_high first then =
    subst (λ (a : Option ℕ). AddsMarks (cons_option a (cons_option (slice_index_or whys view.high.slot None) [])) old new) is_low
    (subst (λ (b : Option ℕ). AddsMarks (cons_option low (cons_option b [])) old new) is_high (ends low high old next new first then))

-- of one path more
pub given_more : {X : Type 0} (f : X → List ℕ) (xs : List X) (i : ℕ) (x : X) (old so_far next : List Bool) → i < length xs → get_or xs i x ≡ x
    → AddsMarks (flat_map f (take i xs)) old so_far → AddsMarks (f x) so_far next → AddsMarks (flat_map f (take (i + 1) xs)) old next
given_more f xs i x old so_far next below one first then =
    let more : flat_map f (take i xs) ++ f x ≡ flat_map f (take (i + 1) xs) = grind (arith, common_steps) in
    subst (λ (l : List ℕ). AddsMarks l old next) more (both (flat_map f (take i xs)) (f x) old so_far next first then)

pub all_given : {X : Type 0} (f : X → List ℕ) (xs : List X) (i : ℕ) (old new : List Bool) → length xs ≤ i → AddsMarks (flat_map f (take i xs)) old new → AddsMarks (flat_map f xs) old new
all_given f xs i old new past now =
    let all : flat_map f (take i xs) ≡ flat_map f xs = grind (arith, common_steps) in
    subst (λ (l : List ℕ). AddsMarks l old new) all now
