-- The row of an id among the rows of a parse, when rows are added, changed and taken out.
use Rattle.std.proofs.Common.{◌≡◌, ◌∙◌, ℕ, ◌||◌, Bool, cond, true, false, refl, sym, ap, List, [], ◌∷◌, ◌++◌, Option, Some, None, bytes_eq, find, unwrap_or, true≢false}
use Rattle.std.proofs.lemmas.Slice.Eq.{bytes_eq-Decides}
use Rattle.std.specs.Option.{option_map_or}
use Rattle.clap.specs.Walk.{Row, Text, at_row, count_of, first_as_count, has_row, more_values, new_count, stronger, with_count, with_values, without}
use Rattle.clap.specs.Matches.{count_text}
use Rattle.clap.specs.declared.builder.value_parser.Reading.{Reading}
use Rattle.clap.specs.declared.parser.matches.ValueSource.{ValueSource}

-- the first row of an id
abbrev pub row_at : Text → List Row → Option Row
row_at id rows = find (λ r. bytes_eq r.id id) rows

-- something is not nothing
some_none : {X : Type 0} (x : X) → Some x ≡ None → ⊥
some_none x e = let bad : ◌≡◌ {A = Option _} (Some x) None = e in cc

-- an id without a row has none by the test
pub no_row : (id : Text) (rows : List Row) → row_at id rows ≡ None → has_row id rows ≡ false
no_row id [] none = refl
no_row id (r ∷ rs) none = go (bytes_eq r.id id) (no_row id rs) none
  where
    go : (b : Bool) → (row_at id rs ≡ None → has_row id rs ≡ false) → cond b (Some r) (row_at id rs) ≡ None → (b || has_row id rs) ≡ false
    go true rest e = absurd (some_none r e)
    go false rest e = rest e

-- and the other way round
pub row_missing : (id : Text) (rows : List Row) → has_row id rows ≡ false → row_at id rows ≡ None
row_missing id [] none = refl
row_missing id (r ∷ rs) none = go (bytes_eq r.id id) (row_missing id rs) none
  where
    go : (b : Bool) → (has_row id rs ≡ false → row_at id rs ≡ None) → (b || has_row id rs) ≡ false → cond b (Some r) (row_at id rs) ≡ None
    go true rest e = absurd (true≢false e)
    go false rest e = rest e

-- where the id has no row, nothing is taken out
pub same_without : (id : Text) (rows : List Row) → row_at id rows ≡ None → without id rows ≡ rows
same_without id [] none = refl
same_without id (r ∷ rs) none = go (bytes_eq r.id id) (same_without id rs) none
  where
    go : (b : Bool) → (row_at id rs ≡ None → without id rs ≡ rs) → cond b (Some r) (row_at id rs) ≡ None → cond b ([] ++ rs) (r ∷ without id rs) ≡ r ∷ rs
    go true rest e = absurd (some_none r e)
    go false rest e = ap (λ xs. r ∷ xs) (rest e)

-- and what is added is its row
pub added_row : (id : Text) (change : Row → List Row) (new : Row) (rows : List Row) → bytes_eq new.id id ≡ true → row_at id rows ≡ None
    → row_at id (at_row id change (new ∷ []) rows) ≡ Some new
added_row id change new [] own none = rw own refl
added_row id change new (r ∷ rs) own none = go (added_row id change new rs own) (bytes_eq r.id id) refl
  where
    go : (row_at id rs ≡ None → row_at id (at_row id change (new ∷ []) rs) ≡ Some new) → (b : Bool) → bytes_eq r.id id ≡ b → row_at id (at_row id change (new ∷ []) (r ∷ rs)) ≡ Some new
    go more true e = absurd (some_none r (sym (ap (λ b. cond b (Some r) (row_at id rs)) e) ∙ none))
    go more false e =
        let rest : row_at id rs ≡ None = sym (ap (λ b. cond b (Some r) (row_at id rs)) e) ∙ none in
        ap (λ b. row_at id (cond b (change r ++ rs) (r ∷ at_row id change (new ∷ []) rs))) e ∙ ap (λ b. cond b (Some r) (row_at id (at_row id change (new ∷ []) rs))) e ∙ more rest

-- a row that is changed for one id is none of another's
abbrev pub KeepsOthers : (id other : Text) → (Row → List Row) → Type 0
KeepsOthers id other change = (r : Row) (rest : List Row) → bytes_eq r.id id ≡ true → row_at other (change r ++ rest) ≡ row_at other rest

-- the row of another id stays
pub other_row : (id other : Text) (change : Row → List Row) (missing rows : List Row) → bytes_eq id other ≡ false → KeepsOthers id other change → row_at other missing ≡ None
    → row_at other (at_row id change missing rows) ≡ row_at other rows
other_row id other change missing [] apart keeps none = none
other_row id other change missing (r ∷ rs) apart keeps none = go (other_row id other change missing rs apart keeps none) (bytes_eq r.id id) refl
  where
    go : row_at other (at_row id change missing rs) ≡ row_at other rs → (b : Bool) → bytes_eq r.id id ≡ b → row_at other (cond b (change r ++ rs) (r ∷ at_row id change missing rs)) ≡ row_at other (r ∷ rs)
    go more true e =
        let is : r.id ≡ id = (bytes_eq-Decides r.id id).0 e in
        let not_it : bytes_eq r.id other ≡ false = ap (λ (t : Text). bytes_eq t other) is ∙ apart in
        keeps r rs e ∙ sym (ap (λ b. cond b (Some r) (row_at other rs)) not_it)
    go more false e = ap (λ o. cond (bytes_eq r.id other) (Some r) o) more

-- a row that keeps its id is no other's
named_apart : (id other : Text) (r new : Row) (rest : List Row) → bytes_eq id other ≡ false → bytes_eq r.id id ≡ true → new.id ≡ r.id → row_at other (new ∷ rest) ≡ row_at other rest
named_apart id other r new rest apart own same =
    let is : new.id ≡ id = same ∙ (bytes_eq-Decides r.id id).0 own in
    ap (λ b. cond b (Some new) (row_at other rest)) (ap (λ (t : Text). bytes_eq t other) is ∙ apart)

-- the row of another id stays where a row is taken out, where values are added, and where a count is set
pub other_without : (id other : Text) (rows : List Row) → bytes_eq id other ≡ false → row_at other (without id rows) ≡ row_at other rows
other_without id other rows apart = other_row id other (λ _. []) [] rows apart (λ r rest own. refl) refl

pub other_values : (id other : Text) (how : Reading) (s : ValueSource) (values : List Text) (rows : List Row) → bytes_eq id other ≡ false
    → row_at other (with_values id how s values rows) ≡ row_at other rows
other_values id other how s values rows apart = other_row id other (more_values s values) _ rows apart (λ r rest own. named_apart id other r _ rest apart own refl)
    (ap (λ (b : Bool). cond b (Some (record { id = id; values = values; count = None; source = Some s; reading = how })) None) apart)

-- the row of a first count, and of another one
abbrev first_counted : Text → Reading → ValueSource → ℕ → Row
first_counted id how s n = record { id = id; values = count_text n ∷ []; count = Some n; source = Some s; reading = how }

abbrev counted_row : ValueSource → ℕ → Row → Row
counted_row s n r = record r { values = r.values ++ count_text n ∷ []; count = Some n; source = Some (stronger r.source s) }

pub other_count : (id other : Text) (how : Reading) (s : ValueSource) (n : ℕ) (rows : List Row) → bytes_eq id other ≡ false
    → row_at other (with_count id how s n rows) ≡ row_at other rows
other_count id other how s n rows apart = other_row id other (new_count s n) _ rows apart (λ r rest own. named_apart id other r _ rest apart own refl)
    (ap (λ (b : Bool). cond b (Some (first_counted id how s n)) None) apart)

-- the count of a row
abbrev pub count_in : Option Row → ℕ
count_in row = option_map_or (λ r. unwrap_or r.count (first_as_count r.values)) row 0

-- a count that is set is the count
pub count_set : (id : Text) (how : Reading) (s : ValueSource) (n : ℕ) (rows : List Row) → bytes_eq id id ≡ true → count_of id (with_count id how s n rows) ≡ n
count_set id how s n [] own = ap (λ b. count_in (cond b (Some (first_counted id how s n)) None)) own
count_set id how s n (r ∷ rs) own = go (count_set id how s n rs own) (bytes_eq r.id id) refl
  where
    go : count_of id (with_count id how s n rs) ≡ n → (b : Bool) → bytes_eq r.id id ≡ b → count_in (row_at id (cond b (new_count s n r ++ rs) (r ∷ with_count id how s n rs))) ≡ n
    go more true e = ap (λ b. count_in (cond b (Some (counted_row s n r)) (row_at id rs))) e
    go more false e = ap (λ b. count_in (cond b (Some r) (row_at id (with_count id how s n rs)))) e ∙ more
