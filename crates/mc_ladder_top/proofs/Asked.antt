-- Names that are asked for, one after the other.
use Rattle.std.proofs.Common.{◌≡◌, ◌<◌, ◌+◌, ◌∙◌, ℕ, Bool, Bor, false, List, [], ◌∷◌, ◌++◌, None, Some, ap, drop, filter_map, length, map, not, refl, sym, true}
use Rattle.std.specs.Prelude.{is_none, is_some}
use Rattle.std.specs.List.{cons_option}
use Rattle.std.specs.declared.option.Option.{Option}
use Rattle.std.proofs.Math.ListN.{get_or}
use Rattle.std.proofs.lemmas.List.{drop_more}
use Rattle.mc_text.specs.NameLists.{NameLists}
use Rattle.mc_ladder_top.specs.Requests.{box_named, unknown_in}

-- the bytes of names
abbrev pub bytes_of : List (Bor (List ℕ)) → List (List ℕ)
bytes_of names = map (λ name. name.now) names

-- what isn't none
pub is_known : (number : Option ℕ) (none : Bool) → is_some number ≡ not none → none ≡ false → is_none number ≡ false
is_known (Some who) none some is = refl
is_known None none some is = let no_more : false ≡ true = some ∙ ap not is in cc

-- a name that a box has isn't the one that is looked for
known_first : (names : NameLists) (name : List ℕ) (wanted : List (List ℕ)) → is_none (box_named names name) ≡ false → unknown_in names (name ∷ wanted) ≡ unknown_in names wanted
known_first names name wanted known = rw known refl

pub known_more : (names : NameLists) (wanted : List (Bor (List ℕ))) (i : ℕ) (name : Bor (List ℕ)) (whole : Option (List ℕ)) → i < length wanted
    → is_none (box_named names (get_or wanted i name).now) ≡ false → unknown_in names (bytes_of (drop i wanted)) ≡ whole → unknown_in names (bytes_of (drop (i + 1) wanted)) ≡ whole
known_more names wanted i name whole below known now =
    sym (known_first names (get_or wanted i name).now (bytes_of (drop (i + 1) wanted)) known)
    ∙ (ap (λ l. unknown_in names (bytes_of l)) (sym (drop_more wanted i name below)) ∙ now)

-- one number more, if there is one
one_number : (number : Option ℕ) (old rest : List ℕ) → (old ++ cons_option number []) ++ rest ≡ old ++ cons_option number rest
one_number None [] rest = refl
one_number (Some who) [] rest = refl
one_number number (first ∷ old) rest = ap (λ l. first ∷ l) (one_number number old rest)

pub named_more : (names : NameLists) (wanted : List (Bor (List ℕ))) (i : ℕ) (name : Bor (List ℕ)) (old new whole : List ℕ) → i < length wanted
    → new ≡ old ++ cons_option (box_named names (get_or wanted i name).now) []
    → old ++ filter_map (λ n. box_named names n) (bytes_of (drop i wanted)) ≡ whole → new ++ filter_map (λ n. box_named names n) (bytes_of (drop (i + 1) wanted)) ≡ whole
named_more names wanted i name old new whole below is now =
    ap (λ l. l ++ filter_map (λ n. box_named names n) (bytes_of (drop (i + 1) wanted))) is
    ∙ (one_number (box_named names (get_or wanted i name).now) old (filter_map (λ n. box_named names n) (bytes_of (drop (i + 1) wanted)))
    ∙ (ap (λ l. old ++ filter_map (λ n. box_named names n) (bytes_of l)) (sym (drop_more wanted i name below)) ∙ now))
