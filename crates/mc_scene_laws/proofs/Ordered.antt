-- Boxes in the order of their numbers: each name is found at its place, and is new before it.
use Rattle.std.proofs.Common.{◌≡◌, ℕ, suc, ◌+◌, ◌<◌, ◌≤◌, Bool, true, false, nat_lt, Some, None, List, [], ◌∷◌, ◌++◌, length, length-append, map, position, refl, ap, ◌∙◌, arith}
use Rattle.std.proofs.lemmas.List.{length-map, map-append}
use Rattle.std.proofs.lemmas.Slice.Eq.{bytes_eq-Decides}
use Rattle.std.specs.List.{AllByRecursion, position_or_len}
use Rattle.std.specs.Str.{bytes_eq}
use Rattle.mc_text.specs.NameLists.{place_of}
use Rattle.mc_scene_laws.specs.Posts.{Post, post_name}
use Rattle.mc_scene_laws.proofs.Names.{IsPlaced, few_keys, post_key, same_key}

-- the boxes are in order, and none has a number below this one
abbrev pub AreOrdered : ℕ → List Post → Type 0
AreOrdered low [] = Unit {0}
AreOrdered low (post ∷ posts) = (low ≤ post_key post) × IsPlaced post × AreOrdered (post_key post + 1) posts

-- a box after others
pub is_placed_in : (low : ℕ) (done : List Post) (post : Post) (rest : List Post) → AreOrdered low (done ++ post ∷ rest) → (low ≤ post_key post) × IsPlaced post
is_placed_in low [] post rest ordered = (ordered.0, ordered.1)
is_placed_in low (first ∷ done) post rest ordered =
    let behind = is_placed_in (post_key first + 1) done post rest ordered.2 in
    let low_one = ordered.0 in
    let low_two = behind.0 in
    (omega arith, behind.1)

other_name : (post other : Post) → IsPlaced post → IsPlaced other → post_key other < post_key post → bytes_eq (post_name post) (post_name other) ≡ false
other_name post other placed too less = by (bytes_eq (post_name post) (post_name other)) refl
  where
    by : (b : Bool) → bytes_eq (post_name post) (post_name other) ≡ b → bytes_eq (post_name post) (post_name other) ≡ false
    by false e = e
    by true e =
        let same = same_key post other placed too ((bytes_eq-Decides (post_name post) (post_name other)).0 e) in
        absurd (omega arith)

-- no earlier box has its name
pub names_before : (low : ℕ) (done : List Post) (post : Post) (rest : List Post) → AreOrdered low (done ++ post ∷ rest) → AllByRecursion (λ name. bytes_eq (post_name post) name ≡ false) (map post_name done)
names_before low [] post rest ordered = tt
names_before low (first ∷ done) post rest ordered =
    let behind = is_placed_in (post_key first + 1) done post rest ordered.2 in
    let later = behind.0 in
    (other_name post first behind.1 ordered.1 (omega arith), names_before (post_key first + 1) done post rest ordered.2)

-- ---- places

one_suc : (n : ℕ) → 1 + n ≡ suc n
one_suc n = omega arith

first_place : (p : List ℕ → Bool) (xs ys : List (List ℕ)) (x : List ℕ) → AllByRecursion (λ y. p y ≡ false) xs → p x ≡ true → position_or_len p (xs ++ x ∷ ys) ≡ length xs
first_place p [] ys x none here = rw here refl
first_place p (y ∷ xs) ys x none here = rw (none.0, first_place p xs ys x none.1 here) (one_suc (length xs))

no_place : (p : List ℕ → Bool) (xs : List (List ℕ)) → AllByRecursion (λ y. p y ≡ false) xs → position_or_len p xs ≡ length xs
no_place p [] none = refl
no_place p (y ∷ xs) none = rw (none.0, no_place p xs none.1) (one_suc (length xs))

found_there : (p : List ℕ → Bool) (xs ys : List (List ℕ)) (x : List ℕ) → AllByRecursion (λ y. p y ≡ false) xs → p x ≡ true → position p (xs ++ x ∷ ys) ≡ Some (length xs)
found_there p xs ys x none here =
    let within : nat_lt (length xs) (length (xs ++ x ∷ ys)) ≡ true = grind (arith, length-append xs (x ∷ ys)) in
    rw (first_place p xs ys x none here, within) refl

found_nowhere : (p : List ℕ → Bool) (xs : List (List ℕ)) → AllByRecursion (λ y. p y ≡ false) xs → position p xs ≡ None
found_nowhere p xs none =
    let past : nat_lt (length xs) (length xs) ≡ false = grind arith in
    rw (no_place p xs none, past) refl

-- a box's name is new after those before it
pub post_is_new : (low : ℕ) (done : List Post) (post : Post) (rest : List Post) → AreOrdered low (done ++ post ∷ rest) → place_of (map post_name done) (post_name post) ≡ None
post_is_new low done post rest ordered = found_nowhere (bytes_eq (post_name post)) (map post_name done) (names_before low done post rest ordered)

-- and is found at its place among all
pub post_is_found : (low : ℕ) (done : List Post) (post : Post) (rest : List Post) → AreOrdered low (done ++ post ∷ rest) → place_of (map post_name (done ++ post ∷ rest)) (post_name post) ≡ Some (length done)
post_is_found low done post rest ordered =
    let itself : bytes_eq (post_name post) (post_name post) ≡ true = (bytes_eq-Decides (post_name post) (post_name post)).1 refl in
    ap (λ (names : List (List ℕ)). place_of names (post_name post)) (map-append post_name done (post ∷ rest))
    ∙ found_there (bytes_eq (post_name post)) (map post_name done) (map post_name rest) (post_name post) (names_before low done post rest ordered) itself
    ∙ ap (λ (n : ℕ). Some n) (length-map done post_name)

-- there are few boxes
pub few_posts : (low : ℕ) (posts : List Post) → low ≤ 250 → AreOrdered low posts → low + length posts ≤ 250
few_posts low [] within ordered = omega arith
few_posts low (post ∷ posts) within ordered =
    let key = few_keys post ordered.1 in
    let behind = few_posts (post_key post + 1) posts (omega arith) ordered.2 in
    let least = ordered.0 in
    omega arith

-- those before others are in order, too
pub ordered_before : (low : ℕ) (done rest : List Post) → AreOrdered low (done ++ rest) → AreOrdered low done
ordered_before low [] rest ordered = tt
ordered_before low (post ∷ done) rest ordered = (ordered.0, ordered.1, ordered_before (post_key post + 1) done rest ordered.2)
