-- Lists that a function is applied to, place by place.
use Rattle.std.proofs.Common.{◌≡◌, ℕ, zero, suc, ◌<◌, ◌+◌, ◌++◌, List, [], ◌∷◌, Some, length, map, replicate, take, slice_get, refl, sym, ◌∙◌, ap, arith}
use Rattle.std.proofs.lemmas.List.{map_more}
use Rattle.std.proofs.lemmas.Option.{get_or_from_slice_get, slice_get_within}
use Rattle.mc_team.proofs.Lists.{one_of}

-- ---- the first elements

-- a number more of a list that a function is applied to
pub map_more_at : {X Y : Type 0} (f : X → Y) (xs : List X) (i : ℕ) (x : X) → slice_get xs i ≡ Some x → map f (take (i + 1) xs) ≡ map f (take i xs) ++ f x ∷ []
map_more_at {X} {Y} f xs i x at =
    let below : i < length xs = slice_get_within xs i x at in
    map_more f xs i x below ∙ ap (λ (y : X). map f (take i xs) ++ f y ∷ []) (get_or_from_slice_get xs i x x at)

-- ---- what stands in a list that a function was applied to

-- it comes of an element of the list
pub map_at : {A B : Type 0} (f : A → B) (xs : List A) (i : ℕ) (y : B) → slice_get (map f xs) i ≡ Some y → (x : A) × (slice_get xs i ≡ Some x) × (f x ≡ y)
map_at f [] i y e = cc
map_at f (x ∷ xs) zero y e = (x, refl, cc)
map_at f (x ∷ xs) (suc i) y e = map_at f xs i y e

-- and each element gives one
pub get_map : {A B : Type 0} (f : A → B) (xs : List A) (i : ℕ) (x : A) → slice_get xs i ≡ Some x → slice_get (map f xs) i ≡ Some (f x)
get_map f [] i x e = cc
get_map f (y ∷ ys) zero x e = let same : y ≡ x = cc in ap (λ t. Some (f t)) same
get_map f (y ∷ ys) (suc i) x e = get_map f ys i x e

-- ---- functions that see the same

-- two functions of two lists
pub map_alike : {A B C : Type 0} (f : A → C) (g : B → C) (xs : List A) (ys : List B) → length ys ≡ length xs
    → ((i : ℕ) (a : A) (b : B) → slice_get xs i ≡ Some a → slice_get ys i ≡ Some b → f a ≡ g b) → map f xs ≡ map g ys
map_alike f g [] [] count same = refl
map_alike f g [] (y ∷ ys) count same = absurd (omega arith)
map_alike f g (x ∷ xs) [] count same = absurd (omega arith)
map_alike f g (x ∷ xs) (y ∷ ys) count same =
    ap (λ t. t ∷ map f xs) (same 0 x y refl refl) ∙ ap (λ l. g y ∷ l) (map_alike f g xs ys (omega arith) (λ i a b p q. same (suc i) a b p q))

-- one function of two lists
pub maps_same : {X Y : Type 0} (f : X → Y) (xs ys : List X) → length ys ≡ length xs → ((i : ℕ) (x y : X) → slice_get xs i ≡ Some x → slice_get ys i ≡ Some y → f y ≡ f x) → map f ys ≡ map f xs
maps_same f xs ys long same = sym (map_alike f f xs ys long (λ i x y at_x at_y. sym (same i x y at_x at_y)))

-- two functions of one list
pub map_same : {X Y : Type 0} (f g : X → Y) (xs : List X) → ((i : ℕ) (x : X) → slice_get xs i ≡ Some x → f x ≡ g x) → map f xs ≡ map g xs
map_same f g xs same = map_alike f g xs xs refl (λ i x y at_x at_y. same i x at_x ∙ ap g (one_of (slice_get xs i) x y at_x at_y))

-- a function that gives the same everywhere
map_constant : {X Y : Type 0} (xs : List X) (y : Y) → map (λ (x : X). y) xs ≡ replicate (length xs) y
map_constant [] y = refl
map_constant (x ∷ xs) y = ap (λ l. y ∷ l) (map_constant xs y)

-- or that sees the same everywhere
pub map_one : {X Y : Type 0} (f : X → Y) (xs : List X) (y : Y) (n : ℕ) → length xs ≡ n → ((i : ℕ) (x : X) → slice_get xs i ≡ Some x → f x ≡ y) → map f xs ≡ replicate n y
map_one {X} {Y} f xs y n long same = map_same f (λ (x : X). y) xs same ∙ (map_constant xs y ∙ ap (λ (k : ℕ). replicate k y) long)
