-- Lists of which the same is seen.
use Rattle.std.proofs.Common.{◌≡◌, ◌+◌, ◌<◌, ◌≤◌, ℕ, List, [], ◌∷◌, ◌++◌, length, map, take, ap, sym, ◌∙◌, take_all, Bool, true, false, MatchBool}
use Rattle.std.proofs.lemmas.List.{get_or-map, map_more}
use Rattle.std.specs.Prelude.{slice_index_or}

-- of one element more
pub longer : {X Y : Type 0} (f : X → Y) (xs ys : List X) (k : ℕ) (x y : X) → k < length xs → k < length ys
    → x ≡ slice_index_or xs k x → y ≡ slice_index_or ys k y → f x ≡ f y → map f (take k xs) ≡ map f (take k ys)
    → map f (take (k + 1) xs) ≡ map f (take (k + 1) ys)
longer {X} {Y} f xs ys k x y low far x_is y_is same before =
    map_more f xs k x low
    ∙ (ap (λ (l : List Y). l ++ f (slice_index_or xs k x) ∷ []) before
    ∙ (ap (λ (z : Y). map f (take k ys) ++ z ∷ []) (ap f (sym x_is) ∙ (same ∙ ap f y_is)) ∙ sym (map_more f ys k y far)))

-- of all
pub whole : {X Y : Type 0} (f : X → Y) (xs ys : List X) (k : ℕ) → length xs ≤ k → length ys ≤ k
    → map f (take k xs) ≡ map f (take k ys) → map f xs ≡ map f ys
whole {X} f xs ys k low far same =
    ap (λ (l : List X). map f l) (sym (take_all k xs low)) ∙ (same ∙ ap (λ (l : List X). map f l) (take_all k ys far))

-- and so of each
pub each : {X Y : Type 0} (f : X → Y) (xs ys : List X) (k : ℕ) (x y : X) → k < length xs → k < length ys
    → x ≡ slice_index_or xs k x → y ≡ slice_index_or ys k y → map f xs ≡ map f ys → f x ≡ f y
each {X} {Y} f xs ys k x y low far x_is y_is same =
    ap f x_is
    ∙ (sym (get_or-map f xs k x (f x) low)
    ∙ (ap (λ (l : List Y). slice_index_or l k (f x)) same ∙ (get_or-map f ys k y (f x) far ∙ ap f (sym y_is))))

-- what a test found to be false
pub refuted : {P : Type 0} (test : Bool) → MatchBool test P (P → ⊥) → test ≡ false → P → ⊥
refuted true told same = absurd (cc)
refuted false told same = told
