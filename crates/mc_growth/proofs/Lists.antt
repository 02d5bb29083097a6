-- Lists that get items at their end.
use Rattle.std.proofs.Common.{◌≡◌, ◌<◌, ◌+◌, ℕ, zero, suc, Bool, true, false, cond, Some, None, List, [], ◌∷◌, ◌++◌, length, length-append, append_assoc, position, refl, ap, sym, ◌∙◌, arith, nat_lt}
use Rattle.std.proofs.Math.ListN.{get_or}
use Rattle.std.proofs.lemmas.Bool.{lt-ltb}
use Rattle.std.proofs.lemmas.Grind.{common_steps}
use Rattle.std.proofs.lemmas.List.{get_or_append_left}
use Rattle.std.proofs.lemmas.List.Quantifiers.{position-Some}
use Rattle.std.proofs.lemmas.List.Sums.{position_or_len_is}
use Rattle.std.specs.List.{position_or_len}
use Rattle.mc_model.specs.Worlds.{ChannelState, TunnelPlace, is_place, tunnels_from, tunnels_within}

-- an item that is what stands beyond the end changes none
pub default_added : {X : Type 0} (xs : List X) (d : X) (i : ℕ) → get_or (xs ++ d ∷ []) i d ≡ get_or xs i d
default_added [] d zero = refl
default_added [] d (suc i) = refl
default_added (y ∷ ys) d zero = refl
default_added (y ∷ ys) d (suc i) = default_added ys d i

-- nor do two
pub defaults_added : {X : Type 0} (xs : List X) (d : X) (i : ℕ) → get_or (xs ++ d ∷ d ∷ []) i d ≡ get_or xs i d
defaults_added [] d zero = refl
defaults_added [] d (suc zero) = refl
defaults_added [] d (suc (suc i)) = refl
defaults_added (y ∷ ys) d zero = refl
defaults_added (y ∷ ys) d (suc i) = defaults_added ys d i

-- the first of two new items, and the second
pub first_added : {X : Type 0} (xs : List X) (x y d : X) (n : ℕ) → n ≡ length xs → get_or (xs ++ x ∷ y ∷ []) n d ≡ x
first_added [] x y d zero is = refl
first_added [] x y d (suc n) is = absurd (omega arith)
first_added (z ∷ zs) x y d zero is = absurd (omega arith)
first_added (z ∷ zs) x y d (suc n) is = first_added zs x y d n (omega arith)

pub second_added : {X : Type 0} (xs : List X) (x y d : X) (n : ℕ) → n ≡ length xs + 1 → get_or (xs ++ x ∷ y ∷ []) n d ≡ y
second_added [] x y d zero is = absurd (omega arith)
second_added [] x y d (suc zero) is = refl
second_added [] x y d (suc (suc n)) is = absurd (omega arith)
second_added (z ∷ zs) x y d zero is = absurd (omega arith)
second_added (z ∷ zs) x y d (suc n) is = second_added zs x y d n (omega arith)

pub one_added : {X : Type 0} (xs : List X) (x d : X) (n : ℕ) → n ≡ length xs → get_or (xs ++ x ∷ []) n d ≡ x
one_added [] x d zero is = refl
one_added [] x d (suc n) is = absurd (omega arith)
one_added (z ∷ zs) x d zero is = absurd (omega arith)
one_added (z ∷ zs) x d (suc n) is = one_added zs x d n (omega arith)

pub length_one : {X : Type 0} (xs : List X) (x : X) → length (xs ++ x ∷ []) ≡ length xs + 1
length_one xs x = length-append xs (x ∷ [])

pub length_two : {X : Type 0} (xs : List X) (x y : X) → length (xs ++ x ∷ y ∷ []) ≡ length xs + 2
length_two xs x y = length-append xs (x ∷ y ∷ [])

-- ---- what is found

-- the first that passes
pub position_is : {X : Type 0} (p : X → Bool) (xs : List X) (s : ℕ) (d : X) → s < length xs → ((k : ℕ) → k < s → p (get_or xs k d) ≡ false) → p (get_or xs s d) ≡ true → position p xs ≡ Some s
position_is p xs s d inside before here =
    let first : position_or_len p xs ≡ s = position_or_len_is p xs s d (omega arith) before (λ below. here) in
    ap (λ (n : ℕ). cond (nat_lt n (length xs)) (Some n) None) first ∙ ap (λ (b : Bool). cond b (Some s) None) (lt-ltb s (length xs) inside)

-- is found there, whatever comes after
pub position_before : {X : Type 0} (p : X → Bool) (xs ys : List X) (s : ℕ) (d : X) → position p xs ≡ Some s → position p (xs ++ ys) ≡ Some s
position_before p xs ys s d is =
    let found = position-Some p xs s d is in
    position_is p (xs ++ ys) s d (omega (arith, found.0, length-append xs ys))
    (λ k below. ap p (get_or_append_left xs ys d k (omega (arith, found.0, below))) ∙ found.2 k below)
    (ap p (get_or_append_left xs ys d s found.0) ∙ found.1)

-- what can't be true
pub not_true : (b : Bool) → (b ≡ true → ⊥) → b ≡ false
not_true true never = absurd (never refl)
not_true false never = refl

-- a place is itself
pub place_same : (a b : ℕ) → is_place (a, b) (a, b) ≡ true
place_same a b = grind (arith, common_steps)

-- places are one by their parts
pub place_parts : (a b : ℕ) (place : ℕ × ℕ) → is_place (a, b) place ≡ true → (place.0 ≡ a) × (place.1 ≡ b)
place_parts a b place is = grind (arith, common_steps)

-- ---- the tunnels of channels

-- those of channels that come after are numbered from there on
pub tunnels_append : (channels more : List ChannelState) (first n : ℕ) → n ≡ first + length channels → tunnels_from first (channels ++ more) ≡ tunnels_from first channels ++ tunnels_from n more
tunnels_append [] more first n is = ap (λ (k : ℕ). tunnels_from k more) (omega (arith, is))
tunnels_append (ends ∷ channels) more first n is =
    let here : List TunnelPlace = tunnels_within first 0 ends.tunnels in
    ap (λ (l : List TunnelPlace). here ++ l) (tunnels_append channels more (first + 1) n (omega (arith, is)))
    ∙ sym (append_assoc here (tunnels_from (first + 1) channels) (tunnels_from n more))
