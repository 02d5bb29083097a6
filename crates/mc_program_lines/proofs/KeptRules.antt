-- Where no rule of a list is broken, each of them is kept.
use Rattle.std.proofs.Common.{◌≡◌, ℕ, zero, suc, Bool, true, false, List, [], ◌∷◌, Some, None, refl}
use Rattle.std.specs.List.{slice_get}
use Rattle.mc_script.specs.Rules.{least_broken}

-- where no rule is broken, neither is the first
pub first_kept : (number : ℕ) (broken : Bool) (others : List (ℕ × Bool)) → least_broken ((number, broken) ∷ others) ≡ None → broken ≡ false
first_kept number true others kept = absurd (let clash : Some number ≡ None = kept in cc)
first_kept number false others kept = refl

-- where no rule is broken, none after the first is
pub others_kept : (number : ℕ) (broken : Bool) (others : List (ℕ × Bool)) → least_broken ((number, broken) ∷ others) ≡ None → least_broken others ≡ None
others_kept number true others kept = absurd (let clash : Some number ≡ None = kept in cc)
others_kept number false others kept = kept

-- where no rule is broken, the one at a place is kept
pub kept_at : (rules : List (ℕ × Bool)) (k : ℕ) (rule : ℕ × Bool) → least_broken rules ≡ None → slice_get rules k ≡ Some rule → rule.1 ≡ false
kept_at [] k rule kept at = absurd cc
kept_at (first ∷ others) zero rule kept at =
    let same : first ≡ rule = cc in
    rw (← same) (first_kept first.0 first.1 others kept)
kept_at (first ∷ others) (suc k) rule kept at = kept_at others k rule (others_kept first.0 first.1 others kept) at
