-- Sums over accounts.
use Rattle.std.proofs.Common.{◌≡◌, ℕ, zero, suc, ◌+◌, ◌*◌, ◌≤◌, List, [], ◌∷◌, set, sym, refl, ap, zero-le, arith}
use Rattle.std.specs.List.{sum_by}
use Rattle.std.proofs.lemmas.List.Sums.{sum_by-cons}
use mathlib.Core.Option.{some, some-injective, some-ne-none}
use lib.ListN.{get_elem?}
use Rattle.mc_flight.specs.declared.account.Account.{Account}
use Rattle.mc_flight.specs.declared.limit.TheConstants.{COUNT_LIMIT}

-- one account changes
pub sum_set : (g : Account → ℕ) (accounts : List Account) (seat : ℕ) (v w : Account) → get_elem? accounts seat ≡ some v → sum_by g (set accounts seat w) + g v ≡ sum_by g accounts + g w
sum_set g [] seat v w e = absurd (some-ne-none v (sym e))
sum_set g (x ∷ xs) zero v w e =
    let same : g x ≡ g v = ap g (some-injective x v e) in
    let before = sum_by-cons g x xs in
    let after = sum_by-cons g w xs in
    omega arith
sum_set g (x ∷ xs) (suc seat) v w e =
    let rest = sum_set g xs seat v w e in
    let before = sum_by-cons g x xs in
    let after = sum_by-cons g x (set xs seat w) in
    omega arith

-- one account is no more than all of them
pub one_within : (g : Account → ℕ) (accounts : List Account) (seat : ℕ) (v : Account) → get_elem? accounts seat ≡ some v → g v ≤ sum_by g accounts
one_within g [] seat v e = absurd (some-ne-none v (sym e))
one_within g (x ∷ xs) zero v e =
    let same : g x ≡ g v = ap g (some-injective x v e) in
    let all = sum_by-cons g x xs in
    omega arith
one_within g (x ∷ xs) (suc seat) v e =
    let rest = one_within g xs seat v e in
    let all = sum_by-cons g x xs in
    omega arith

-- what is within the parts of each is within the parts of all
pub all_within : (g h : Account → ℕ) (accounts : List Account) → ((seat : ℕ) (v : Account) → get_elem? accounts seat ≡ some v → g v ≤ h v * COUNT_LIMIT) → sum_by g accounts ≤ sum_by h accounts * COUNT_LIMIT
all_within g h [] each = zero-le
all_within g h (x ∷ xs) each =
    let rest = all_within g h xs (λ seat v e. each (suc seat) v e) in
    let first = each 0 x refl in
    let counts = sum_by-cons g x xs in
    let parts = sum_by-cons h x xs in
    omega arith

-- where no account has a part, nothing is counted
none_counts : (g h : Account → ℕ) (accounts : List Account) → ((seat : ℕ) (v : Account) → get_elem? accounts seat ≡ some v → h v ≡ 0 → g v ≡ 0) → sum_by h accounts ≡ 0 → sum_by g accounts ≡ 0
none_counts g h [] each none = refl
none_counts g h (x ∷ xs) each none =
    let parts = sum_by-cons h x xs in
    let counts = sum_by-cons g x xs in
    let rest = none_counts g h xs (λ seat v e. each (suc seat) v e) (omega arith) in
    let first = each 0 x refl (omega arith) in
    omega arith

-- where one account has all parts, what it counted is all that is counted
pub one_counts : (g h : Account → ℕ) (accounts : List Account) (seat : ℕ) (v : Account) → get_elem? accounts seat ≡ some v
    → ((seat : ℕ) (v : Account) → get_elem? accounts seat ≡ some v → h v ≡ 0 → g v ≡ 0) → sum_by h accounts ≡ h v → sum_by g accounts ≡ g v
one_counts g h [] seat v e each whole = absurd (some-ne-none v (sym e))
one_counts g h (x ∷ xs) zero v e each whole =
    let same : x ≡ v = some-injective x v e in
    let same_parts : h x ≡ h v = ap h same in
    let same_count : g x ≡ g v = ap g same in
    let parts = sum_by-cons h x xs in
    let counts = sum_by-cons g x xs in
    let rest = none_counts g h xs (λ seat v e. each (suc seat) v e) (omega arith) in
    omega arith
one_counts g h (x ∷ xs) (suc seat) v e each whole =
    let parts = sum_by-cons h x xs in
    let counts = sum_by-cons g x xs in
    let low = one_within h xs seat v e in
    let first = each 0 x refl (omega arith) in
    let rest = one_counts g h xs seat v e (λ seat v e. each (suc seat) v e) (omega arith) in
    omega arith
