-- Rules of which none is broken.
use Rattle.std.proofs.Common.{◌≡◌, ℕ, ◌<◌, Bool, true, false, not, ◌&&◌, ◌||◌, nat_le, nat_lt, None, List, [], ◌∷◌, length, refl, arith}
use Rattle.std.specs.List.{AllByRecursion}
use Rattle.mc_text.specs.Spelling.{is_name, is_spelt}
use Rattle.mc_script.specs.Rules.{least_broken}

pub none_broken : (rules : List (ℕ × Bool)) → AllByRecursion (λ rule. rule.1 ≡ false) rules → least_broken rules ≡ None
none_broken [] each = refl
none_broken (rule ∷ rules) each = rw each.0 (none_broken rules each.1)

pub or_false : (a b : Bool) → a ≡ false → b ≡ false → (a || b) ≡ false
or_false true b first second = absurd (cc)
or_false false b first second = second

pub and_false : (a b : Bool) → b ≡ false → (a && b) ≡ false
and_false true b is = is
and_false false b is = refl

-- a name is spelt as one, and isn't too long
pub record IsGoodName (name : List ℕ) : Type 0 where
  pub spelt : not (is_spelt name) ≡ false
  pub short : (is_spelt name && nat_lt 16 (length name)) ≡ false

good_by : (a : Bool) (n : ℕ) → (a && nat_le n 16) ≡ true → (not a ≡ false) × ((a && nat_lt 16 n) ≡ false)
good_by true n is = (refl, let few : nat_le n 16 ≡ true = is in grind arith)
good_by false n is = absurd (cc)

pub name_is_good : (name : List ℕ) → is_name name ≡ true → IsGoodName name
name_is_good name is = let parts = good_by (is_spelt name) (length name) is in record { spelt = parts.0; short = parts.1 }

pub is_below : (n limit : ℕ) → n < limit → nat_le limit n ≡ false
is_below n limit less = grind arith
