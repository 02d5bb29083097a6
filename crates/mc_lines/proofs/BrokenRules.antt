-- A rule whose number is the least that is broken is broken, and a word of which a rule's test is true stands in the line.
use Rattle.std.proofs.Common.{◌≡◌, ◌==◌, ◌&&◌, ◌||◌, ◌<◌, ℕ, zero, suc, Bool, true, false, List, [], ◌∷◌, Option, Some, None, length, nat_lt, refl, arith}
use Rattle.std.proofs.lemmas.Grind.{common_steps}
use Rattle.std.specs.List.{list_any, position, position_or_len, slice_get}
use Rattle.std.specs.Option.{unwrap_or}
use Rattle.mc_script.specs.Rules.{least_broken}

-- some rule of this number is broken
abbrev pub has_broken : ℕ → List (ℕ × Bool) → Bool
has_broken number rules = list_any (λ rule. rule.0 == number && rule.1) rules

-- the rule of the least number that is broken is broken
pub is_broken : (number : ℕ) (rules : List (ℕ × Bool)) → least_broken rules ≡ Some number → has_broken number rules ≡ true
is_broken number [] broken = absurd cc
is_broken number (rule ∷ rules) broken = by rule.1 refl (is_broken number rules)
  where
    by : (b : Bool) → rule.1 ≡ b → (least_broken rules ≡ Some number → has_broken number rules ≡ true) → has_broken number (rule ∷ rules) ≡ true
    by true e more =
        let same : Some rule.0 ≡ Some number = rw e at broken in
        let it : rule.0 ≡ number = cc in
        grind (arith, common_steps, it, e)
    by false e more =
        let others : has_broken number rules ≡ true = more (rw e at broken) in
        grind (arith, common_steps, others)

-- a test is true where it or nothing is
pub the_first : (b : Bool) → (b || false) ≡ true → b ≡ true
the_first true is = refl
the_first false is = is

-- of two tests one is true
pub one_of : (a b : Bool) → (a || b) ≡ true → a ≡ false → b ≡ true
one_of true b is e = absurd cc
one_of false b is e = is

-- a word of which a test is true stands there, where the test is false of no word
pub stands : (test : Option (List ℕ) → Bool) → test None ≡ false → (words : List (List ℕ)) (i : ℕ) → test (slice_get words i) ≡ true → i < length words
stands test none [] i is = absurd cc
stands test none (word ∷ others) zero is = omega arith
stands test none (word ∷ others) (suc i) is = let h = stands test none others i is in omega arith

-- some word of which a test is true stands before the end
before_end : (test : List ℕ → Bool) (words : List (List ℕ)) → list_any test words ≡ true → position_or_len test words < length words
before_end test [] is = absurd cc
before_end test (word ∷ others) is = by (test word) refl is (before_end test others)
  where
    by : (b : Bool) → test word ≡ b → (b || list_any test others) ≡ true → (list_any test others ≡ true → position_or_len test others < length others) → position_or_len test (word ∷ others) < length (word ∷ others)
    by true e is more = rw e (omega arith)
    by false e is more = let h = more is in rw e (omega arith)

-- the first word of which a test is true stands among the words, where there is one
pub first_stands : (test : List ℕ → Bool) (words : List (List ℕ)) → list_any test words ≡ true → unwrap_or (position test words) 0 < length words
first_stands test words is =
    let h = before_end test words is in
    let within : nat_lt (position_or_len test words) (length words) ≡ true = grind arith in
    rw within h
