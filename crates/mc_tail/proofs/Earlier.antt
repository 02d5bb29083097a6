-- Lines that belong before `grow`.
use Rattle.std.proofs.Common.{◌≡◌, ◌==◌, ℕ, Bool, true, false, List, [], ◌∷◌, Some, None, if◌then◌else◌, refl}
use Rattle.mc_script.specs.Rules.{least_broken}
use Rattle.mc_script.specs.declared.rule.TheConstants.{UNDECLARED, WRONG_WORD}
use Rattle.mc_lines.specs.Rules.{rules_by}
use Rattle.mc_lines.specs.SoFar.{Declared}
use Rattle.mc_lines.specs.declared.section.Keyword.{Keyword}
use Rattle.mc_tail.specs.Rules.{earlier_rules}

-- the line breaks a rule where it belongs, too
pub earlier_broken : (d : Declared) (kind : Keyword) (words : List (List ℕ)) (broken : ℕ) → least_broken (rules_by d (Some kind) words) ≡ Some broken
    → least_broken (earlier_rules d kind words) ≡ Some (if broken == UNDECLARED then UNDECLARED else WRONG_WORD)
earlier_broken d kind words broken is = rw is (by (broken == UNDECLARED))
  where
    by : (undeclared : Bool) → least_broken ((UNDECLARED, undeclared) ∷ (WRONG_WORD, true) ∷ []) ≡ Some (if undeclared then UNDECLARED else WRONG_WORD)
    by true = refl
    by false = refl

-- or none
pub earlier_kept : (d : Declared) (kind : Keyword) (words : List (List ℕ)) → least_broken (rules_by d (Some kind) words) ≡ None
    → least_broken (earlier_rules d kind words) ≡ Some WRONG_WORD
earlier_kept d kind words is = rw is refl
