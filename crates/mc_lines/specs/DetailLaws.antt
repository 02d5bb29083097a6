-- A law of details: which of them is told of which rule.
use Rattle.std.specs.Prelude.{ℕ, ◌≡◌, ◌<◌, ◌==◌, ◌||◌, not, Bool, IsTrue, List, Some, length}
use Rattle.mc_script.specs.declared.rule.TheConstants.{LIMIT_PASSED, NO_SUCH_SLOT, UNDECLARED, WRONG_WORD}
use Rattle.mc_lines.specs.Details.{detail_of}
use Rattle.mc_lines.specs.Rules.{entry_fault}
use Rattle.mc_lines.specs.SoFar.{Declared}
use Rattle.mc_lines.specs.declared.detail.Detail.{Detail}
use Rattle.mc_lines.specs.declared.detail.Detail.TheVariants.{Nothing, Word, Limit}

-- a word of the line is told, where one is to be told, or a limit, where one is; and else nothing
abbrev pub Tells : (word limit : Bool) → List (List ℕ) → Detail → Type 0
Tells word limit words (Word place why) = IsTrue word × (place < length words)
Tells word limit words (Limit passed) = IsTrue limit
Tells word limit words Nothing = IsTrue (not (word || limit))

-- the rules that a single word breaks
abbrev pub is_of_a_word : ℕ → Bool
is_of_a_word number = number == UNDECLARED || number == WRONG_WORD || number == NO_SUCH_SLOT

-- of the least number of the rules on its words that a line breaks, a word that stands in the line is told where it is
-- that of a rule on single words, the limit where it is that of the rule on limits, and else nothing
abbrev pub TellsByRule : Type 0
TellsByRule =
    (d : Declared) (words : List (List ℕ)) (number : ℕ) → entry_fault d words ≡ Some number
    → Tells (is_of_a_word number) (number == LIMIT_PASSED) words (detail_of d words number)
