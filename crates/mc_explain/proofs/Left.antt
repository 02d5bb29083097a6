-- The lines that are left of a text.
use Rattle.std.proofs.Common.{◌≡◌, ℕ, ◌+◌, ◌-◌, ◌≤◌, List, [], ap, ◌∙◌, arith, drop, get_or}
use Rattle.std.proofs.lemmas.List.{drop-drop, get_or-drop}
use Rattle.mc_text.specs.Lines.{lines}

-- the lines that are left are those after so many of the text, and not more than are before the wanted one
pub record IsBehind (text rest : List ℕ) (counter wanted : ℕ) : Type 0 where
  pub some : 1 ≤ counter
  pub few : counter - 1 ≤ wanted - 1
  pub left : lines rest ≡ drop (counter - 1) (lines text)

-- after one line more
pub one_more : (text rest next : List ℕ) (counter wanted : ℕ) → IsBehind text rest counter wanted → counter + 1 ≤ wanted
    → lines next ≡ drop 1 (lines rest) → IsBehind text next (counter + 1) wanted
one_more text rest next counter wanted behind more is = record {
  some = omega (arith, behind.some);
  few = omega (arith, more);
  left = is ∙ ap (λ left. drop 1 left) behind.left ∙ drop-drop 1 (counter - 1) (lines text) ∙ ap (λ n. drop n (lines text)) same;
}
  where
    same : counter - 1 + 1 ≡ counter + 1 - 1
    same = omega (arith, behind.some)

-- the first line that is left, by its number
pub first_left : (text rest : List ℕ) (counter wanted : ℕ) → IsBehind text rest counter wanted → wanted ≤ counter
    → get_or (lines rest) 0 [] ≡ get_or (lines text) (wanted - 1) []
first_left text rest counter wanted behind all =
    ap (λ left. get_or left 0 []) behind.left ∙ get_or-drop (counter - 1) (lines text) 0 [] ∙ ap (λ n. get_or (lines text) n []) same
  where
    same : counter - 1 + 0 ≡ wanted - 1
    same = omega (arith, all, behind.few)
