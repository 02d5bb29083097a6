-- A line whose bytes break no rule.
use Rattle.std.proofs.Common.{◌≡◌, ℕ, false, List, None}
use Rattle.mc_text.specs.Lines.{words}
use Rattle.mc_script.specs.Rules.{byte_rules, least_broken}
use Rattle.mc_lines.proofs.FirstBroken.{of_the_others}
use Rattle.mc_lines.specs.Rules.{is_skipped, passes_limit, text_limit}
use Rattle.mc_lines.specs.declared.tail.Tail.TheVariants.{Grow}
use Rattle.mc_tail.specs.Rules.{tail_entry_fault, tail_line_fault, tail_words_rules}
use Rattle.mc_tail.specs.SoFar.{TailState}

-- a line that doesn't pass the limit, and whose bytes break no rule, breaks those of its words
pub of_words : (total before : ℕ) (t : TailState) (line : List ℕ) → passes_limit (text_limit Grow) total before line ≡ false → least_broken (byte_rules line) ≡ None
    → tail_line_fault total before t line ≡ tail_entry_fault t (words line)
of_words total before t line short plain = rw short (of_the_others (byte_rules line) (tail_words_rules (is_skipped (words line)) t (words line)) plain)
