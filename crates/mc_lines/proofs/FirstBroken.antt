-- The first broken rule of two lists of rules.
use Rattle.std.proofs.Common.{◌≡◌, ℕ, Bool, true, false, List, [], ◌∷◌, ◌++◌, Some, None, length, nat_le, ◌≤◌, ◌∙◌, refl, arith}
use Rattle.mc_text.specs.Lines.{words}
use Rattle.mc_script.specs.Rules.{byte_rules, kind_rules, least_broken}
use Rattle.mc_script.specs.declared.keyword.CommandWord.{CommandWord}
use Rattle.mc_script.specs.declared.rule.TheConstants.{LIMIT_PASSED, UNFINISHED}
use Rattle.mc_lines.specs.Rules.{command_line_rules, entry_fault, is_skipped, is_unfinished, line_fault, line_words_rules, passes_limit, text_limit}
use Rattle.mc_lines.specs.SoFar.{Declared}
use Rattle.mc_program_lines.proofs.KeptRules.{first_kept, others_kept}
use Rattle.mc_lines.specs.declared.limit.TheConstants.{COMMAND_LIMIT}

-- where a rule of the first list is broken, the others don't count
pub of_the_first : (rules others : List (ℕ × Bool)) (number : ℕ) → least_broken rules ≡ Some number → least_broken (rules ++ others) ≡ Some number
of_the_first [] others number broken = absurd cc
of_the_first (rule ∷ rules) others number broken = by rule.1 refl (of_the_first rules others number)
  where
    by : (b : Bool) → rule.1 ≡ b → (least_broken rules ≡ Some number → least_broken (rules ++ others) ≡ Some number) → least_broken (rule ∷ rules ++ others) ≡ Some number
    by true e more = rw e (rw e at broken)
    by false e more = rw e (more (rw e at broken))

-- where no rule of the first list is broken, the others count alone
pub of_the_others : (rules others : List (ℕ × Bool)) → least_broken rules ≡ None → least_broken (rules ++ others) ≡ least_broken others
of_the_others [] others broken = refl
of_the_others (rule ∷ rules) others broken = by rule.1 refl (of_the_others rules others)
  where
    by : (b : Bool) → rule.1 ≡ b → (least_broken rules ≡ None → least_broken (rules ++ others) ≡ least_broken others) → least_broken (rule ∷ rules ++ others) ≡ least_broken others
    by true e more = absurd (let clash : Some rule.0 ≡ None = rw e at broken in cc)
    by false e more = rw e (more (rw e at broken))

-- a command's own rule is broken
pub own_rule : (d : Declared) (kind : CommandWord) (words : List (List ℕ)) (number : ℕ) → least_broken (kind_rules d.names d.shape (Some kind) words) ≡ Some number
    → least_broken (command_line_rules d kind words) ≡ Some number
own_rule d kind words number broken = of_the_first (kind_rules d.names d.shape (Some kind) words) ((14, nat_le COMMAND_LIMIT (length d.commands)) ∷ (15, is_unfinished d) ∷ []) number broken

-- there are as many commands as there may be
pub too_many : (d : Declared) (kind : CommandWord) (words : List (List ℕ)) → least_broken (kind_rules d.names d.shape (Some kind) words) ≡ None → COMMAND_LIMIT ≤ length d.commands
    → least_broken (command_line_rules d kind words) ≡ Some 14
too_many d kind words kept full =
    let is : nat_le COMMAND_LIMIT (length d.commands) ≡ true = grind arith in
    of_the_others (kind_rules d.names d.shape (Some kind) words) ((14, nat_le COMMAND_LIMIT (length d.commands)) ∷ (15, is_unfinished d) ∷ []) kept ∙ rw is refl

-- a program is open that isn't finished
pub unfinished_before : (d : Declared) (kind : CommandWord) (words : List (List ℕ)) → least_broken (kind_rules d.names d.shape (Some kind) words) ≡ None → nat_le COMMAND_LIMIT (length d.commands) ≡ false → is_unfinished d ≡ true
    → least_broken (command_line_rules d kind words) ≡ Some 15
unfinished_before d kind words kept room unfinished =
    of_the_others (kind_rules d.names d.shape (Some kind) words) ((14, nat_le COMMAND_LIMIT (length d.commands)) ∷ (15, is_unfinished d) ∷ []) kept ∙ rw (room, unfinished) refl

-- ---- no rule is broken

-- of two lists, none of the second is
pub all_behind : (rules others : List (ℕ × Bool)) → least_broken (rules ++ others) ≡ None → least_broken others ≡ None
all_behind [] others kept = kept
all_behind (rule ∷ rules) others kept = all_behind rules others (others_kept rule.0 rule.1 (rules ++ others) kept)

-- nor is any of the first
pub all_before : (rules others : List (ℕ × Bool)) → least_broken (rules ++ others) ≡ None → least_broken rules ≡ None
all_before [] others kept = refl
all_before (rule ∷ rules) others kept = by rule.1 refl (all_before rules others (others_kept rule.0 rule.1 (rules ++ others) kept))
  where
    by : (b : Bool) → rule.1 ≡ b → least_broken rules ≡ None → least_broken (rule ∷ rules) ≡ None
    by true e more = absurd (let clash : Some rule.0 ≡ None = rw e at kept in cc)
    by false e more = rw e more

-- where a command's line breaks no rule, there is room for the command
pub has_room : (d : Declared) (kind : CommandWord) (words : List (List ℕ)) → least_broken (command_line_rules d kind words) ≡ None → nat_le COMMAND_LIMIT (length d.commands) ≡ false
has_room d kind words kept =
    let behind = (LIMIT_PASSED, nat_le COMMAND_LIMIT (length d.commands)) ∷ (UNFINISHED, is_unfinished d) ∷ [] in
    first_kept LIMIT_PASSED (nat_le COMMAND_LIMIT (length d.commands)) ((UNFINISHED, is_unfinished d) ∷ []) (all_behind (kind_rules d.names d.shape (Some kind) words) behind kept)

-- a line that doesn't pass the limit, and whose bytes break no rule, breaks those of its words
pub of_words : (total before : ℕ) (d : Declared) (line : List ℕ) → passes_limit (text_limit d.tail) total before line ≡ false → least_broken (byte_rules line) ≡ None → line_fault total before d line ≡ entry_fault d (words line)
of_words total before d line short plain = rw short (of_the_others (byte_rules line) (line_words_rules (is_skipped (words line)) d (words line)) plain)
