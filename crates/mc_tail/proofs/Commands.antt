-- Commands of which a slot may be out.
use Rattle.std.proofs.Common.{◌≡◌, ℕ, Bool, true, false, List, Some, None, refl, ap, ◌∙◌}
use Rattle.mc_script.specs.Rules.{least_broken}
use Rattle.mc_script.specs.declared.keyword.CommandWord.{CommandWord}
use Rattle.mc_script.specs.declared.keyword.CommandWord.TheVariants.{Set, Link, Hear, Talk, Tell, Settle}
use Rattle.mc_script.specs.declared.rule.TheConstants.{NO_SUCH_SLOT}
use Rattle.mc_lines.proofs.AlsoBroken.{has_number, rises, with_fault, with_more, with_nothing}
use Rattle.mc_lines.specs.JoinReadings.{lesser}
use Rattle.mc_lines.specs.Joins.{also_broken}
use Rattle.mc_lines.specs.Rules.{command_line_rules}
use Rattle.mc_lines.specs.SoFar.{Declared}
use Rattle.mc_tail.specs.Rules.{tail_command_rules}
use Rattle.mc_tail.specs.SoFar.{TailState, names_out}

-- the numbers of a command's rules rise
rules_rise : (d : Declared) (kind : CommandWord) (words : List (List ℕ)) → rises 0 (command_line_rules d kind words) ≡ true
rules_rise d Set words = refl
rules_rise d Link words = refl
rules_rise d Hear words = refl
rules_rise d Talk words = refl
rules_rise d Tell words = refl
rules_rise d Settle words = refl

-- where a slot is named, there is the rule on slots
slot_rule : (t : TailState) (kind : CommandWord) (words : List (List ℕ)) → names_out t kind words ≡ true
    → has_number NO_SUCH_SLOT (command_line_rules t.declared kind words) ≡ true
slot_rule t Set words out = refl
slot_rule t Link words out = refl
slot_rule t Hear words out = refl
slot_rule t Talk words out = refl
slot_rule t Tell words out = absurd cc
slot_rule t Settle words out = absurd cc

-- a rule of the command is broken
pub command_refused : (t : TailState) (kind : CommandWord) (words : List (List ℕ)) (broken : ℕ) → least_broken (command_line_rules t.declared kind words) ≡ Some broken
    → least_broken (tail_command_rules t kind words) ≡ Some (lesser NO_SUCH_SLOT (names_out t kind words) broken)
command_refused t kind words broken is =
    with_fault NO_SUCH_SLOT (names_out t kind words) (command_line_rules t.declared kind words) broken (rules_rise t.declared kind words) (slot_rule t kind words) is

-- none is, and a slot is out
pub slot_refused : (t : TailState) (kind : CommandWord) (words : List (List ℕ)) → least_broken (command_line_rules t.declared kind words) ≡ None
    → names_out t kind words ≡ true → least_broken (tail_command_rules t kind words) ≡ Some NO_SUCH_SLOT
slot_refused t kind words kept out =
    ap (λ (b : Bool). least_broken (also_broken NO_SUCH_SLOT b (command_line_rules t.declared kind words))) out
    ∙ with_more NO_SUCH_SLOT (command_line_rules t.declared kind words) (rules_rise t.declared kind words) (slot_rule t kind words out) kept

-- none is, and no slot is out
pub command_kept : (t : TailState) (kind : CommandWord) (words : List (List ℕ)) → least_broken (command_line_rules t.declared kind words) ≡ None
    → names_out t kind words ≡ false → least_broken (tail_command_rules t kind words) ≡ None
command_kept t kind words kept none =
    ap (λ (b : Bool). least_broken (also_broken NO_SUCH_SLOT b (command_line_rules t.declared kind words))) none
    ∙ with_nothing NO_SUCH_SLOT (command_line_rules t.declared kind words) kept
