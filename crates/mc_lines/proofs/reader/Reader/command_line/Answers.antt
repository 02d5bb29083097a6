use Rattle.std.proofs.Common.{◌≡◌, ◌≤◌, true, false, nat_le, Some, None, length, subst, arith}
use Rattle.std.proofs.lemmas.Grind.{common_steps}
use Rattle.mc_script.specs.Rules.{kind_rules, least_broken}
use Rattle.mc_lines.specs.Rules.{command_line_rules, is_unfinished}
use Rattle.mc_lines.specs.SoFar.{Declared}
use Rattle.mc_lines.proofs.FirstBroken.{own_rule, too_many, unfinished_before}
use Rattle.mc_lines.proofs.reader.Reader.command_line.Goals as goal
use Rattle.mc_lines.specs.declared.limit.TheConstants.{COMMAND_LIMIT}

pub returns-in_err-command : goal.returns-in_err-command
returns-in_err-command c =
    let own : least_broken (kind_rules c.args.self.now.names c.args.self.now.shape (Some c.args.kind) c.args.words) ≡ Some c.in_err-command.field-0.0.number =
    subst (λ (d : Declared). least_broken (kind_rules d.names d.shape (Some c.args.kind) c.args.words) ≡ Some c.in_err-command.field-0.0.number) c.self.view_is c.in_err-command.ensures in
    let whole : least_broken (command_line_rules c.args.self.now c.args.kind c.args.words) ≡ Some c.in_err-command.field-0.0.number = own_rule c.args.self.now c.args.kind c.args.words c.in_err-command.field-0.0.number own in
    grind (arith, common_steps)

pub returns-then-len-ge-COMMAND_LIMIT : goal.returns-then-len-ge-COMMAND_LIMIT
returns-then-len-ge-COMMAND_LIMIT c =
    let own : least_broken (kind_rules c.args.self.now.names c.args.self.now.shape (Some c.args.kind) c.args.words) ≡ None =
    subst (λ (d : Declared). least_broken (kind_rules d.names d.shape (Some c.args.kind) c.args.words) ≡ None) c.self.view_is c.in_ok-command.ensures.0 in
    let full : COMMAND_LIMIT ≤ length c.args.self.now.commands =
    subst (λ (d : Declared). COMMAND_LIMIT ≤ length d.commands) c.self.view_is (grind (arith, common_steps)) in
    too_many c.args.self.now c.args.kind c.args.words own full

pub returns-then-is_unfinished : goal.returns-then-is_unfinished
returns-then-is_unfinished c =
    let own : least_broken (kind_rules c.args.self.now.names c.args.self.now.shape (Some c.args.kind) c.args.words) ≡ None =
    subst (λ (d : Declared). least_broken (kind_rules d.names d.shape (Some c.args.kind) c.args.words) ≡ None) c.self.view_is c.in_ok-command.ensures.0 in
    let room : nat_le COMMAND_LIMIT (length c.args.self.now.commands) ≡ false =
    subst (λ (d : Declared). nat_le COMMAND_LIMIT (length d.commands) ≡ false) c.self.view_is (grind (arith, common_steps)) in
    let unfinished : is_unfinished c.args.self.now ≡ true = subst (λ (d : Declared). is_unfinished d ≡ true) c.self.view_is (grind (arith, common_steps)) in
    unfinished_before c.args.self.now c.args.kind c.args.words own room unfinished
