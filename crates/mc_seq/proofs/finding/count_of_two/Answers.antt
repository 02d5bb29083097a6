use Rattle.std.proofs.Common.{◌+◌, ◌∙◌, ℕ, ap, sym, length, sum}
use Rattle.mc_seq.specs.Commands.{commands_left}
use Rattle.mc_seq.proofs.Finds.{both_sum, calm_is, commands_sum, takes_sum, urgent_is, used_up_is}
use Rattle.mc_seq.proofs.finding.count_of_two.Goals as goal

pub returns-then-only_commands : goal.returns-then-only_commands
returns-then-only_commands c =
    c.total.ensures ∙ (commands_sum c.args.left.now c.requires.kept ∙ ap length (sym (urgent_is c.args.world.now c.args.left.now c.args.only_commands c.requires c.if-only_commands.true)))

pub returns-then-left-eq0 : goal.returns-then-left-eq0
returns-then-left-eq0 c =
    c.total-then-left-eq0.ensures
    ∙ (takes_sum c.args.world.now c.takes-takes.result.now c.takes-takes.ensures ∙ ap length (sym (used_up_is c.args.world.now c.args.left.now c.args.only_commands c.requires c.if-only_commands.false c.if-left-eq0.true)))

pub returns : goal.returns
returns c =
    ap (λ (n : ℕ). n + c.total-3.result) c.total-2.ensures
    ∙ (ap (λ (n : ℕ). sum c.args.left.now.next + n) c.total-3.ensures
    ∙ (both_sum c.args.world.now c.args.left.now c.takes-takes.result.now c.requires c.takes-takes.ensures ∙ ap length (sym (calm_is c.args.world.now (commands_left c.args.left.now) c.args.only_commands c.if-only_commands.false))))
