use Rattle.std.proofs.Common.{◌+◌, ◌∙◌, ℕ, ap, sym, length, sum}
use Rattle.mc_seq.specs.Commands.{commands_left}
use Rattle.mc_seq.proofs.Counting.{calm_three, three_sum, urgent_three}
use Rattle.mc_seq.proofs.Finds.{commands_sum}
use Rattle.mc_seq.proofs.finding.count_of_three.Goals as goal

pub returns-then-only_commands : goal.returns-then-only_commands
returns-then-only_commands c =
    c.total.ensures
    ∙ (commands_sum c.args.left.now c.requires.kept.kept
    ∙ ap length (sym (urgent_three c.args.world.now (commands_left c.args.left.now) c.args.shifts.now.spare.items c.args.only_commands (length c.args.left.now.queues.items) c.if-only_commands.true c.requires.kept.boxes)))

pub returns : goal.returns
returns c =
    ap (λ (n : ℕ). n + c.total-3.result) c.total-2.ensures
    ∙ (ap (λ (n : ℕ). sum c.args.shifts.now.others + n) c.total-3.ensures
    ∙ (three_sum c.args.world.now (commands_left c.args.left.now) c.args.shifts.now c.takes-takes.result.now c.requires.shifts c.takes-takes.ensures
    ∙ ap length (sym (calm_three c.args.world.now (commands_left c.args.left.now) c.args.shifts.now.spare.items c.args.only_commands c.if-only_commands.false))))
