use Rattle.mc_seq.specs.Commands.{commands_left}
use Rattle.mc_seq.proofs.Finds.{calm_is, still_got, still_inside, urgent_is, used_up_is}
use Rattle.mc_seq.proofs.finding.kth_of_two.Goals as goal

pub kth_command-requires-clause-inside : goal.kth_command-requires-clause-inside
kth_command-requires-clause-inside c = still_inside c.args.k (urgent_is c.args.world.now c.args.left.now c.args.only_commands c.requires.kept c.if-only_commands.true) c.requires.inside

pub returns-then-only_commands : goal.returns-then-only_commands
returns-then-only_commands c = still_got c.args.k c.kth_command.result (urgent_is c.args.world.now c.args.left.now c.args.only_commands c.requires.kept c.if-only_commands.true) c.kth_command.ensures

pub kth_take-requires : goal.kth_take-requires
kth_take-requires c = still_inside c.args.k (used_up_is c.args.world.now c.args.left.now c.args.only_commands c.requires.kept c.if-only_commands.false c.if-left-eq0.true) c.requires.inside

pub returns-then-left-eq0 : goal.returns-then-left-eq0
returns-then-left-eq0 c = still_got c.args.k c.kth_take.result (used_up_is c.args.world.now c.args.left.now c.args.only_commands c.requires.kept c.if-only_commands.false c.if-left-eq0.true) c.kth_take.ensures

pub kth_of_both-requires-clause-inside : goal.kth_of_both-requires-clause-inside
kth_of_both-requires-clause-inside c = still_inside c.args.k (calm_is c.args.world.now (commands_left c.args.left.now) c.args.only_commands c.if-only_commands.false) c.requires.inside

pub returns : goal.returns
returns c = still_got c.args.k c.kth_of_both.result (calm_is c.args.world.now (commands_left c.args.left.now) c.args.only_commands c.if-only_commands.false) c.kth_of_both.ensures
