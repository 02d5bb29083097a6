use Rattle.std.proofs.Common.{subst}
use Rattle.mc_seq.specs.Commands.{commands_left}
use Rattle.mc_seq.specs.Spare.{AreShiftsKept, spare_of}
use Rattle.mc_seq.proofs.Counting.{two_is}
use Rattle.mc_seq.proofs.Finds.{still_got, still_inside}
use Rattle.mc_seq.proofs.finding.kth.Goals as goal

pub kth_of_two-requires-clause-inside : goal.kth_of_two-requires-clause-inside
kth_of_two-requires-clause-inside c =
    still_inside c.args.k
    (two_is c.args.world.now (commands_left c.args.left.now) (spare_of c.args.world.now c.args.shifts.now) c.args.only_commands
    (subst (AreShiftsKept c.args.world.now (commands_left c.args.left.now)) c.in-None.is c.requires.shifts)) c.requires.inside

pub returns-in-None : goal.returns-in-None
returns-in-None c =
    still_got c.args.k c.kth_of_two.result
    (two_is c.args.world.now (commands_left c.args.left.now) (spare_of c.args.world.now c.args.shifts.now) c.args.only_commands
    (subst (AreShiftsKept c.args.world.now (commands_left c.args.left.now)) c.in-None.is c.requires.shifts)) c.kth_of_two.ensures
