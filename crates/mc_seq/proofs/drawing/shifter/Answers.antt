use Rattle.std.proofs.Common.{subst}
use Rattle.mc_seq.specs.Commands.{commands_left}
use Rattle.mc_seq.specs.Spare.{AreShiftsKept}
use Rattle.mc_seq.proofs.Counting.{can_none}
use Rattle.mc_seq.proofs.drawing.shifter.Goals as goal

pub returns-in-None : goal.returns-in-None
returns-in-None c = can_none c.args.so_far.now.settled.world (subst (AreShiftsKept c.args.so_far.now.settled.world (commands_left c.args.so_far.now.left)) c.in-None.is c.requires.shifts)
