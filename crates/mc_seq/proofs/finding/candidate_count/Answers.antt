use Rattle.std.proofs.Common.{◌∙◌, ap, length, sym, subst}
use Rattle.mc_seq.specs.Commands.{commands_left}
use Rattle.mc_seq.specs.Spare.{AreShiftsKept, spare_of}
use Rattle.mc_seq.proofs.Counting.{two_is}
use Rattle.mc_seq.proofs.finding.candidate_count.Goals as goal

pub returns-in-None : goal.returns-in-None
returns-in-None c =
    c.count_of_two.ensures
    ∙ ap length (sym (two_is c.args.world.now (commands_left c.args.left.now) (spare_of c.args.world.now c.args.shifts.now) c.args.only_commands
    (subst (AreShiftsKept c.args.world.now (commands_left c.args.left.now)) c.in-None.is c.requires.shifts)))
