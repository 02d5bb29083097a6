use Rattle.mc_top.proofs.GrownEnds.{never_unwritten}
use Rattle.mc_top.proofs.growing.deliver_grown.Goals as goal

pub deliver-requires : goal.deliver-requires
deliver-requires g c = record { due = never_unwritten c.args.run.stop c.grown_due_by-due.result c.grown_due_by-due.ensures }
