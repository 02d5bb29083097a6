use Rattle.mc_plan.proofs.Layouts.{medium_of_slot}
use Rattle.mc_plan.proofs.programs.medium_of.Goals as goal

pub returns-in-Some : goal.returns-in-Some
returns-in-Some c = medium_of_slot c.args.slots.now c.args.local c.in-Some.slot.now c.in-Some.ensures.lookup.3.0 c.in-Some.ensures.lookup.1
