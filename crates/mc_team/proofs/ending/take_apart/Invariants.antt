use Rattle.mc_team.proofs.TakenInboxes.{IsTakingApart}
use Rattle.mc_team.specs.Made.{inboxes_of}
use Rattle.mc_team.proofs.ending.take_apart.Given as goal

abbrev pub invariant-loop-member : goal.invariant-loop-member
invariant-loop-member l = IsTakingApart l.fn.team.members.items l.boxes.items (inboxes_of l.inboxes.items) l.member-iterator.rest.items
