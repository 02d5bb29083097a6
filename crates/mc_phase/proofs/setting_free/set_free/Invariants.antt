use Rattle.mc_phase.proofs.Freeing.{IsFreeing}
use Rattle.mc_phase.proofs.setting_free.set_free.Given as goal

abbrev pub invariant-loop-member : goal.invariant-loop-member
invariant-loop-member l = IsFreeing l.flight l.fn.members.items l.desks l.initial.seats.items l.member-iterator.rest.items l.takers.rest.items l.seats.items l.runs.items
