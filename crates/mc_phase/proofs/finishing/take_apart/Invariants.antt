use Rattle.mc_phase.proofs.Parts.{AreTaking}
use Rattle.mc_phase.specs.Asked.{request_lists}
use Rattle.mc_phase.proofs.finishing.take_apart.Given as goal

abbrev pub invariant-loop-run : goal.invariant-loop-run
invariant-loop-run l = AreTaking l.fn.runs.items l.initial.seats.items l.run-iterator.rest.items l.members.items l.takers.items (request_lists l.taken.items) l.seats.items
