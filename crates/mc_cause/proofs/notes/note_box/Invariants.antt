use Rattle.mc_cause.proofs.Noting.{NotedBelow}
use Rattle.mc_cause.proofs.notes.note_box.Given as goal

abbrev pub invariant-loop-local : goal.invariant-loop-local
invariant-loop-local l = NotedBelow l.world l.who l.origin l.local l.initial.origins l.origins
