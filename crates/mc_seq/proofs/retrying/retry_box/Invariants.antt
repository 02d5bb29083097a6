use Rattle.mc_seq.proofs.RetriesMade.{BoxRetried}
use Rattle.mc_seq.proofs.retrying.retry_box.Given as goal

-- the slots below have made the retries that they owed, and the others owe what they owed
abbrev pub invariant-loop-local : goal.invariant-loop-local
invariant-loop-local l = BoxRetried l.initial.settled l.settled l.who l.local
