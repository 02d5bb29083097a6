use Rattle.mc_seq.proofs.RetriesMade.{BoxesRetried}
use Rattle.mc_seq.proofs.retrying.retry_by_box.Given as goal

-- the boxes below have made the retries that they owed, and the others owe what they owed
abbrev pub invariant-loop-who : goal.invariant-loop-who
invariant-loop-who l = BoxesRetried l.initial.settled l.settled l.who
