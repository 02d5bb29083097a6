use Rattle.mc_part.specs.Carrying.{HasNoneLeft, Knew, LosesNothing, left_count, waiting_before}
use Rattle.mc_part.proofs.carrying.carry.Given as goal

-- nothing is lost so far; and where the taking end knows of a beginning of what is left, it knew of one to begin with
abbrev pub invariant-loop : goal.invariant-loop
invariant-loop l = record {
  over : LosesNothing l.fn.from l.from l.fn.to l.to l.sender l.taker;
  knew : Knew l.from l.to l.sender l.taker → Knew l.fn.from l.fn.to l.sender l.taker;
}

abbrev pub decreases-loop : goal.decreases-loop
decreases-loop l = left_count l.from l.to l.sender l.taker

abbrev pub invariant-loop-2 : goal.invariant-loop-2
invariant-loop-2 l = record {
  over : LosesNothing l.fn.from l.from l.fn.to l.to l.sender l.taker;
  drained : HasNoneLeft l.from l.to l.sender l.taker;
  knew : Knew l.fn.from l.fn.to l.sender l.taker;
}

abbrev pub decreases-loop-2 : goal.decreases-loop-2
decreases-loop-2 l = waiting_before l.from l.sender
