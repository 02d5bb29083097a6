use Rattle.mc_plain.proofs.Stored.{Compared}
use Rattle.mc_plain.proofs.signals.marks.Given as goal

abbrev pub invariant-loop-i : goal.invariant-loop-i
invariant-loop-i l = Compared l.codecs l.i l.marks
