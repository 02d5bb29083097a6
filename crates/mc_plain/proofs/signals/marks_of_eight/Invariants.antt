use Rattle.std.proofs.Common.{◌*◌}
use Rattle.mc_plain.proofs.Stored.{Compared}
use Rattle.mc_plain.proofs.signals.marks_of_eight.Given as goal

abbrev pub invariant-loop-i : goal.invariant-loop-i
invariant-loop-i l = Compared l.codecs (2 * l.i) l.marks
