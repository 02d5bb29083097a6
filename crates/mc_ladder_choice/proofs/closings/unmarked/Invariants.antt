use Rattle.std.proofs.Common.{◌≡◌, []}
use Rattle.mc_ladder_choice.specs.Closings.{marks_of}
use Rattle.mc_ladder_choice.proofs.closings.unmarked.Given as goal

-- so many so far
abbrev pub invariant-loop-done : goal.invariant-loop-done
invariant-loop-done l = l.marks.items ≡ marks_of l._done []
