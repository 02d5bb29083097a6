use Rattle.std.proofs.Common.{length}
use Rattle.mc_tests.proofs.top.drawn_growth.Script.shown.Given as goal

-- each line leaves fewer bytes
abbrev pub decreases-loop-rest : goal.decreases-loop-rest
decreases-loop-rest l = length l.rest
