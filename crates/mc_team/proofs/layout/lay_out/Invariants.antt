use Rattle.std.proofs.Common.{take}
use Rattle.mc_team.specs.Layouts.{IsLayoutSoFar}
use Rattle.mc_team.proofs.layout.lay_out.Given as goal

abbrev pub invariant-loop-number : goal.invariant-loop-number
invariant-loop-number l = IsLayoutSoFar l.fn.boxes (take l.number l.fn.channels) l.layout
