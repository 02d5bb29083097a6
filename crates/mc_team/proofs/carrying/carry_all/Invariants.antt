use Rattle.mc_team.proofs.OnLanes.{CarriesFirst}
use Rattle.mc_team.proofs.carrying.carry_all.Given as goal

-- the lanes so far
abbrev pub invariant-loop-ends : goal.invariant-loop-ends
invariant-loop-ends l = CarriesFirst l.ends-index l.lanes l.initial.members l.members
