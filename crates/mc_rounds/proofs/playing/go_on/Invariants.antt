use Rattle.mc_laws.specs.Measures.{measure}
use Rattle.mc_divided.specs.Networks.{IsDividedNetwork, network_state}
use Rattle.mc_rounds.proofs.Takes.{HasTaken}
use Rattle.mc_rounds.proofs.playing.go_on.Given as goal

-- Takes alone led here
abbrev pub invariant-phases : goal.invariant-phases
invariant-phases g l = record {
  divided : IsDividedNetwork l.network;
  takes : HasTaken (network_state l.initial.network) (network_state l.network) l.initial.turns.items l.turns.items;
}

-- and each lowers the measure
abbrev pub decreases-phases : goal.decreases-phases
decreases-phases g l = measure (network_state l.network).world
