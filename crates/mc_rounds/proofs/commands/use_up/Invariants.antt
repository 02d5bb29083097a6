use Rattle.mc_divided.specs.Networks.{IsDividedNetwork, network_state}
use Rattle.mc_rounds.specs.Playing.{HasPlayed, command_total}
use Rattle.mc_rounds.proofs.commands.use_up.Given as goal

-- phases led here
abbrev pub invariant-phases : goal.invariant-phases
invariant-phases g l = record {
  divided : IsDividedNetwork l.network;
  played : HasPlayed (network_state l.initial.network) (network_state l.network) l.initial.turns.items l.turns.items;
}

-- and each leaves fewer commands
abbrev pub decreases-phases : goal.decreases-phases
decreases-phases g l = command_total (network_state l.network)
