use Rattle.std.proofs.Common.{take}
use Rattle.mc_divided.specs.Networks.{IsDividedNetwork, network_state}
use Rattle.mc_rounds.proofs.Added.{HasAdded}
use Rattle.mc_rounds.proofs.commands.begin.Given as goal

-- the network has the commands so far
abbrev pub invariant-loop-turn : goal.invariant-loop-turn
invariant-loop-turn l = record {
  divided : IsDividedNetwork l.network;
  added : HasAdded (network_state l.initial.network).world (network_state l.network) (take l.turn-index l.batch);
}
