use Rattle.std.proofs.Common.{◌≡◌, false}
use Rattle.mc_model.specs.Paths.{has_ring}
use Rattle.mc_divided.specs.Networks.{IsDividedNetwork, network_state}
use Rattle.mc_rounds.proofs.Rested.{CameOn}
use Rattle.mc_rounds.specs.Playing.{spare_shifts}
use Rattle.mc_rounds.proofs.resting.come_to_rest.Given as goal

-- stretches led here
abbrev pub invariant-stretches : goal.invariant-stretches
invariant-stretches g l = record {
  divided : IsDividedNetwork l.network;
  free : l.linked ≡ false → has_ring (network_state l.network).world ≡ false;
  came : CameOn (network_state l.initial.network) (network_state l.network) l.initial.turns.items l.turns.items
      l.shifted;
}

-- and each had a Shift
abbrev pub decreases-stretches : goal.decreases-stretches
decreases-stretches g l = spare_shifts (network_state l.network)
