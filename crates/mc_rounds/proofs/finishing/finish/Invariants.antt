use Rattle.std.proofs.Common.{◌≡◌, false}
use Rattle.mc_model.specs.Paths.{has_ring}
use Rattle.mc_divided.specs.Networks.{IsDividedNetwork, network_state}
use Rattle.mc_divided.specs.States.{NoneLeft}
use Rattle.mc_rounds.proofs.Retried.{HasWentOn}
use Rattle.mc_rounds.specs.Settling.{rests_left}
use Rattle.mc_rounds.specs.Since.{CountsShifts}
use Rattle.mc_rounds.proofs.finishing.finish.Given as goal

-- phases led here, and where none of retries is due one was made at a rest
abbrev pub invariant-rests : goal.invariant-rests
invariant-rests g l = record {
  divided : IsDividedNetwork l.network;
  none : NoneLeft (network_state l.network);
  counted : CountsShifts l.turns.items (network_state l.network);
  free : l.linked ≡ false → has_ring (network_state l.network).world ≡ false;
  went : HasWentOn (network_state l.initial.network) l.initial.turns.items (network_state l.network) l.turns.items
      l.due;
}

-- and each time round fewer Shifts and phases of retries are to come
abbrev pub decreases-rests : goal.decreases-rests
decreases-rests g l = rests_left (network_state l.network) l.due
