-- No phase of retries where none is owed.
use Rattle.std.proofs.Common.{if◌then◌else◌, Bool, false, List, refl, ap, sym}
use Rattle.mc_box.specs.declared.event.Turn.{Turn}
use Rattle.mc_divided.specs.Networks.{IsDividedNetwork, network_state}
use Rattle.mc_divided.specs.States.{NoneLeft, NoneOwes}
use Rattle.mc_divided.specs.declared.network.DividedNetwork.{DividedNetwork}
use Rattle.mc_rounds.proofs.Plays.{begins, few_shifts_of}
use Rattle.mc_rounds.specs.Playing.{Retries}

-- no turn is a phase of retries where none is owed
pub none_owed : (network : DividedNetwork) (turns : List Turn) → IsDividedNetwork network
    → NoneLeft (network_state network) → NoneOwes (network_state network)
    → Retries (network_state network) (network_state network) turns turns false
none_owed network turns divided left none = record {
  played = begins (network_state network) turns (few_shifts_of network divided);
  none = left;
  retried = λ who local. ap (λ (owed : Bool). if owed then 1 else 0) (sym (none who local));
  kinds = refl;
}
