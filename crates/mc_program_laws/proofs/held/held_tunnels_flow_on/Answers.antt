use Rattle.mc_program_laws.proofs.HeldTunnels.{held_tunnels_flow_on}
use Rattle.mc_program_laws.proofs.held.held_tunnels_flow_on.Goals as goal

pub returns : goal.returns
returns c = held_tunnels_flow_on
