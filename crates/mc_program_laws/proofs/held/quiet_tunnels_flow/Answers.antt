use Rattle.mc_program_laws.proofs.HeldTunnels.{quiet_tunnels_flow}
use Rattle.mc_program_laws.proofs.held.quiet_tunnels_flow.Goals as goal

pub returns : goal.returns
returns c = quiet_tunnels_flow
