use Rattle.mc_program_laws.proofs.HeldTunnels.{open_ends_flow_on}
use Rattle.mc_program_laws.proofs.held.open_ends_flow_on.Goals as goal

pub returns : goal.returns
returns c = open_ends_flow_on
