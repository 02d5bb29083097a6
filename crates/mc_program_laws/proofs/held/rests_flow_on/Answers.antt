use Rattle.mc_program_laws.proofs.HeldTunnels.{rests_flow_on}
use Rattle.mc_program_laws.proofs.held.rests_flow_on.Goals as goal

pub returns : goal.returns
returns c = rests_flow_on
