use Rattle.mc_program_laws.proofs.HeldTunnels.{tells_leave_flowing}
use Rattle.mc_program_laws.proofs.held.tells_leave_flowing.Goals as goal

pub returns : goal.returns
returns c = tells_leave_flowing
