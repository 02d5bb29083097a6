use Rattle.mc_slot_laws.proofs.Sending.{sends_keep}
use Rattle.mc_slot_laws.proofs.sends_keep_tunnel.Goals as goal

pub returns : goal.returns
returns c = λ a to_a b to_b signals after sound goes. sends_keep signals a to_a b to_b after sound goes
