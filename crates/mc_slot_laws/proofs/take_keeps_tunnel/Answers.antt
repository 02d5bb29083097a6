use Rattle.mc_slot_laws.proofs.Taking.{take_keeps}
use Rattle.mc_slot_laws.proofs.take_keeps_tunnel.Goals as goal

pub returns : goal.returns
returns c = take_keeps
