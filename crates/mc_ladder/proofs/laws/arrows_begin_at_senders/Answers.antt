use Rattle.mc_ladder.proofs.Sending.{arrows_begin}
use Rattle.mc_ladder.proofs.laws.arrows_begin_at_senders.Goals as goal

pub returns : goal.returns
returns c = arrows_begin
