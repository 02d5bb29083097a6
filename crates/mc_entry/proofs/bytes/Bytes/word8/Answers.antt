use Rattle.mc_entry.proofs.Words.{word8_read}
use Rattle.mc_entry.proofs.bytes.Bytes.word8.Goals as goal

pub returns : goal.returns
returns c value more fits form = word8_read value more _ _ _ _ fits c.eight.ensures c.from_le_bytes.ensures form
