use Rattle.mc_entry.proofs.Words.{word2_read}
use Rattle.mc_entry.proofs.bytes.Bytes.word2.Goals as goal

pub returns : goal.returns
returns c value more fits form = word2_read value more _ _ _ _ _ _ fits c.byte-first.ensures c.byte-second.ensures c.from_le_bytes.ensures form
