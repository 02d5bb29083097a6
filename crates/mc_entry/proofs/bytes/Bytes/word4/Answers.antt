use Rattle.mc_entry.proofs.Words.{word4_read}
use Rattle.mc_entry.proofs.bytes.Bytes.word4.Goals as goal

pub returns : goal.returns
returns c value more fits form =
    word4_read value more _ _ _ _ _ _ _ _ _ _ fits c.byte-first.ensures c.byte-second.ensures c.byte-third.ensures c.byte-fourth.ensures c.from_le_bytes.ensures form
