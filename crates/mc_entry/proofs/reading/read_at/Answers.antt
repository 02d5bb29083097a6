use Rattle.mc_entry.proofs.Fields.{at_read}
use Rattle.mc_entry.proofs.reading.read_at.Goals as goal

pub returns-clause-reads : goal.returns-clause-reads
returns-clause-reads c value more fits form =
    at_read value more _ _ _ _ _ _ _ _ _ _ _ _ _ fits c.word4-end.ensures c.word8-number.ensures c.word8-stamp.ensures c.word8-digest.ensures c.byte-tunnel.ensures
    c.read_signal-signal.ensures.reads form
