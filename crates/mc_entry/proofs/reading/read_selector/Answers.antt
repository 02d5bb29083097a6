use Rattle.mc_entry.proofs.Fields.{selector_read}
use Rattle.mc_entry.proofs.reading.read_selector.Goals as goal

pub returns-clause-reads : goal.returns-clause-reads
returns-clause-reads c value more fits form =
    selector_read value more _ _ _ _ _ _ _ _ _ _ _ _ fits c.word4-origin.ensures c.word4-version.ensures c.word4-addr.ensures c.word2-port.ensures
    c.read_codec-codec.ensures c.skip.ensures form
