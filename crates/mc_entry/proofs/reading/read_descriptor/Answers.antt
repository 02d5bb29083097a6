use Rattle.mc_entry.proofs.Fields.{descriptor_read}
use Rattle.mc_entry.proofs.reading.read_descriptor.Goals as goal

pub returns-clause-reads : goal.returns-clause-reads
returns-clause-reads c value more fits form =
    descriptor_read value more _ _ _ _ _ _ _ _ _ _ _ fits c.word4-origin.ensures c.word4-version.ensures c.word4-addr.ensures c.word2-port.ensures
    c.read_codecs-codecs.ensures form
