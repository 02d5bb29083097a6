use Rattle.mc_entry.proofs.Fields.{event_read}
use Rattle.mc_entry.proofs.reading.read_event.Goals as goal

pub returns : goal.returns
returns c value more form =
    event_read value more _ _ _ _ _ _ _ _ c.byte-kind.ensures c.byte-first.ensures c.byte-second.ensures c.event_of.ensures form
