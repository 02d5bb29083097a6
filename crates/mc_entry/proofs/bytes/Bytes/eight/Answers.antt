use Rattle.mc_entry.proofs.Words.{eight_read}
use Rattle.mc_entry.proofs.bytes.Bytes.eight.Goals as goal

pub returns : goal.returns
returns c bytes more long form =
    eight_read bytes more _ _ _ _ _ _ _ _ _ _ _ _ _ _ _ _ _ long c.byte-first.ensures c.byte-second.ensures c.byte-third.ensures c.byte-fourth.ensures
    c.byte-fifth.ensures c.byte-sixth.ensures c.byte-seventh.ensures c.byte-eighth.ensures form
