use Rattle.std.proofs.Common.{◌++◌, sym}
use Rattle.mc_entry.proofs.reading.read_codecs.Goals as goal

pub returns : goal.returns
returns c value more form =
    let one = c.byte-len.ensures value.len (value.at ++ more) form in
    let two = c.eight-at.ensures value.at more value.places one.1 in
    (c.codec_list.ensures value (sym one.0) (sym two.0), two.1)
