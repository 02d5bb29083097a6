use Rattle.std.proofs.Common.{refl, arith}
use Rattle.mc_signal.specs.Choice.{codecs_of}
use Rattle.mc_entry.proofs.Listing.{codec_more, list_again}
use Rattle.mc_entry.proofs.reading.codec_list.Goals as goal

pub loop-i-preserved : goal.loop-i-preserved
loop-i-preserved c list len_is at_is =
    codec_more list c.args.len c.loop-i.i _ c.args.at (codecs_of c.loop-i.found) (codecs_of c.add_codec.new.list) len_is at_is
    (omega (arith, c.loop-i-test.true, c.min-count.ensures)) refl (c.loop-i.invariant list len_is at_is) c.add_codec.ensures

pub returns : goal.returns
returns c list len_is at_is =
    list_again list c.loop-i.found c.args.len c.loop-i.i c.args.at len_is at_is
    (let short = list.short in omega (arith, short, len_is, c.loop-i-test.false, c.min-count.ensures)) (c.loop-i.invariant list len_is at_is)
