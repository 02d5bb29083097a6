use Rattle.std.proofs.Common.{◌<◌, length, rules}
use Rattle.mc_snapshot.proofs.Listing.{too_long}
use Rattle.mc_snapshot.proofs.lists.get_list.Goals as goal

pub returns-then-count-left-clause-reads : goal.returns-then-count-left-clause-reads
returns-then-count-left-clause-reads g c list more fits form =
    let short : length c.word8-count.new.self < c.word8-count.result = search rules in
    absurd (too_long g.T.Get.Fits g.T.Get.wire list more c.args.bytes.now c.word8-count.new.self c.word8-count.result
    g.met.T.Get.long c.word8-count.ensures short fits form)
