use Rattle.std.proofs.Common.{arith}
use Rattle.mc_snapshot.proofs.Listing.{fits_more, one_longer, read_more}
use Rattle.mc_snapshot.proofs.lists.get_each.Goals as goal

pub loop-preserved : goal.loop-preserved
loop-preserved g c = record {
  few = one_longer c.loop.found.items c.push.new.self.items c.in_ok-get.field-0 c.loop.counter c.loop.invariant.few c.in_ok-push.ensures.items;
  fits = fits_more g.T.Get.Fits c.loop.found.items c.push.new.self.items c.in_ok-get.field-0 c.loop.invariant.fits c.in_ok-get.ensures.fits
      c.in_ok-push.ensures.items;
  reads = λ list more long fits form.
      read_more g.T.Get.Fits g.T.Get.wire list c.loop.found.items c.push.new.self.items more c.loop.bytes c.get.new.bytes c.loop.counter
      c.in_ok-get.field-0 (omega (arith, c.loop-test.true)) fits c.in_ok-get.ensures.reads c.in_ok-push.ensures.items
      (c.loop.invariant.reads list more long fits form);
}
