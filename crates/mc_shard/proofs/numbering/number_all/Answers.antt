use Rattle.std.proofs.Common.{◌∙◌, ◌+◌, ◌≤◌, ap, List, length, sym, subst, slice_get, arith}
use Rattle.mc_shard.specs.declared.reached.Reached.{Reached}
use Rattle.mc_shard.specs.States.{count_at, numbered_if}
use Rattle.mc_shard.proofs.Counts.{all_length, lanes_more, one_within, out_more}
use Rattle.mc_shard.proofs.numbering.number_all.Goals as goal

pub loop-sending-preserved : goal.loop-sending-preserved
loop-sending-preserved c =
    let out = rw c.in-Some.ensures.item at c.loop-sending.invariant.out in
    let lanes = rw c.in-Some.ensures.item at c.loop-sending.invariant.lanes in
    let fits = rw c.in-Some.ensures.item at c.loop-sending.invariant.fits in
    let room = rw c.in-Some.ensures.item at c.loop-sending.invariant.room in
    let here = numbered_if (slice_get c.args.places.now c.in-Some.sending.0) c.args.stamp c.loop-sending.lanes.items c.in-Some.sending.1 in
    record {
      out = out_more c.args.places.now c.args.stamp c.loop-sending.lanes.items c.number_one.new.lanes.items c.in-Some.sending.0 c.in-Some.sending.1 c.pop.new.self.items c.loop-sending.out.items c.number_one.new.out.items _ out c.number_one.ensures.out c.number_one.ensures.lanes;
      lanes = lanes_more c.args.places.now c.args.stamp c.loop-sending.lanes.items c.number_one.new.lanes.items _ c.in-Some.sending.0 c.in-Some.sending.1 c.pop.new.self.items lanes c.number_one.ensures.lanes;
      long = ap (λ (l : List Reached). length l) c.number_one.ensures.lanes ∙ (all_length here c.loop-sending.lanes.items ∙ c.loop-sending.invariant.long);
      fits = λ end.
          let up = subst (λ (l : List Reached). count_at l end ≤ count_at c.loop-sending.lanes.items end + 1) (sym c.number_one.ensures.lanes)
          (one_within (slice_get c.args.places.now c.in-Some.sending.0) c.args.stamp c.loop-sending.lanes.items c.in-Some.sending.1 end) in
          let most = fits end in
          omega (arith, up, most);
      room = let one = c.number_one.ensures.room in omega (arith, room, one);
    }
