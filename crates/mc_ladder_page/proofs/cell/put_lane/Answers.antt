use Rattle.std.proofs.Common.{◌≡◌, ◌==◌, ◌<◌, length, true, false, sym, arith}
use Rattle.std.proofs.lemmas.Option.{get_or_from_slice_get}
use Rattle.mc_ladder_page.specs.Cells.{signal_quoted}
use Rattle.mc_ladder_page.proofs.Lanes.{told_more, told_other}
use Rattle.mc_ladder_page.proofs.cell.put_lane.Goals as goal
use Rattle.mc_ladder_page.proofs.cell.put_lane.Goals.{then-tagged-tunnel+in_ok-put_signal_quoted, else-tagged-tunnel}

pub loop-i-preserved : goal.loop-i-preserved
loop-i-preserved c =
    let below : c.loop-i.i < length c.args.lane.now.items = omega (arith, c.loop-i-test.true, c.len-i-end.ensures) in
    let here = sym (get_or_from_slice_get c.args.lane.now.items c.loop-i.i c.get-tagged.result c.get-tagged.result (sym c.get-tagged.ensures)) in
    elim c.if-tagged-tunnel.branch [
      | then-tagged-tunnel+in_ok-put_signal_quoted w ↦
          let own : (c.get-tagged.result.tunnel == c.args.tunnel) ≡ true = grind (arith, w.if-tagged-tunnel.true) in
          rw w.out-is (told_more (signal_quoted c.args.names.now c.args.world.now) c.args.tunnel c.args.lane.now.items c.args.out.now.items c.loop-i.out.items w.put_signal_quoted.new.out.items c.loop-i.i
          c.get-tagged.result below here own w.in_ok-put_signal_quoted.ensures c.loop-i.invariant)
      | else-tagged-tunnel w ↦
          let other : (c.get-tagged.result.tunnel == c.args.tunnel) ≡ false = grind (arith, w.if-tagged-tunnel.false) in
          rw w.out-is (told_other (signal_quoted c.args.names.now c.args.world.now) c.args.tunnel c.args.lane.now.items c.args.out.now.items c.loop-i.out.items c.loop-i.i
          c.get-tagged.result below here other c.loop-i.invariant)
    ]
