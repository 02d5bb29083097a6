use Rattle.std.proofs.Common.{inl, Err, arith, ◌≡◌, ◌<◌, ◌∷◌, ◌∙◌, [], slice_get, Some, length, refl, ap, sym, subst, ℕ}
use Rattle.std.specs.Vec.{with_item}
use Rattle.mc_merge.specs.Steps.{at_lane}
use Rattle.mc_merge.specs.Turns.{no_items}
use Rattle.mc_port.specs.Ends.{given, known, out_ring}
use Rattle.mc_port.specs.declared.ends.OutPort.{OutPort}
use Rattle.mc_world.specs.Pumping.{with_last}
use Rattle.mc_part.specs.Ports.{into_lane}
use Rattle.mc_part.specs.declared.port.Port.{Port}
use Rattle.mc_part.specs.declared.part.Part.{Part}
use Rattle.mc_part.specs.declared.limit.TheConstants.{STAMP_LIMIT}
use Rattle.mc_part.proofs.PortLanes.{meets_stray, IsAt, came, engine_runs, kept_from, one_port, port_read}
use Rattle.mc_part.proofs.Ran.{runs_none}
use Rattle.mc_part.proofs.pumping.come.Goals as goal

pub returns-then-item-gt-STAMP_LIMIT-clause-run : goal.returns-then-item-gt-STAMP_LIMIT-clause-run
returns-then-item-gt-STAMP_LIMIT-clause-run c = runs_none c.args.part.now c.requires.within

pub returns-in-Err-clause-run : goal.returns-in-Err-clause-run
returns-in-Err-clause-run c = engine_runs c.args.part.now c.put_in.new.self c.requires.within c.in-Err.ensures.same

pub take-requires : goal.take-requires
take-requires c =
    let port = c.requires.first in
    record { first = subst (λ (p : Port). slice_get (known p.from) 0 ≡ Some c.args.item) (sym (one_port c.args.part.now.ports.items c.args.channel c.index_mut.result.now port.port port.there c.index_mut.ensures.value)) port.first }

pub returns-clause-run : goal.returns-clause-run
returns-clause-run c =
    let a : Part = c.args.part.now in
    let read : Port = c.index_mut.result.now in
    let there : slice_get a.ports.items c.args.channel ≡ Some read = port_read a.ports.items c.args.channel read c.requires.here c.index_mut.ensures.value in
    let same : c.index-port.result.now ≡ read = one_port a.ports.items c.args.channel c.index-port.result.now read there c.index-port.ensures in
    let lane : c.into_lane-lane.result ≡ into_lane c.args.channel read.starts_here = c.into_lane-lane.ensures ∙ ap (λ (p : Port). into_lane c.args.channel p.starts_here) same in
    let b : Part = record a { engine = c.put_in.new.self; heard = c.max-part.result; ports = with_item a.ports c.args.channel c.take.new.self } in
    let at : IsAt a.ports.items b.ports.items c.args.channel read c.take.new.self = record {
      there = there;
      new = refl;
      starts = c.take.ensures.starts;
      in_ring = c.take.ensures.ring;
      out_ring = ap (λ (p : OutPort). out_ring p) c.take.ensures.to;
      kept = kept_from read c.take.new.self c.take.ensures.kept c.take.ensures.to;
    } in
    record {
      gave = at_lane (into_lane c.args.channel read.starts_here) (c.args.item ∷ []);
      put = no_items;
      run = came a b c.args.channel read c.take.new.self c.args.item at c.take.ensures.received (ap (λ (p : OutPort). given p) c.take.ensures.to)
          (c.in_default.ensures.put ∙ ap (λ (n : ℕ). with_last a.engine n (record { tunnel = c.args.item.tunnel; signal = c.args.item.signal })) lane)
          (subst (λ (n : ℕ). n < length a.engine.lanes) lane c.in_default.ensures.there) refl c.max-part.ensures refl c.requires.away c.requires.within (record { used = refl; commands = refl; shifts = refl });
    }

pub returns-then-item-gt-STAMP_LIMIT-clause-stops : goal.returns-then-item-gt-STAMP_LIMIT-clause-stops
returns-then-item-gt-STAMP_LIMIT-clause-stops c budget =
    let port = c.requires.first in
    let above : STAMP_LIMIT < c.args.item.stamp = omega (arith, c.if-item-gt-STAMP_LIMIT.true) in
    record { port = port.port; item = c.args.item; there = port.there; first = port.first; stray = inl above }

pub refused_item-requires : goal.refused_item-requires
refused_item-requires c = record {
  stray = λ is.
      let port = c.requires.first in
      let same : c.index-port.result.now ≡ port.port = one_port c.args.part.now.ports.items c.args.channel c.index-port.result.now port.port port.there c.index-port.ensures in
      meets_stray c.args.part.now c.put_in.new.self c.args.channel c.index-port.result.now port.port c.args.item c.into_lane-lane.result c.slot-slot.result port.there port.first same c.in-Err.ensures.same
      c.into_lane-lane.ensures c.slot-slot.ensures (c.put_in.ensures.stray.0 (c.in-Err.is ∙ ap Err is));
}
