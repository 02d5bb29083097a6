use Rattle.std.proofs.Common.{◌≡◌, ◌<◌, ◌+◌, ◌*◌, List, length, length-set, get_or, set, ap, sym, refl, ◌∙◌, subst, arith}
use Rattle.std.proofs.lemmas.List.{get_or_default}
use Rattle.mc_model.specs.Worlds.{ChannelState, WorldState}
use Rattle.mc_signal.specs.declared.Tagged.{Tagged}
use Rattle.mc_divided.specs.Laying.{first_slots, lane_here}
use Rattle.mc_divided.proofs.LaneFills.{filled_more}
use Rattle.mc_divided.proofs.PartChannels.{IsNext, firsts_count, is_next, lanes_inside}
use Rattle.mc_world.specs.Lanes.{signals_of}
use Rattle.mc_divided.proofs.filling.fill.Goals as goal

pub bounds-firsts-place : goal.bounds-firsts-place
bounds-firsts-place c =
    let count = firsts_count c.args.assigned.now c.args.channels.now c.args.part c.in_ok-numbers.numbers.items c.args.firsts.now c.in_ok-numbers.ensures
    (c.requires.firsts ∙ ap (λ (l : List ChannelState). first_slots l) c.requires.own) in
    omega (arith, count)

next : (c : goal.After-fill_channel-arg-1) → IsNext c.args.channels.now c.loop-place.engine c.loop-place.place c.index.result.now (get_or c.args.firsts.now c.loop-place.place 0)
next c =
    let own = ap (λ (w : WorldState). w.channels) c.loop-place.invariant.kept ∙ c.requires.own in
    is_next c.args.assigned.now c.args.channels.now c.args.part c.in_ok-numbers.numbers.items c.args.firsts.now c.loop-place.engine c.loop-place.place c.index.result.now (get_or c.args.firsts.now c.loop-place.place 0)
    c.requires.channels own c.in_ok-numbers.ensures (c.requires.firsts ∙ ap (λ (l : List ChannelState). first_slots l) c.requires.own) (omega arith) c.index.ensures refl

pub fill_channel-requires-clause-there : goal.fill_channel-requires-clause-there
fill_channel-requires-clause-there c = (next c).there

pub fill_channel-requires-clause-place_few : goal.fill_channel-requires-clause-place_few
fill_channel-requires-clause-place_few c = (next c).few

pub fill_channel-requires-clause-first_fits : goal.fill_channel-requires-clause-first_fits
fill_channel-requires-clause-first_fits c = (next c).fits

pub fill_channel-requires-clause-leads : goal.fill_channel-requires-clause-leads
fill_channel-requires-clause-leads c = (next c).leads

pub fill_channel-requires-clause-leads_next : goal.fill_channel-requires-clause-leads_next
fill_channel-requires-clause-leads_next c = (next c).leads_next

pub loop-place-preserved : goal.loop-place-preserved
loop-place-preserved c =
    let own = ap (λ (w : WorldState). w.channels) c.loop-place.invariant.kept in
    let one : IsNext c.args.channels.now c.loop-place.engine c.loop-place.place c.index.result.now (get_or c.args.firsts.now c.loop-place.place 0) =
    is_next c.args.assigned.now c.args.channels.now c.args.part c.in_ok-numbers.numbers.items c.args.firsts.now c.loop-place.engine c.loop-place.place c.index.result.now (get_or c.args.firsts.now c.loop-place.place 0)
    c.requires.channels (own ∙ c.requires.own) c.in_ok-numbers.ensures (c.requires.firsts ∙ ap (λ (l : List ChannelState). first_slots l) c.requires.own) (omega arith) c.index.ensures refl in
    let low : c.loop-place.place < length c.args.engine.now.channels = subst (λ (l : List ChannelState). c.loop-place.place < length l) own one.inside in
    let lanes : c.fill_channel.new.engine.lanes ≡ set (set c.loop-place.engine.lanes (2 * c.loop-place.place) (lane_here c.args.assigned.now c.args.channels.now (signals_of c.args.lanes.now) c.args.part c.index.result.now 0))
    (2 * c.loop-place.place + 1) (lane_here c.args.assigned.now c.args.channels.now (signals_of c.args.lanes.now) c.args.part c.index.result.now 1) = ap (λ (w : WorldState). w.lanes) c.in_ok-fill_channel.ensures in
    let c_is : c.index.result.now ≡ get_or c.in_ok-numbers.numbers.items c.loop-place.place 0 = c.index.ensures ∙ get_or_default c.in_ok-numbers.numbers.items c.loop-place.place c.index.result.now 0 (omega arith) in
    record {
      filled = filled_more c.args.assigned.now c.args.channels.now (signals_of c.args.lanes.now) c.args.part c.in_ok-numbers.numbers.items c.loop-place.place c.index.result.now
          c.loop-place.engine.lanes c.fill_channel.new.engine.lanes c.loop-place.invariant.filled c_is
          (lanes_inside c.args.engine.now.channels c.loop-place.place (length c.loop-place.engine.lanes) c.args.engine.now.lanes low c.requires.empty c.loop-place.invariant.count) lanes;
      kept = c.in_ok-fill_channel.ensures
          ∙ (ap (λ (w : WorldState). record w {
            lanes = set (set c.loop-place.engine.lanes (2 * c.loop-place.place) (lane_here c.args.assigned.now c.args.channels.now (signals_of c.args.lanes.now) c.args.part c.index.result.now 0))
                (2 * c.loop-place.place + 1) (lane_here c.args.assigned.now c.args.channels.now (signals_of c.args.lanes.now) c.args.part c.index.result.now 1);
          }) c.loop-place.invariant.kept
          ∙ ap (λ (l : List (List Tagged)). record c.args.engine.now { lanes = l }) (sym lanes));
      count = ap length lanes
          ∙ (length-set (set c.loop-place.engine.lanes (2 * c.loop-place.place) (lane_here c.args.assigned.now c.args.channels.now (signals_of c.args.lanes.now) c.args.part c.index.result.now 0)) (2 * c.loop-place.place + 1)
          (lane_here c.args.assigned.now c.args.channels.now (signals_of c.args.lanes.now) c.args.part c.index.result.now 1)
          ∙ (length-set c.loop-place.engine.lanes (2 * c.loop-place.place) (lane_here c.args.assigned.now c.args.channels.now (signals_of c.args.lanes.now) c.args.part c.index.result.now 0) ∙ c.loop-place.invariant.count));
    }
