use Rattle.std.proofs.Common.{◌≡◌, ◌*◌, ◌≤◌, ◌^◌, ap, [], length, map, ℕ, List, IsTrue, Vec, Global, ◌∙◌, refl, subst, sym, rules, arith}
use Rattle.std.proofs.Math.ListN.{replicate}
use Rattle.std.proofs.lemmas.List.{length-map, length-replicate}
use Rattle.mc_lane.specs.Queue.{Queue}
use Rattle.mc_signal.specs.declared.Signal.{Signal}
use Rattle.mc_signal.specs.declared.Tagged.{Tagged}
use Rattle.mc_box.specs.Boxes.{BoxState}
use Rattle.mc_world.specs.Pieces.{AreFilled, FitsBoxes, HasPlaces}
use Rattle.mc_world.specs.Lanes.{HasNumbers, signals_of}
use Rattle.mc_world.specs.Tables.{IsTopologyOf}
use Rattle.mc_world.specs.declared.topology.Topology.{Topology}
use Rattle.mc_model.specs.Worlds.{AreChannels, ChannelState, places_among}
use Rattle.mc_world.proofs.PieceLanes.{none_served}
use Rattle.mc_world.proofs.TopologyLanes.{channels_laid}
use Rattle.mc_world.proofs.PieceTables.{placed_numbers}
use Rattle.mc_world.proofs.Filling.{piece_passes, passed_piece}
use Rattle.mc_world.proofs.TunnelTables.{few_slots}
use Rattle.mc_world.proofs.Waits.{none_flagged}
use Rattle.mc_world.proofs.network.piece.engine_of.Goals as goal

-- there are no more slots than numbers
few_places : (channels : List ChannelState) (places : List (ℕ × ℕ)) → AreChannels channels → places ≡ places_among channels → length places ≤ 2 ^ 32
few_places channels places are is =
    let slots : length (places_among channels) ≤ 16 * length channels = few_slots channels are.tunnels in
    rw is (omega (arith, slots, are.few))

pub numbers_by_place-requires : goal.numbers_by_place-requires
numbers_by_place-requires c = record { few = few_places c.args.channels.items c.deref-3.result.now c.requires.channels (search rules) }

pub fits_boxes-requires : goal.fits_boxes-requires
fits_boxes-requires c = record { few = few_places c.args.channels.items c.in_ok-places.places.items c.requires.channels (search rules) }

pub invariant_of-result : goal.invariant_of-result
invariant_of-result c =
    let topology : Topology = record { places = c.in_ok-places.places; tunnels = c.in_ok-tunnels.tunnels; numbers = c.in_ok-numbers.numbers } in
    let slots : length (places_among c.args.channels.items) ≤ 16 * length c.args.channels.items = few_slots c.args.channels.items c.requires.channels.tunnels in
    let places : c.in_ok-places.places.items ≡ places_among c.args.channels.items = search rules in
    let most : length c.args.channels.items ≤ 2 ^ 28 = c.requires.channels.few in
    let lanes : length c.in_ok-lanes.lanes.items ≡ 2 * c.len.result =
    sym (length-map c.in_ok-lanes.lanes.items (λ (lane : Queue Tagged). lane.items)) ∙ ap (λ (l : List (List Tagged)). length l) c.in_ok-lanes.ensures ∙ length-replicate (2 * c.len.result) _ in
    let many : length c.in_ok-lanes.lanes.items ≡ 2 * length c.args.channels.items = omega (arith, lanes, c.len.ensures, c.args.channels.ok.0) in
    let none : signals_of c.in_ok-lanes.lanes.items ≡ replicate (2 * length c.args.channels.items) [] = rw (c.len.ensures, c.args.channels.ok.0) at c.in_ok-lanes.ensures in
    let passed : FitsBoxes topology c.args.boxes.items = subst (λ (l : List BoxState). FitsBoxes topology l) c.deref-4.ensures.value (c.fits_boxes.ensures.0 (search rules)) in
    let numbers : HasNumbers topology = placed_numbers topology passed.placed in
    let is : IsTopologyOf topology c.args.channels.items (length topology.numbers.items) = record {
      places = places;
      tunnels = search rules;
      found = numbers.found;
      few = rw places (omega arith);
      homes = refl;
    } in
    record {
      channels = c.requires.channels;
      topology = is;
      lanes = many;
      laid = channels_laid c.args.channels.items topology (length topology.numbers.items) (length c.in_ok-lanes.lanes.items) is numbers many;
      waiting = record {
        counted = c.in_ok-waiting.ensures.counted;
        flagged = none_flagged topology (signals_of c.in_ok-lanes.lanes.items) c.in_ok-waiting.waiting.flags.items (2 * length c.args.channels.items) none c.in_ok-waiting.ensures.none;
      };
      homes = passed.slots.within;
      slots = passed.slots.slots;
      served = none_served topology (signals_of c.in_ok-lanes.lanes.items) (2 * length c.args.channels.items) none;
      scratch = ap (λ (queue : Queue (ℕ × Signal)). queue.items) c.new-2.ensures;
    }

-- where it is refused the table is not right
pub returns-then-not-fits_boxes-clause-no_piece : goal.returns-then-not-fits_boxes-clause-no_piece
returns-then-not-fits_boxes-clause-no_piece c refused piece =
    let topology : Topology = record { places = c.in_ok-places.places; tunnels = c.in_ok-tunnels.tunnels; numbers = c.in_ok-numbers.numbers } in
    let fits : FitsBoxes topology c.args.boxes.items =
    piece_passes topology c.args.boxes.items c.args.channels.items c.args.homes (search rules) c.in_ok-numbers.ensures.homes
    (λ count has. subst (λ (l : List (ℕ × ℕ)). AreFilled l count (length l) (map (λ (numbers : Vec ℕ Global). numbers.items) c.in_ok-numbers.numbers.items)) c.deref-3.ensures.value
    (c.in_ok-numbers.ensures.filled count (subst (λ (l : List (ℕ × ℕ)). HasPlaces l c.args.homes count) (sym c.deref-3.ensures.value) has))) piece in
    let passed : IsTrue c.fits_boxes.result = c.fits_boxes.ensures.1 (subst (λ (l : List BoxState). FitsBoxes topology l) (sym c.deref-4.ensures.value) fits) in
    absurd (cc)

-- and where it is not
pub returns-clause-piece : goal.returns-clause-piece
returns-clause-piece c =
    let topology : Topology = record { places = c.in_ok-places.places; tunnels = c.in_ok-tunnels.tunnels; numbers = c.in_ok-numbers.numbers } in
    let passed : FitsBoxes topology c.args.boxes.items = subst (λ (l : List BoxState). FitsBoxes topology l) c.deref-4.ensures.value (c.fits_boxes.ensures.0 (search rules)) in
    passed_piece topology c.args.boxes.items c.args.channels.items c.args.homes (search rules) c.in_ok-numbers.ensures.homes passed
