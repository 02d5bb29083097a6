use Rattle.std.proofs.Common.{◌≡◌, ◌*◌, ◌≤◌, ◌^◌, ap, [], length, map, position, ℕ, List, None, Vec, Global, ◌∙◌, subst, sym, rules, arith}
use Rattle.std.proofs.Math.ListN.{replicate}
use Rattle.std.proofs.lemmas.List.{length-map, length-replicate}
use Rattle.mc_lane.specs.Queue.{Queue}
use Rattle.mc_signal.specs.declared.Signal.{Signal}
use Rattle.mc_signal.specs.declared.Tagged.{Tagged}
use Rattle.mc_box.specs.Boxes.{BoxState}
use Rattle.mc_world.specs.Lanes.{origins, signals_of}
use Rattle.mc_model.specs.Rings.{IsLeastOnRing}
use Rattle.mc_model.specs.Sound.{IsSound}
use Rattle.mc_model.specs.Worlds.{ChannelState, WorldState, first_world, is_place, places_among}
use Rattle.mc_world.proofs.Ringless.{first_has_none}
use Rattle.mc_world.proofs.SlotNumbers.{found_by}
use Rattle.mc_laws.proofs.NewWorlds.{first_is_sound}
use Rattle.mc_world.proofs.TunnelTables.{few_slots}
use Rattle.mc_world.proofs.Waits.{none_flagged}
use Rattle.mc_world.proofs.network.World.new.Goals as goal

-- a world, by its parts
abbrev world_with : List BoxState → List ChannelState → List (List Tagged) → WorldState
world_with boxes channels lanes = record { boxes = boxes; channels = channels; lanes = lanes }

pub invariant_of-result : goal.invariant_of-result
invariant_of-result c =
    let few : length (places_among c.args.channels.items) ≤ 16 * length c.args.channels.items = few_slots c.args.channels.items c.requires.channels.tunnels in
    let places : c.in_ok-places.places.items ≡ places_among c.args.channels.items = search rules in
    let lanes : length c.in_ok-lanes.lanes.items ≡ 2 * c.len.result =
    sym (length-map c.in_ok-lanes.lanes.items (λ (lane : Queue Tagged). lane.items)) ∙ ap (λ (l : List (List Tagged)). length l) c.in_ok-lanes.ensures ∙ length-replicate (2 * c.len.result) _ in
    let none : signals_of c.in_ok-lanes.lanes.items ≡ replicate (2 * length c.args.channels.items) [] = rw (c.len.ensures, c.args.channels.ok.0) at c.in_ok-lanes.ensures in
    let numbers : map (λ (numbers : Vec ℕ Global). numbers.items) c.in_ok-numbers.numbers.items ≡ map origins c.args.boxes.items = search rules in
    let first : first_world c.args.boxes.items c.args.channels.items ≡ world_with c.args.boxes.items c.args.channels.items (signals_of c.in_ok-lanes.lanes.items) =
    ap (world_with c.args.boxes.items c.args.channels.items) (sym none) in
    let most : length c.args.channels.items ≤ 2 ^ 28 = c.requires.channels.few in
    record {
      channels = c.requires.channels;
      topology = record {
        places = places;
        tunnels = search rules;
        found = λ who local.
            found_by (first_world c.args.boxes.items c.args.channels.items) (record { places = c.in_ok-places.places; tunnels = c.in_ok-tunnels.tunnels; numbers = c.in_ok-numbers.numbers }) who local
            c.requires.numbered numbers
            ∙ ap (position (is_place (who, local))) (sym places);
        few = rw places (omega arith);
        homes = sym (length-map c.in_ok-numbers.numbers.items (λ (numbers : Vec ℕ Global). numbers.items)) ∙ (ap (λ (l : List (List ℕ)). length l) numbers ∙ length-map c.args.boxes.items origins);
      };
      lanes = omega arith;
      waiting = record {
        counted = c.in_ok-waiting.ensures.counted;
        flagged = none_flagged (record { places = c.in_ok-places.places; tunnels = c.in_ok-tunnels.tunnels; numbers = c.in_ok-numbers.numbers }) (signals_of c.in_ok-lanes.lanes.items) c.in_ok-waiting.waiting.flags.items (2 * length c.args.channels.items) none c.in_ok-waiting.ensures.none;
      };
      scratch = ap (λ (queue : Queue (ℕ × Signal)). queue.items) c.new-2.ensures;
      sound = subst (λ (world : WorldState). IsSound world) first (first_is_sound c.args.boxes.items c.args.channels.items c.requires.fresh c.requires.numbered);
      ringless = λ remembered.
          subst (λ (world : WorldState). IsLeastOnRing world None) first (first_has_none c.args.boxes.items c.args.channels.items c.requires.fresh c.requires.numbered);
    }
