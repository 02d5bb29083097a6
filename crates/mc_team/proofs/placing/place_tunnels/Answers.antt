use Rattle.std.proofs.Common.{◌≡◌, ◌+◌, ℕ, List, length, take, ap, sym, ◌∙◌, subst, rules}
use Rattle.mc_team.specs.Layouts.{ArePlaced, inner_lists}
use Rattle.mc_team.proofs.TunnelsPlaced.{one_placed, placed_next, placing_room, placing_view, second_room, with_entry, with_tunnels}
use Rattle.mc_team.proofs.placing.place_tunnels.Goals as goal
use Rattle.mc_model.specs.Worlds.{ChannelState}

pub put-requires-clause-here : goal.put-requires-clause-here
put-requires-clause-here c =
    let inside = c.channel.inside in
    let view : ChannelState = record { from = inside.from; to = inside.to; tunnels = inside.tunnels.items } in
    let long : c.len-within-end.result ≡ length c.channel.inside.tunnels.items = search rules in
    let old = inner_lists c.args.places.now.items in
    let now = inner_lists c.loop-within.places.items in
    let k = placing_view c.args.channel.now view c.loop-within.within c.len-within-end.result c.index-tunnel.result.now c.args.from_end c.args.to_end old now c.channel.view_is c.requires.apart c.requires.inside c.loop-within-test.true long c.index-tunnel.ensures c.loop-within.invariant in
    (placing_room view c.loop-within.within c.index-tunnel.result.now c.args.from_end c.args.to_end old now k).from_box

pub put-requires-clause-slot : goal.put-requires-clause-slot
put-requires-clause-slot c =
    let inside = c.channel.inside in
    let view : ChannelState = record { from = inside.from; to = inside.to; tunnels = inside.tunnels.items } in
    let long : c.len-within-end.result ≡ length c.channel.inside.tunnels.items = search rules in
    let old = inner_lists c.args.places.now.items in
    let now = inner_lists c.loop-within.places.items in
    let k = placing_view c.args.channel.now view c.loop-within.within c.len-within-end.result c.index-tunnel.result.now c.args.from_end c.args.to_end old now c.channel.view_is c.requires.apart c.requires.inside c.loop-within-test.true long c.index-tunnel.ensures c.loop-within.invariant in
    (placing_room view c.loop-within.within c.index-tunnel.result.now c.args.from_end c.args.to_end old now k).from_slot

pub put-requires-in-loop-within-clause-here : goal.put-requires-in-loop-within-clause-here
put-requires-in-loop-within-clause-here c =
    let inside = c.channel.inside in
    let view : ChannelState = record { from = inside.from; to = inside.to; tunnels = inside.tunnels.items } in
    let long : c.len-within-end.result ≡ length c.channel.inside.tunnels.items = search rules in
    let old = inner_lists c.args.places.now.items in
    let now = inner_lists c.loop-within.places.items in
    let tunnel = c.index-tunnel.result.now in
    let k = placing_view c.args.channel.now view c.loop-within.within c.len-within-end.result tunnel c.args.from_end c.args.to_end old now c.channel.view_is c.requires.apart c.requires.inside c.loop-within-test.true long c.index-tunnel.ensures c.loop-within.invariant in
    let room = placing_room view c.loop-within.within tunnel c.args.from_end c.args.to_end old now k in
    (second_room view tunnel now (inner_lists c.put.new.places.items) (c.args.from_end, c.loop-within.within) room c.put.ensures).0

pub put-requires-in-loop-within-clause-slot : goal.put-requires-in-loop-within-clause-slot
put-requires-in-loop-within-clause-slot c =
    let inside = c.channel.inside in
    let view : ChannelState = record { from = inside.from; to = inside.to; tunnels = inside.tunnels.items } in
    let long : c.len-within-end.result ≡ length c.channel.inside.tunnels.items = search rules in
    let old = inner_lists c.args.places.now.items in
    let now = inner_lists c.loop-within.places.items in
    let tunnel = c.index-tunnel.result.now in
    let k = placing_view c.args.channel.now view c.loop-within.within c.len-within-end.result tunnel c.args.from_end c.args.to_end old now c.channel.view_is c.requires.apart c.requires.inside c.loop-within-test.true long c.index-tunnel.ensures c.loop-within.invariant in
    let room = placing_room view c.loop-within.within tunnel c.args.from_end c.args.to_end old now k in
    (second_room view tunnel now (inner_lists c.put.new.places.items) (c.args.from_end, c.loop-within.within) room c.put.ensures).1

pub loop-within-preserved : goal.loop-within-preserved
loop-within-preserved c =
    let inside = c.channel.inside in
    let view : ChannelState = record { from = inside.from; to = inside.to; tunnels = inside.tunnels.items } in
    let long : c.len-within-end.result ≡ length c.channel.inside.tunnels.items = search rules in
    let old = inner_lists c.args.places.now.items in
    let now = inner_lists c.loop-within.places.items in
    let tunnel = c.index-tunnel.result.now in
    let within = c.loop-within.within in
    let k = placing_view c.args.channel.now view within c.len-within-end.result tunnel c.args.from_end c.args.to_end old now c.channel.view_is c.requires.apart c.requires.inside c.loop-within-test.true long c.index-tunnel.ensures c.loop-within.invariant in
    let is : inner_lists c.put-in-loop-within.new.places.items ≡ one_placed view tunnel within c.args.from_end c.args.to_end now =
    c.put-in-loop-within.ensures ∙ ap (λ (l : List (List (ℕ × ℕ))). with_entry l view.to tunnel.to (c.args.to_end, within)) c.put.ensures in
    subst (λ (l : List (List (ℕ × ℕ))). ArePlaced (with_tunnels c.args.channel.now (take (within + 1) c.args.channel.now.tunnels)) c.args.from_end c.args.to_end old l) (sym is)
    (subst (λ (v : ChannelState). ArePlaced (with_tunnels v (take (within + 1) v.tunnels)) c.args.from_end c.args.to_end old (one_placed view tunnel within c.args.from_end c.args.to_end now)) c.channel.view_is
    (placed_next view within tunnel c.args.from_end c.args.to_end old now k))
