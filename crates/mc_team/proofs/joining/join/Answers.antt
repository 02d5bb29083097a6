use Rattle.std.proofs.Common.{ℕ, sym, ◌∙◌, subst, arith}
use Rattle.std.specs.declared.alloc.Global.{Global}
use Rattle.std.specs.declared.vec.Vec.{Vec}
use Rattle.mc_team.specs.Layouts.{AreSlotsInside, ArePlaced, inner_lists}
use Rattle.mc_team.proofs.OneJoined.{IsToJoin, has_joined, has_room, has_second_room, is_apart, is_inside, layout_joined, to_join_view}
use Rattle.mc_team.proofs.joining.join.Goals as goal
use Rattle.mc_model.specs.Worlds.{ChannelState}

pub add_end-requires-clause-here : goal.add_end-requires-clause-here
add_end-requires-clause-here c =
    let inside = c.channel.inside in
    let view : ChannelState = record { from = inside.from; to = inside.to; tunnels = inside.tunnels.items } in
    let k : IsToJoin c.args.boxes.now c.args.channels.now c.args.number view c.args.layout.now = to_join_view c.args.boxes.now c.args.channels.now c.args.number c.index-channels-number.result view c.args.layout.now c.channel.view_is
    (record { numbered = c.requires.numbered; within = c.requires.channels; small = c.requires.small; below = c.requires.there; is = c.index-channels-number.is; so_far = c.requires.so_far }) in
    let room = has_room c.args.boxes.now c.args.channels.now c.args.number view c.args.layout.now k in
    room.from

pub add_end-requires-clause-few : goal.add_end-requires-clause-few
add_end-requires-clause-few c =
    let inside = c.channel.inside in
    let view : ChannelState = record { from = inside.from; to = inside.to; tunnels = inside.tunnels.items } in
    let k : IsToJoin c.args.boxes.now c.args.channels.now c.args.number view c.args.layout.now = to_join_view c.args.boxes.now c.args.channels.now c.args.number c.index-channels-number.result view c.args.layout.now c.channel.view_is
    (record { numbered = c.requires.numbered; within = c.requires.channels; small = c.requires.small; below = c.requires.there; is = c.index-channels-number.is; so_far = c.requires.so_far }) in
    let room = has_room c.args.boxes.now c.args.channels.now c.args.number view c.args.layout.now k in
    let few = room.few inside.from in
    omega (arith, few)

pub add_end-requires-2-clause-here : goal.add_end-requires-2-clause-here
add_end-requires-2-clause-here c =
    let inside = c.channel.inside in
    let view : ChannelState = record { from = inside.from; to = inside.to; tunnels = inside.tunnels.items } in
    let k : IsToJoin c.args.boxes.now c.args.channels.now c.args.number view c.args.layout.now = to_join_view c.args.boxes.now c.args.channels.now c.args.number c.index-channels-number.result view c.args.layout.now c.channel.view_is
    (record { numbered = c.requires.numbered; within = c.requires.channels; small = c.requires.small; below = c.requires.there; is = c.index-channels-number.is; so_far = c.requires.so_far }) in
    let room = has_room c.args.boxes.now c.args.channels.now c.args.number view c.args.layout.now k in
    let second = has_second_room c.args.layout.now c.add_end.new.layout view _ _ _ room c.in_ok-from_end.ensures.added in
    second.to

pub add_end-requires-2-clause-ins : goal.add_end-requires-2-clause-ins
add_end-requires-2-clause-ins c =
    let inside = c.channel.inside in
    let view : ChannelState = record { from = inside.from; to = inside.to; tunnels = inside.tunnels.items } in
    let k : IsToJoin c.args.boxes.now c.args.channels.now c.args.number view c.args.layout.now = to_join_view c.args.boxes.now c.args.channels.now c.args.number c.index-channels-number.result view c.args.layout.now c.channel.view_is
    (record { numbered = c.requires.numbered; within = c.requires.channels; small = c.requires.small; below = c.requires.there; is = c.index-channels-number.is; so_far = c.requires.so_far }) in
    let room = has_room c.args.boxes.now c.args.channels.now c.args.number view c.args.layout.now k in
    let second = has_second_room c.args.layout.now c.add_end.new.layout view _ _ _ room c.in_ok-from_end.ensures.added in
    second.ins

pub add_end-requires-2-clause-outs : goal.add_end-requires-2-clause-outs
add_end-requires-2-clause-outs c =
    let inside = c.channel.inside in
    let view : ChannelState = record { from = inside.from; to = inside.to; tunnels = inside.tunnels.items } in
    let k : IsToJoin c.args.boxes.now c.args.channels.now c.args.number view c.args.layout.now = to_join_view c.args.boxes.now c.args.channels.now c.args.number c.index-channels-number.result view c.args.layout.now c.channel.view_is
    (record { numbered = c.requires.numbered; within = c.requires.channels; small = c.requires.small; below = c.requires.there; is = c.index-channels-number.is; so_far = c.requires.so_far }) in
    let room = has_room c.args.boxes.now c.args.channels.now c.args.number view c.args.layout.now k in
    let second = has_second_room c.args.layout.now c.add_end.new.layout view _ _ _ room c.in_ok-from_end.ensures.added in
    second.outs

pub add_end-requires-2-clause-few : goal.add_end-requires-2-clause-few
add_end-requires-2-clause-few c =
    let inside = c.channel.inside in
    let view : ChannelState = record { from = inside.from; to = inside.to; tunnels = inside.tunnels.items } in
    let k : IsToJoin c.args.boxes.now c.args.channels.now c.args.number view c.args.layout.now = to_join_view c.args.boxes.now c.args.channels.now c.args.number c.index-channels-number.result view c.args.layout.now c.channel.view_is
    (record { numbered = c.requires.numbered; within = c.requires.channels; small = c.requires.small; below = c.requires.there; is = c.index-channels-number.is; so_far = c.requires.so_far }) in
    let room = has_room c.args.boxes.now c.args.channels.now c.args.number view c.args.layout.now k in
    let second = has_second_room c.args.layout.now c.add_end.new.layout view _ _ _ room c.in_ok-from_end.ensures.added in
    let few = second.few in
    omega (arith, few)

pub place_tunnels-requires-clause-inside : goal.place_tunnels-requires-clause-inside
place_tunnels-requires-clause-inside c =
    let k : IsToJoin c.args.boxes.now c.args.channels.now c.args.number c.index-channels-number.result c.args.layout.now =
    record { numbered = c.requires.numbered; within = c.requires.channels; small = c.requires.small; below = c.requires.there; is = c.index-channels-number.is; so_far = c.requires.so_far } in
    subst (λ (v : Vec (Vec (ℕ × ℕ) Global) Global). AreSlotsInside c.index-channels-number.result (inner_lists v.items))
    (sym (c.in_ok-to_end.ensures.added.places ∙ c.in_ok-from_end.ensures.added.places))
    (is_inside c.args.boxes.now c.args.channels.now c.args.number c.index-channels-number.result c.args.layout.now k)

pub place_tunnels-requires-clause-apart : goal.place_tunnels-requires-clause-apart
place_tunnels-requires-clause-apart c =
    let k : IsToJoin c.args.boxes.now c.args.channels.now c.args.number c.index-channels-number.result c.args.layout.now =
    record { numbered = c.requires.numbered; within = c.requires.channels; small = c.requires.small; below = c.requires.there; is = c.index-channels-number.is; so_far = c.requires.so_far } in
    is_apart c.args.boxes.now c.args.channels.now c.args.number c.index-channels-number.result c.args.layout.now k

pub returns : goal.returns
returns c =
    let inside = c.channel.inside in
    let view : ChannelState = record { from = inside.from; to = inside.to; tunnels = inside.tunnels.items } in
    let k : IsToJoin c.args.boxes.now c.args.channels.now c.args.number view c.args.layout.now = to_join_view c.args.boxes.now c.args.channels.now c.args.number c.index-channels-number.result view c.args.layout.now c.channel.view_is
    (record { numbered = c.requires.numbered; within = c.requires.channels; small = c.requires.small; below = c.requires.there; is = c.index-channels-number.is; so_far = c.requires.so_far }) in
    let from_end = c.in_ok-from_end.from_end in
    let to_end = c.in_ok-to_end.to_end in
    let initiator = c.in_ok-to_initiator in
    let other = c.in_ok-to_other in
    let placed : ArePlaced view from_end to_end (inner_lists c.add_end-2.new.layout.places.items) (inner_lists c.place_tunnels.new.places.items) =
    subst (λ (v : ChannelState). ArePlaced v from_end to_end (inner_lists c.add_end-2.new.layout.places.items) (inner_lists c.place_tunnels.new.places.items)) (sym c.channel.view_is) c.place_tunnels.ensures in
    layout_joined c.args.boxes.now c.args.channels.now c.args.number view c.args.layout.now _ from_end to_end initiator.as_initiator other.as_other initiator.to_initiator other.to_other k
    (has_joined c.args.layout.now c.add_end.new.layout c.add_end-2.new.layout c.push-2.new.self c.place_tunnels.new.places c.push.new.self.items c.args.number view from_end to_end
    initiator.as_initiator other.as_other initiator.to_initiator other.to_other
    c.in_ok-from_end.ensures.added c.in_ok-to_end.ensures.added c.in_ok-from_end.ensures.end c.in_ok-to_end.ensures.end c.in_ok-push.ensures.items c.in_ok-push-2.ensures.items placed
    (record { initiator = initiator.ensures.ring; other = other.ensures.ring })
    (record { nothing = initiator.ensures.received; unknown = initiator.ensures.known })
    (record { nothing = other.ensures.received; unknown = other.ensures.known })
    initiator.ensures.given other.ensures.given)
