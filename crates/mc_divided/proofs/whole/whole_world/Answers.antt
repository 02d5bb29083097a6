use Rattle.std.proofs.Common.{◌≡◌, ◌<◌, ◌∙◌, All, IfOk, ℕ, List, length, ap, sym, subst}
use Rattle.std.specs.declared.alloc.Global.{Global}
use Rattle.std.specs.declared.vec.Vec.{Vec}
use Rattle.std.proofs.lemmas.List.{length-map}
use Rattle.mc_box.specs.Boxes.{BoxState}
use Rattle.mc_part.specs.DividedParts.{HasBoxes, HasShares, inner_lists}
use Rattle.mc_lane.specs.Queue.{Queue}
use Rattle.mc_model.specs.Sound.{IsSound}
use Rattle.mc_model.specs.Worlds.{ChannelState, WorldState}
use Rattle.mc_divided.specs.Networks.{channels_of, world_in}
use Rattle.mc_divided.specs.Whole.{lanes_of}
use Rattle.mc_signal.specs.declared.Tagged.{Tagged}
use Rattle.mc_world.specs.Lanes.{signals_of}
use Rattle.mc_world.specs.Parts.{FitsFrame}
use Rattle.mc_divided.proofs.NetworkBoxes.{box_count}
use Rattle.mc_divided.proofs.WholeWorlds.{boxes_have_shares, boxes_whole, joins_there, lanes_whole, parts_there, shares_there, whole_is}
use Rattle.mc_divided.proofs.whole.whole_world.Goals as goal

pub whole_lanes-requires-clause-parts : goal.whole_lanes-requires-clause-parts
whole_lanes-requires-clause-parts c =
    let parts = parts_there c.args.network c.in_ok-taken.taken.lanes.items c.requires c.in_ok-taken.ensures.lanes in
    let here : All (λ (part : ℕ). part < length c.in_ok-taken.taken.lanes.items) c.deref.result.now =
    subst (λ (l : List ℕ). All (λ (part : ℕ). part < length c.in_ok-taken.taken.lanes.items) l)
    (sym c.deref.ensures.value) parts in
    subst (λ (l : List (Vec (Queue Tagged) Global)). All (λ (part : ℕ). part < length l) c.deref.result.now)
    (sym c.deref-3.ensures.value) here

pub whole_lanes-requires-clause-joins : goal.whole_lanes-requires-clause-joins
whole_lanes-requires-clause-joins c =
    subst (λ (l : List ℕ). All (HasBoxes (length l)) c.deref-2.result.now) (sym c.deref.ensures.value)
    (subst (λ (l : List ChannelState). All (HasBoxes (length c.args.network.assigned.items)) l)
    (sym c.deref-2.ensures.value) (joins_there c.args.network c.requires))

pub gather-requires-clause-parts : goal.gather-requires-clause-parts
gather-requires-clause-parts c =
    subst (λ (l : List ℕ). All (λ (part : ℕ). part < length c.in_ok-taken.taken.boxes.items) l)
    (sym c.deref-4.ensures.value)
    (shares_there c.args.network (inner_lists c.in_ok-taken.taken.boxes.items)
    (length c.in_ok-taken.taken.boxes.items) c.requires c.in_ok-taken.ensures.boxes (length-map _ _))

pub gather-requires-clause-shared : goal.gather-requires-clause-shared
gather-requires-clause-shared c =
    subst (λ (l : List ℕ). HasShares l (inner_lists c.in_ok-taken.taken.boxes.items)) (sym c.deref-4.ensures.value)
    (boxes_have_shares c.args.network (inner_lists c.in_ok-taken.taken.boxes.items) c.requires
    c.in_ok-taken.ensures.boxes)

pub from_parts-requires-clause-frame : goal.from_parts-requires-clause-frame
from_parts-requires-clause-frame c =
    let boxes : c.in_ok-boxes.boxes.items ≡ (world_in c.args.network).boxes =
    boxes_whole c.args.network c.deref-4.result.now (inner_lists c.in_ok-taken.taken.boxes.items)
    c.in_ok-boxes.boxes.items c.requires c.deref-4.ensures.value c.in_ok-taken.ensures.boxes
    c.in_ok-boxes.ensures in
    let lanes : signals_of c.in_ok-lanes.lanes.items ≡ (world_in c.args.network).lanes =
    lanes_whole c.args.network c.deref.result.now c.deref-2.result.now (lanes_of c.deref-3.result.now)
    (signals_of c.in_ok-lanes.lanes.items) c.deref.ensures.value c.deref-2.ensures.value
    (ap lanes_of c.deref-3.ensures.value ∙ c.in_ok-taken.ensures.lanes) c.in_ok-lanes.ensures in
    let count : length c.in_ok-boxes.boxes.items ≡ length c.args.network.assigned.items =
    ap (λ (l : List BoxState). length l) boxes ∙ box_count c.args.network in (
      subst (λ (n : ℕ). FitsFrame c.args.network.frame (channels_of c.args.network) n) (sym count) c.requires.frame,
      sym (length-map c.in_ok-lanes.lanes.items (λ (lane : Queue Tagged). lane.items))
          ∙ (ap (λ (l : List (List Tagged)). length l) lanes ∙ c.requires.sound.numbered.lanes),
    )

pub from_parts-requires-clause-sound : goal.from_parts-requires-clause-sound
from_parts-requires-clause-sound c =
    let boxes : c.in_ok-boxes.boxes.items ≡ (world_in c.args.network).boxes =
    boxes_whole c.args.network c.deref-4.result.now (inner_lists c.in_ok-taken.taken.boxes.items)
    c.in_ok-boxes.boxes.items c.requires c.deref-4.ensures.value c.in_ok-taken.ensures.boxes
    c.in_ok-boxes.ensures in
    let lanes : signals_of c.in_ok-lanes.lanes.items ≡ (world_in c.args.network).lanes =
    lanes_whole c.args.network c.deref.result.now c.deref-2.result.now (lanes_of c.deref-3.result.now)
    (signals_of c.in_ok-lanes.lanes.items) c.deref.ensures.value c.deref-2.ensures.value
    (ap lanes_of c.deref-3.ensures.value ∙ c.in_ok-taken.ensures.lanes) c.in_ok-lanes.ensures in
    subst (λ (w : WorldState). IsSound w)
    (sym (whole_is c.args.network c.in_ok-boxes.boxes.items (signals_of c.in_ok-lanes.lanes.items) boxes lanes))
    c.requires.sound

pub returns : goal.returns
returns c =
    let boxes : c.in_ok-boxes.boxes.items ≡ (world_in c.args.network).boxes =
    boxes_whole c.args.network c.deref-4.result.now (inner_lists c.in_ok-taken.taken.boxes.items)
    c.in_ok-boxes.boxes.items c.requires c.deref-4.ensures.value c.in_ok-taken.ensures.boxes
    c.in_ok-boxes.ensures in
    let lanes : signals_of c.in_ok-lanes.lanes.items ≡ (world_in c.args.network).lanes =
    lanes_whole c.args.network c.deref.result.now c.deref-2.result.now (lanes_of c.deref-3.result.now)
    (signals_of c.in_ok-lanes.lanes.items) c.deref.ensures.value c.deref-2.ensures.value
    (ap lanes_of c.deref-3.ensures.value ∙ c.in_ok-taken.ensures.lanes) c.in_ok-lanes.ensures in
    subst (λ (w : WorldState). IfOk c.from_parts.result (λ world. world ≡ w))
    (whole_is c.args.network c.in_ok-boxes.boxes.items (signals_of c.in_ok-lanes.lanes.items) boxes lanes)
    c.from_parts.ensures
