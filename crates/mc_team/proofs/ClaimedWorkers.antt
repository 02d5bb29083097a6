-- The workers of all boxes, their logs and what is left on the lanes are such as a claim is made of.
use Rattle.std.proofs.Common.{◌≡◌, ℕ, ◌<◌, List, [], ◌++◌, Some, length, map, get_or, slice_get, ap, sym, ◌∙◌, subst, arith}
use Rattle.std.proofs.lemmas.List.{get_or-map, length-map}
use Rattle.std.proofs.lemmas.Option.{slice_get_within}
use Rattle.std.specs.Option.{option_map}
use Rattle.mc_box.specs.Boxes.{BoxState, no_box}
use Rattle.mc_team.specs.Carried.{IsCarried}
use Rattle.mc_team.specs.Workers.{AreWorkersOf, StandsFor}
use Rattle.mc_team.proofs.AllStand.{AllStand, BoxWork, StandsAt, afters, befores, logs_in, stands_at}
use Rattle.mc_team.proofs.CarriedLanes.{IsLeft, all_left, leads_where, rest_between}
use Rattle.mc_team.proofs.SlotTunnels.{MayHaveSlot, may_have_slot, tunnels_into, tunnels_out, tunnels_same}
use Rattle.mc_team.specs.Turns.{MadeTurns}
use Rattle.mc_team.specs.Teams.{StandForWorld, world_of}
use Rattle.mc_team.specs.Layouts.{ends_of_lane, no_lane_ends, of_box}
use Rattle.mc_team.specs.declared.layout.LaneEnds.{LaneEnds}
use Rattle.mc_port.specs.Entries.{Claimed}
use Rattle.mc_port.specs.Tunnels.{tunnels_at}
use Rattle.mc_merge.proofs.LaneBoxes.{lanes_have_boxes}
use Rattle.mc_merge.specs.LaneLogs.{claimed_of}
use Rattle.mc_merge.specs.Lanes.{into_box, leads_from, leads_to, out_of_box, tunnel_at}
use Rattle.mc_model.specs.Worlds.{ChannelState, WorldState}
use Rattle.mc_port.specs.declared.stamped.Stamped.{Stamped}
use Rattle.mc_team.specs.declared.member.Member.{Member}
use Rattle.mc_team.proofs.Lists.{at_some, there_is}
use Rattle.mc_team.specs.Carries.{AreReady}
use Rattle.mc_team.specs.Ends.{giving_end, parts_of, places_of_boxes, taking_end}
use Rattle.mc_worker.specs.Account.{in_at}
use Rattle.mc_worker.specs.Carrying.{left_between}
use Rattle.mc_worker.specs.Ends.{InEnd, OutEnd, unclaimed}
use Rattle.mc_worker.specs.declared.worker.Worker.{Worker}

-- what is left on each lane
abbrev pub rests_of : List Member → List LaneEnds → List (List Stamped)
rests_of ran lanes = map (λ (ends : LaneEnds). rest_between (giving_end ran ends) (taking_end ran ends)) lanes

-- ---- one box

-- a box has a place for each of its slots
long_places : (members : List Member) (who : ℕ) → AreReady members → who < length members → length (of_box (places_of_boxes members) who) ≡ length (get_or (parts_of members) who no_box).slots
long_places members who ready below =
    let member = there_is members who below in
    ap (λ (l : List (ℕ × ℕ)). length l) (at_some (λ (s : Member). s.worker.place) members who member.0 [] member.1)
    ∙ ((ready who member.0 member.1).shaped.places ∙ ap (λ (b : BoxState). length b.slots) (sym (at_some (λ (s : Member). s.worker.part) members who member.0 no_box member.1)))

-- so each slot of a box has its tunnel, or there is no such slot
pub has_slot : (channels : List ChannelState) (lanes : List LaneEnds) (ends : List (List ℕ)) (old : List Member) (who local : ℕ) → StandForWorld channels old lanes ends → who < length old
    → MayHaveSlot (world_of channels old lanes) ends (places_of_boxes old) who local
has_slot channels lanes ends old who local stand below =
    let there : who < length (parts_of old) = subst (λ (n : ℕ). who < n) (sym (length-map old (λ (s : Member). s.worker.part))) below in
    may_have_slot (world_of channels old lanes) ends (places_of_boxes old) who local stand.sound.numbered stand.laid_out.places there (long_places old who stand.ready below)

-- a box's two workers and its log stand for the box of the world
stands_for : (channels : List ChannelState) (lanes : List LaneEnds) (ends : List (List ℕ)) (old ran : List Member) (who : ℕ) (before after : Worker) (log : List Claimed) → StandForWorld channels old lanes ends → who < length old
    → StandsAt old ran who before after log → StandsFor (world_of channels old lanes) who before after log
stands_for channels lanes ends old ran who before after log stand below at = record {
  box = at.part;
  stamp = at.stamp;
  tunnels = λ local. subst (λ (l : List (ℕ × ℕ)). option_map (λ (place : ℕ × ℕ). place.1) (slice_get l local) ≡ tunnel_at (world_of channels old lanes) who local) (sym at.place)
      (tunnels_same (world_of channels old lanes) ends (places_of_boxes old) who local (has_slot channels lanes ends old who local stand below));
  work = at.work;
}

-- ---- one lane

-- a lane is carried by the two workers at its ends
carried_by : (channels : List ChannelState) (lanes : List LaneEnds) (ends : List (List ℕ)) (old ran new : List Member) (lane : ℕ) (sender sender_after taker taker_after : Worker) (sender_log taker_log : List Claimed)
    → StandForWorld channels old lanes ends → lane < length lanes → IsLeft ran new (ends_of_lane lanes lane)
    → StandsAt old ran (ends_of_lane lanes lane).from sender sender_after sender_log → StandsAt old ran (ends_of_lane lanes lane).to taker taker_after taker_log
    → leads_to (world_of channels old lanes) lane ≡ (ends_of_lane lanes lane).to → leads_from (world_of channels old lanes) lane ≡ (ends_of_lane lanes lane).from
    → IsCarried (world_of channels old lanes) lane sender sender_after taker taker_after (get_or (rests_of ran lanes) lane [])
carried_by channels lanes ends old ran new lane sender sender_after taker taker_after sender_log taker_log stand below left gives takes to from =
    let world : WorldState = world_of channels old lanes in
    let at : LaneEnds = ends_of_lane lanes lane in
    let tied = stand.laid_out.tied lane below in
    let clear = stand.cleared lane below in
    let still : List Stamped = left_between (giving_end ran at) (taking_end ran at) in
    record {
      giving_end = at.from_end;
      taking_end = at.to_end;
      sends = λ local. ap (λ (l : List (ℕ × ℕ)). tunnels_at l at.from_end local) gives.place
          ∙ (tunnels_out world lanes ends (places_of_boxes old) lane local stand.laid_out.numbered below (has_slot channels lanes ends old at.from local stand tied.giver)
          ∙ ap (λ (n : ℕ). out_of_box world n lane local) (sym from));
      takes = λ local. ap (λ (l : List (ℕ × ℕ)). tunnels_at l at.to_end local) takes.place
          ∙ (tunnels_into world lanes ends (places_of_boxes old) lane local stand.laid_out.numbered below (has_slot channels lanes ends old at.to local stand tied.taker)
          ∙ ap (λ (n : ℕ). into_box world n lane local) (sym to));
      waiting = ap (λ (i : InEnd). i.inbox) (takes.ins_before at.to_end) ∙ sym (get_or-map (λ (e : LaneEnds). (taking_end old e).inbox) lanes lane no_lane_ends [] below);
      ring = ap (λ (i : InEnd). i.got) (takes.ins_before at.to_end) ∙ (clear.ring ∙ ap (λ (o : OutEnd). o.given) (sym (gives.outs_before at.from_end)));
      outbox = ap (λ (o : OutEnd). o.outbox) (gives.outs_before at.from_end) ∙ clear.outbox;
      left = still;
      left_is = ap (λ (i : InEnd). i.got ++ still) (takes.ins_after at.to_end) ∙ (left.order ∙ ap (λ (o : OutEnd). o.given) (sym (gives.outs_after at.from_end)));
      rest_is = get_or-map (λ (e : LaneEnds). rest_between (giving_end ran e) (taking_end ran e)) lanes lane no_lane_ends [] below
          ∙ (ap (λ (i : InEnd). map unclaimed i.inbox ++ (still ++ (giving_end ran at).outbox)) (sym (takes.ins_after at.to_end))
          ∙ ap (λ (o : OutEnd). map unclaimed (in_at taker_after at.to_end).inbox ++ (still ++ o.outbox)) (sym (gives.outs_after at.from_end)));
    }

-- ---- all boxes and lanes

-- a box with a worker is there
box_there : (Known : ℕ → Member → Member → List Claimed → Type 0) (old ran : List Member) (who : ℕ) (before : Worker) → (all : AllStand Known old ran) → slice_get (befores all.list) who ≡ Some before → who < length old
box_there Known old ran who before all here =
    let within : who < length (befores all.list) = slice_get_within (befores all.list) who before here in
    let count : length (befores all.list) ≡ length old = length-map all.list (λ (round : BoxWork). round.before) ∙ all.count in
    omega arith

-- each lane is carried by the workers of the boxes at its ends
lane_carried : (Known : ℕ → Member → Member → List Claimed → Type 0) (channels : List ChannelState) (lanes : List LaneEnds) (ends : List (List ℕ)) (old ran new : List Member) (lane : ℕ) (sender sender_after taker taker_after : Worker)
    → StandForWorld channels old lanes ends → MadeTurns Known lanes old ran new → (all : AllStand Known old ran) → lane < length lanes
    → slice_get (befores all.list) (leads_from (world_of channels old lanes) lane) ≡ Some sender → slice_get (afters ran) (leads_from (world_of channels old lanes) lane) ≡ Some sender_after
    → slice_get (befores all.list) (leads_to (world_of channels old lanes) lane) ≡ Some taker → slice_get (afters ran) (leads_to (world_of channels old lanes) lane) ≡ Some taker_after
    → IsCarried (world_of channels old lanes) lane sender sender_after taker taker_after (get_or (rests_of ran lanes) lane [])
lane_carried Known channels lanes ends old ran new lane sender sender_after taker taker_after stand made all below p q r s =
    let at : LaneEnds = ends_of_lane lanes lane in
    let led = leads_where (world_of channels old lanes) lanes lane stand.laid_out.lane_count stand.laid_out.joins below in
    carried_by channels lanes ends old ran new lane sender sender_after taker taker_after (claimed_of (logs_in all.list) at.from) (claimed_of (logs_in all.list) at.to) stand below
    (all_left made lane below)
    (stands_at Known old ran at.from sender sender_after made.run all
    (subst (λ (n : ℕ). slice_get (befores all.list) n ≡ Some sender) led.1 p) (subst (λ (n : ℕ). slice_get (afters ran) n ≡ Some sender_after) led.1 q))
    (stands_at Known old ran at.to taker taker_after made.run all
    (subst (λ (n : ℕ). slice_get (befores all.list) n ≡ Some taker) led.0 r) (subst (λ (n : ℕ). slice_get (afters ran) n ≡ Some taker_after) led.0 s))
    led.0 led.1

-- so turns have all that a claim is made of
pub workers_of : (Known : ℕ → Member → Member → List Claimed → Type 0) (channels : List ChannelState) (lanes : List LaneEnds) (ends : List (List ℕ)) (old ran new : List Member)
    → StandForWorld channels old lanes ends → MadeTurns Known lanes old ran new → (all : AllStand Known old ran)
    → AreWorkersOf (world_of channels old lanes) (befores all.list) (afters ran) (logs_in all.list) (rests_of ran lanes)
workers_of Known channels lanes ends old ran new stand made all =
    let world : WorldState = world_of channels old lanes in
    let count : length old ≡ length (parts_of old) = sym (length-map old (λ (s : Member). s.worker.part)) in
    let lane_count : length world.lanes ≡ length lanes = length-map lanes (λ (e : LaneEnds). (taking_end old e).inbox) in
    record {
      each_lane = stand.sound.numbered.lanes;
      old_count = length-map all.list (λ (round : BoxWork). round.before) ∙ (all.count ∙ count);
      new_count = length-map ran (λ (member : Member). member.worker) ∙ (made.run.count ∙ count);
      log_count = length-map all.list (λ (round : BoxWork). round.log) ∙ (all.count ∙ count);
      lane_count = length-map lanes (λ (e : LaneEnds). rest_between (giving_end ran e) (taking_end ran e)) ∙ sym lane_count;
      stand = λ who a b p q. stands_for channels lanes ends old ran who a b (claimed_of (logs_in all.list) who) stand (box_there Known old ran who a all p)
          (stands_at Known old ran who a b made.run all p q);
      boxes = λ lane below. lanes_have_boxes world lane stand.sound.numbered stand.within below;
      carry = λ lane sender sender_after taker taker_after below. lane_carried Known channels lanes ends old ran new lane sender sender_after taker taker_after stand made all (subst (λ (n : ℕ). lane < n) lane_count below);
    }
