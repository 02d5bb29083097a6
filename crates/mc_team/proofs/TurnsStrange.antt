-- No box stops at a signal that it can't take.
use Rattle.std.proofs.Common.{◌≡◌, ◌⊎◌, inl, inr, ℕ, ◌<◌, ◌≤◌, ◌++◌, false, Contains, IsSome, MatchOption, List, [], ◌∷◌, length, map, slice_get, slice_index_or, Option, Some, None, refl, sym, ◌∙◌, ap, subst, arith, append_assoc}
use Rattle.std.proofs.lemmas.Bool.{both_ways, cases_lt}
use Rattle.std.proofs.lemmas.List.{append_cancel_left, get_or_past, length-map}
use Rattle.std.proofs.lemmas.List.Elements.{Contains-append_right, Contains-get_or}
use Rattle.std.proofs.lemmas.Option.{same_Some, slice_get_within}
use Rattle.mc_box.specs.Boxes.{BoxState, slot_at}
use Rattle.mc_team.proofs.RoundMembers.{HasLane, has_lane, lane_has, leads_is, part_is}
use Rattle.mc_team.proofs.TurnsStamps.{Gave, MemberTurns, Turns, count_few, gave, got_same, turns_at}
use Rattle.mc_team.specs.Teams.{world_of}
use Rattle.mc_team.specs.Layouts.{IsPlacedAt, at_end, ends_of_lane}
use Rattle.mc_team.specs.declared.layout.LaneEnds.{LaneEnds}
use Rattle.mc_merge.proofs.Claims.{claimed_are_logged}
use Rattle.mc_merge.proofs.Fronts.{fronts_are_lawful}
use Rattle.mc_merge.specs.Claims.{entry_count}
use Rattle.mc_merge.specs.Fronts.{IsLawfulFront}
use Rattle.mc_merge.specs.LaneLogs.{claimed_of, logs_of, without_stamps}
use Rattle.mc_model.specs.Worlds.{ChannelState, WorldState, box_at, place, tunnel_of}
use Rattle.mc_port.specs.Ends.{RingName, given, in_ring, known, without_stamp}
use Rattle.mc_port.specs.declared.stamped.Stamped.{Stamped}
use Rattle.mc_team.specs.declared.member.Member.{Member}
use Rattle.mc_signal.specs.declared.Tagged.{Tagged}
use Rattle.mc_slot.specs.Moves.{slot_take}
use Rattle.mc_team.proofs.Lists.{at_some}
use Rattle.mc_team.proofs.Pairs.{here_in, here_out}
use Rattle.mc_team.specs.Carries.{IsBroughtOn, MemberRest}
use Rattle.mc_team.specs.Ends.{IsCleared, giving_end, in_view, parts_of, places_of_boxes, taking_end}
use Rattle.mc_worker.specs.Account.{in_at, out_at}
use Rattle.mc_worker.specs.Carrying.{left_between, under_way_between}
use Rattle.mc_worker.specs.Ends.{InEnd, OutEnd, next_from, next_in, unclaimed}
use Rattle.mc_worker.specs.Rounds.{HasStopped, IsStrange}
use Rattle.mc_worker.specs.declared.limit.TheConstants.{STAMP_LIMIT}
use Rattle.mc_worker.specs.declared.stop.Stop.TheVariants.{Strange}
use Rattle.mc_worker.specs.declared.worker.Worker.{Worker}
use mathlib.Core.List.{IsPrefix}

-- ---- what stood at the end where the box stopped

-- a signal is next at an end, and its slot can't take it
record Stuck (w : Worker) (end : ℕ) : Type 0 where
  item : Stamped
  next : next_in (in_at w end) ≡ Some item
  strange : IsStrange w end item

-- a next item that is strange is stuck
stuck_by : (found : Option Stamped) (w : Worker) (end tunnel : ℕ) → next_in (in_at w end) ≡ found → MatchOption found ⊥ (λ item. (item.tunnel ≡ tunnel) × IsStrange w end item) → Stuck w end
stuck_by (Some item) w end tunnel is why = record { item = item; next = is; strange = why.1 }
stuck_by None w end tunnel is why = absurd why

-- a box that stopped at a strange signal left it there
stuck : (Idle : Type 0) (c : Worker) (end tunnel : ℕ) → HasStopped Idle c (Strange end tunnel) → Stuck c end
stuck Idle c end tunnel why = stuck_by (next_in (in_at c end)) c end tunnel refl why

-- that end is there
nothing_past : (inbox : List Tagged) (knows : List Stamped) (item : Stamped) → inbox ≡ [] → knows ≡ [] → next_from inbox knows ≡ Some item → ⊥
nothing_past inbox knows item empty none next = let nothing : None ≡ Some item = sym (ap (λ (l : List Tagged). next_from l knows) empty ∙ ap (λ (l : List Stamped). next_from [] l) none) ∙ next in cc

-- where something is next there is an end
stuck_there : (w : Worker) (end : ℕ) (item : Stamped) → length w.inboxes ≡ length w.ins.items → next_in (in_at w end) ≡ Some item → end < length w.ins.items
stuck_there w end item long next = elim (cases_lt end (length w.ins.items)) [
  | inl below ↦ below
  | inr past ↦
      absurd (nothing_past (in_at w end).inbox (in_at w end).known item (get_or_past w.inboxes end [] (omega arith))
      (get_or_past (map known w.ins.items) end [] (omega (arith, length-map w.ins.items known))) next)
]

-- ---- what is in the inbox there after the carrying

-- the signal stands first, and has no stamp, or comes first of what the ring has left
record StandsFirst (after : List Tagged) (left : List Stamped) (item : Stamped) : Type 0 where
  rest : List Tagged
  is : after ≡ without_stamp item ∷ rest
  from : (item.stamp ≡ 0) ⊎ ((more : List Stamped) × (left ≡ item ∷ more))

-- what is next stands first of all that is under way
stands_by : (inbox : List Tagged) (knows left box : List Stamped) (item : Stamped) → next_from inbox knows ≡ Some item → IsPrefix knows left → StandsFirst (inbox ++ (map without_stamp left ++ map without_stamp box)) left item
stands_by [] [] left box item next knew = absurd (cc)
stands_by [] (first ∷ knows) left box item next knew =
    let same : first ≡ item = cc in
    let is : left ≡ item ∷ (knows ++ knew.0) = sym knew.1 ∙ ap (λ (x : Stamped). x ∷ (knows ++ knew.0)) same in
    record {
      rest = map without_stamp (knows ++ knew.0) ++ map without_stamp box;
      is = ap (λ (l : List Stamped). map without_stamp l ++ map without_stamp box) is;
      from = inr (knows ++ knew.0, is);
    }
stands_by (tagged ∷ inbox) knows left box item next knew =
    let same : unclaimed tagged ≡ item = same_Some (unclaimed tagged) item next in
    record {
      rest = inbox ++ (map without_stamp left ++ map without_stamp box);
      is = ap (λ (x : Stamped). without_stamp x ∷ (inbox ++ (map without_stamp left ++ map without_stamp box))) same;
      from = inl (sym (ap (λ (x : Stamped). x.stamp) same));
    }

-- ---- what went into a ring and out of it

-- the first that the ring has left was put in during the turns
first_put : (got gave left given put : List Stamped) (item : Stamped) (more : List Stamped) → (got ++ gave) ++ left ≡ given ++ put → got ≡ given → left ≡ item ∷ more → Contains put item
first_put got gave left given put item more order same is =
    let all : got ++ (gave ++ item ∷ more) ≡ got ++ put =
    sym (append_assoc got gave (item ∷ more)) ∙ (ap (λ (l : List Stamped). (got ++ gave) ++ l) (sym is) ∙ (order ∙ ap (λ (l : List Stamped). l ++ put) (sym same))) in
    subst (λ (l : List Stamped). Contains l item) (append_cancel_left got (gave ++ item ∷ more) put all)
    (Contains-append_right gave (item ∷ more) item (Contains-get_or (item ∷ more) 0 item (omega arith)))

-- ---- the lane at whose end the box stopped

-- the end of a lane is that of its box
taking_is : (members : List Member) (lanes : List LaneEnds) (ends : List (List ℕ)) (who end : ℕ) (member : Member) (l : HasLane lanes ends who end) → slice_get members who ≡ Some member
    → taking_end members (ends_of_lane lanes l.lane) ≡ in_at member.worker end
taking_is members lanes ends who end member l at =
    ap (λ (w : ℕ). in_view members w (ends_of_lane lanes l.lane).to_end) l.to ∙ (ap (λ (e : ℕ). in_view members who e) l.to_end ∙ here_in members who end member at)

-- a lane to a box was carried
brought : {most : ℕ} {channels : List ChannelState} {lanes : List LaneEnds} {ends : List (List ℕ)} {old ran new : List Member}
    → (t : Turns most channels lanes ends old ran new) (who end : ℕ) (l : HasLane lanes ends who end) → IsBroughtOn ran new (ends_of_lane lanes l.lane)
brought t who end l = t.made.carried.carried l.lane l.below

-- what its ring has left was given in the turns
not_late : {most : ℕ} {channels : List ChannelState} {lanes : List LaneEnds} {ends : List (List ℕ)} {old ran new : List Member}
    → (t : Turns most channels lanes ends old ran new) (who end : ℕ) (member : MemberTurns old ran new who (claimed_of t.claimed.logs who)) (l : HasLane lanes ends who end) (item : Stamped) (more : List Stamped)
    → left_between (giving_end ran (ends_of_lane lanes l.lane)) (taking_end ran (ends_of_lane lanes l.lane)) ≡ item ∷ more → item.stamp ≤ entry_count t.claimed.logs
not_late {channels = channels} {lanes = lanes} {ends = ends} {old = old} {ran = ran} {new = new} t who end member l item more left =
    let at : LaneEnds = ends_of_lane lanes l.lane in
    let lane : IsBroughtOn ran new at = brought t who end l in
    let tied = t.stand.laid_out.tied l.lane l.below in
    let sender : MemberTurns old ran new at.from (claimed_of t.claimed.logs at.from) = turns_at t at.from tied.giver in
    let given_here : Gave (out_at sender.a.worker at.from_end) (out_at sender.c.worker at.from_end) (entry_count t.claimed.logs) = gave t at.from at.from_end sender in
    let account = member.worked.work.ins end in
    let cleared : IsCleared (taking_end old at) (giving_end old at) = t.stand.cleared l.lane l.below in
    let got : (taking_end ran at).got ≡ (in_at member.a.worker end).got ++ account.gave =
    ap (λ (e : InEnd). e.got) (taking_is ran lanes ends who end member.c l member.at_run) ∙ (account.ring ∙ ap (λ (x : List Stamped). x ++ account.gave) (got_same member.a.worker member.before end member.worked.ends)) in
    let given_all : (giving_end ran at).given ≡ (out_at sender.a.worker at.from_end).given ++ given_here.put =
    ap (λ (e : OutEnd). e.given) (here_out ran at.from at.from_end sender.c sender.at_run) ∙ given_here.ring in
    let same : (in_at member.a.worker end).got ≡ (out_at sender.a.worker at.from_end).given =
    sym (ap (λ (e : InEnd). e.got) (taking_is old lanes ends who end member.a l member.at_first)) ∙ (cleared.ring ∙ ap (λ (e : OutEnd). e.given) (here_out old at.from at.from_end sender.a sender.at_first)) in
    given_here.low item
    (first_put (in_at member.a.worker end).got account.gave (left_between (giving_end ran at) (taking_end ran at)) (out_at sender.a.worker at.from_end).given given_here.put item more
    (ap (λ (x : List Stamped). x ++ left_between (giving_end ran at) (taking_end ran at)) (sym got) ∙ (lane.order ∙ given_all)) same left)

-- ---- the slot that may take what stands first

-- a slot of the box has the signal's tunnel at this end, and can take it
record Taker (w : Worker) (end : ℕ) (item : Stamped) : Type 0 where
  slot : ℕ
  at : slice_get w.place slot ≡ Some (end, item.tunnel)
  may : IsSome (slot_take (slot_at w.part slot) item.signal)

-- by the law of fronts there is one
front : {most : ℕ} {channels : List ChannelState} {lanes : List LaneEnds} {ends : List (List ℕ)} {old ran new : List Member}
    → (t : Turns most channels lanes ends old ran new) (who end : ℕ) (l : HasLane lanes ends who end) (tagged : Tagged) (rest : List Tagged)
    → (taking_end new (ends_of_lane lanes l.lane)).inbox ≡ tagged ∷ rest
    → IsLawfulFront (record (world_of channels old lanes) { boxes = parts_of new; lanes = map without_stamps t.claimed.rests }) l.lane tagged
front {channels = channels} {lanes = lanes} {old = old} {new = new} t who end l tagged rest is =
    let world : WorldState = world_of channels old lanes in
    let rests : List (List Tagged) = map without_stamps t.claimed.rests in
    fronts_are_lawful world (logs_of t.claimed.logs) (parts_of new) rests (claimed_are_logged world t.claimed.logs (parts_of new) t.claimed.rests t.claimed.claimed) t.stand.sound l.lane tagged rest
    (ap (λ (ls : List (List Tagged)). slice_index_or ls l.lane []) t.claimed.under_way ∙ (lane_has channels new lanes l.lane l.below ∙ is))

-- it has its place at the end
placed_so : (placed_end end within tunnel who box slot : ℕ) (place : List (ℕ × ℕ)) (places : List (List (ℕ × ℕ))) → box ≡ who → slice_index_or places who [] ≡ place → at_end places box slot ≡ Some (placed_end, within)
    → placed_end ≡ end → within ≡ tunnel
    → slice_get place slot ≡ Some (end, tunnel)
placed_so placed_end end within tunnel who box slot place places here own at end_is tunnel_is =
    ap (λ (ps : List (ℕ × ℕ)). slice_get ps slot) (sym own)
    ∙ (ap (λ (w : ℕ). at_end places w slot) (sym here) ∙ (at ∙ (ap (λ (e : ℕ). Some (e, within)) end_is ∙ ap (λ (t : ℕ). Some (end, t)) tunnel_is)))

-- such a slot is in the box of the member
taker : {most : ℕ} {channels : List ChannelState} {lanes : List LaneEnds} {ends : List (List ℕ)} {old ran new : List Member}
    → (t : Turns most channels lanes ends old ran new) (who end : ℕ) (member : MemberTurns old ran new who (claimed_of t.claimed.logs who)) (l : HasLane lanes ends who end) (item : Stamped)
    → IsLawfulFront (record (world_of channels old lanes) { boxes = parts_of new; lanes = map without_stamps t.claimed.rests }) l.lane (without_stamp item) → Taker member.c.worker end item
taker {channels = channels} {lanes = lanes} {ends = ends} {old = old} {ran = ran} {new = new} t who end member l item lawful =
    let world : WorldState = world_of channels old lanes in
    let laid = t.stand.laid_out in
    let here : (place world lawful.s).0 ≡ who = lawful.who ∙ (sym (leads_is channels old lanes ends l.lane laid l.below) ∙ l.to) in
    let placed : IsPlacedAt (parts_of old) channels ends (places_of_boxes old) lawful.s = laid.places lawful.s lawful.fits.inside in
    let end_is : placed.end ≡ end = sym (laid.numbered.taker (place world lawful.s).0 placed.end l.lane (placed.lane ∙ ap (λ (n : ℕ). Some n) lawful.fits.leads)).1 ∙ l.to_end in
    record {
      slot = (place world lawful.s).1;
      at = placed_so placed.end end (tunnel_of world lawful.s).within item.tunnel who (place world lawful.s).0 (place world lawful.s).1 member.c.worker.place (places_of_boxes old) here
          (at_some (λ (s : Member). s.worker.place) old who member.a [] member.at_first ∙ sym (member.worked.work.place ∙ member.worked.ends.place)) placed.at end_is lawful.fits.within;
      may = subst (λ (box : BoxState). IsSome (slot_take (slot_at box (place world lawful.s).1) item.signal))
          (ap (λ (w : ℕ). box_at (world_of channels new lanes) w) here ∙ (part_is channels new lanes who member.d member.at_last ∙ ap (λ (s : MemberRest). s.part) member.rest)) lawful.lawful;
    }

-- what is none isn't some
none_taken : {X : Type 0} (made : Option X) → made ≡ None → IsSome made → ⊥
none_taken (Some x) none some = cc
none_taken None none some = both_ways false refl some

-- so a signal that stands first isn't strange
never : {most : ℕ} {channels : List ChannelState} {lanes : List LaneEnds} {ends : List (List ℕ)} {old ran new : List Member}
    → (t : Turns most channels lanes ends old ran new) (who end : ℕ) (member : MemberTurns old ran new who (claimed_of t.claimed.logs who)) (l : HasLane lanes ends who end) (item : Stamped)
    → StandsFirst (taking_end new (ends_of_lane lanes l.lane)).inbox (left_between (giving_end ran (ends_of_lane lanes l.lane)) (taking_end ran (ends_of_lane lanes l.lane))) item
    → IsStrange member.c.worker end item → ⊥
never t who end member l item first (inl late) = elim first.from [
  | inl none ↦ absurd (omega arith)
  | inr left ↦
      let low : item.stamp ≤ entry_count t.claimed.logs = not_late t who end member l item left.0 left.1 in
      let few : entry_count t.claimed.logs ≤ STAMP_LIMIT = count_few t in
      absurd (omega arith)
]
never t who end member l item first (inr unlawful) =
    let slot : Taker member.c.worker end item = taker t who end member l item (front t who end l (without_stamp item) first.rest first.is) in
    none_taken (slot_take (slot_at member.c.worker.part slot.slot) item.signal) (unlawful slot.slot slot.at) slot.may

-- and no box stops at one
pub strange_never : {most : ℕ} {channels : List ChannelState} {lanes : List LaneEnds} {ends : List (List ℕ)} {old ran new : List Member}
    → (Idle : Type 0) (t : Turns most channels lanes ends old ran new) (who end tunnel : ℕ) (member : Member) → slice_get ran who ≡ Some member → HasStopped Idle member.worker (Strange end tunnel) → ⊥
strange_never {channels = channels} {lanes = lanes} {ends = ends} {old = old} {ran = ran} {new = new} Idle t who end tunnel found at_found stop =
    let many : length ran ≡ length old = t.made.run.count in
    let within : who < length ran = slice_get_within ran who found at_found in
    let member : MemberTurns old ran new who (claimed_of t.claimed.logs who) = turns_at t who (omega (arith, many, within)) in
    let same : Some found ≡ Some member.c = sym at_found ∙ member.at_run in
    let is : found ≡ member.c = same_Some found member.c same in
    let at : Stuck member.c.worker end = stuck Idle member.c.worker end tunnel (subst (λ (m : Member). HasStopped Idle m.worker (Strange end tunnel)) is stop) in
    let there : end < length member.c.worker.ins.items = stuck_there member.c.worker end at.item member.worked.ready.shaped.inboxes at.next in
    let long : length member.c.worker.ins.items ≡ length member.a.worker.ins.items =
    sym (length-map member.c.worker.ins.items in_ring) ∙ (ap (λ (names : List RingName). length names) member.worked.work.in_rings
    ∙ (length-map member.before.ins.items in_ring ∙ ap (λ v. length v.items) member.worked.ends.ins)) in
    let l : HasLane lanes ends who end = has_lane channels old lanes ends who end member.a t.stand.laid_out member.at_first (subst (λ (n : ℕ). end < n) long there) in
    let lane : IsBroughtOn ran new (ends_of_lane lanes l.lane) = brought t who end l in
    let out : OutEnd = giving_end ran (ends_of_lane lanes l.lane) in
    let taking : InEnd = taking_end ran (ends_of_lane lanes l.lane) in
    let next : next_in taking ≡ Some at.item = ap next_in (taking_is ran lanes ends who end member.c l member.at_run) ∙ at.next in
    let first : StandsFirst (under_way_between out taking) (left_between out taking) at.item = stands_by taking.inbox taking.known (left_between out taking) out.outbox at.item next lane.knew in
    never t who end member l at.item (subst (λ (inbox : List Tagged). StandsFirst inbox (left_between out taking) at.item) (sym lane.inbox) first) at.strange
