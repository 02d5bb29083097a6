-- The ports of a channel that crosses, in the parts at its ends.
use Rattle.std.proofs.Common.{◌≡◌, ◌<◌, ◌≤◌, ◌+◌, ◌^◌, ◌==◌, inl, not, if◌then◌else◌, All, Bool, true, false, filter, ℕ, Some, List, length, get_or, map, take_all, refl, ap, ap₂, sym, ◌∙◌, subst, arith, true≢false, eq-eqb, eqb-true}
use Rattle.std.proofs.lemmas.List.{get_or-map, length-map}
use Rattle.std.proofs.lemmas.List.FromFn.{get_or-map-range_with_len, get_or-range_with_len, length-range_with_len}
use Rattle.std.proofs.lemmas.Option.{get_or_from_slice_get, slice_get-get_or, slice_get_within}
use Rattle.std.specs.List.{range_with_len, slice_get}
use Rattle.mc_box.specs.Boxes.{BoxState}
use Rattle.mc_part.specs.Divisions.{boxes_in, channels_in, is_crossing, is_part, members, part_of, place_in, starts_in}
use Rattle.mc_part.specs.DividedParts.{HasBoxes}
use Rattle.mc_part.proofs.Leads.{are_channels}
use Rattle.mc_part.proofs.Numbers.{AreWhole as AreAllSlots, are_whole}
use Rattle.mc_part.proofs.Placed.{place_of_crossing, placed_at, tunnel_count as tunnels_there}
use Rattle.mc_part.proofs.Ranks.{Found, rank_back, rank_found}
use Rattle.mc_merge.specs.Lanes.{absent_channel}
use Rattle.mc_model.specs.Worlds.{AreChannels, ChannelState, WorldState, box_at, channel_number_limit, first_world}
use Rattle.mc_divided.specs.Laying.{AreWired, IsRinged, first_slot, first_slots, numbered_port, ports_in}
use Rattle.mc_divided.specs.Networks.{AreJoined, IsJoined, crossing_at, is_apart}
use Rattle.mc_divided.specs.declared.network.Crossing.{Crossing}
use Rattle.mc_divided.proofs.LaidOut.{HaveLaid, IsRunAt, run_at}
use Rattle.mc_divided.proofs.PortSlots.{IsPortOf, all_come_in, all_go_out, tables_by}
use Rattle.mc_divided.proofs.Together.{channels_join}
use Rattle.mc_part.specs.Carrying.{AllComeIn, AllGoOut, tunnel_count}
use Rattle.mc_part.specs.Parts.{tables_of}
use Rattle.mc_part.specs.Ports.{sides}
use Rattle.mc_part.specs.declared.part_run.PartRun.{PartRun}
use Rattle.mc_part.specs.declared.port.Port.{Port}
use Rattle.mc_port.specs.Ends.{IsPair, given, in_ring, out_ring, received}
use Rattle.mc_signal.specs.declared.Tagged.{Tagged}

no_start : (k : ℕ) → 0 + k ≡ k
no_start k = omega arith

-- ---- a port in its part

pub record HasPort (run : PartRun) (channel : ChannelState) (k : ℕ) (a : Port) : Type 0 where
  pub port : Port
  pub there : slice_get run.part.ports.items k ≡ Some port
  pub from_is : port.from ≡ a.from
  pub to_is : port.to ≡ a.to
  pub few : k < channel_number_limit
  pub count : tunnel_count (tables_of run.part) k ≡ length channel.tunnels
  pub goes : AllGoOut (tables_of run.part) k port
  pub comes : AllComeIn (tables_of run.part) k port

-- on which side it stands
starts_at : (assigned : List ℕ) (channels : List ChannelState) (part k : ℕ) (channel : ChannelState) (ports : List Port) (a : Port) → sides ports ≡ starts_in assigned channels part
    → slice_get (filter (is_crossing assigned part) channels) k ≡ Some channel → slice_get ports k ≡ Some a → is_part part (part_of assigned channel.from) ≡ a.starts_here
starts_at assigned channels part k channel ports a are at there =
    let crossing : List ChannelState = filter (is_crossing assigned part) channels in
    let start : ChannelState → Bool = (λ (e : ChannelState). is_part part (part_of assigned e.from)) in
    let one : get_or (sides ports) k true ≡ a.starts_here =
    get_or-map (λ (p : Port). p.starts_here) ports k a true (slice_get_within ports k a there) ∙ ap (λ (p : Port). p.starts_here) (get_or_from_slice_get ports k a a there) in
    let two : get_or (starts_in assigned channels part) k true ≡ start channel =
    get_or-map start crossing k channel true (slice_get_within crossing k channel at) ∙ ap start (get_or_from_slice_get crossing k channel channel at) in
    sym two ∙ (sym (ap (λ (l : List Bool). get_or l k true) are) ∙ one)

below_limit : (k n : ℕ) → k < n → n ≤ 2 ^ 28 → k < 2 ^ 28
below_limit k n below few = omega arith

pub has_port : (boxes : List BoxState) (channels : List ChannelState) (lanes : List (List Tagged)) (assigned : List ℕ) (lists : List (List Port)) (runs : List PartRun) (part c : ℕ) (channel : ChannelState) (a : Port)
    → HaveLaid boxes channels lanes assigned lists runs → (at : IsRunAt boxes channels lanes assigned lists runs part) → slice_get channels c ≡ Some channel → is_crossing assigned part channel ≡ true
    → sides (ports_in lists part) ≡ starts_in assigned channels part → slice_get (ports_in lists part) (place_in assigned channels part c) ≡ Some a
    → HasPort at.run channel (place_in assigned channels part c) a
has_port boxes channels lanes assigned lists runs part c channel a have at there crosses are port_there =
    let world : WorldState = first_world boxes channels in
    let ds : List ChannelState = channels_in assigned channels part in
    let k : ℕ = place_in assigned channels part c in
    let n : ℕ = length (boxes_in world assigned part) in
    let all : AreAllSlots assigned channels = are_whole world assigned have.whole.numbered have.each in
    let below : k < length ds = slice_get_within ds k _ (placed_at assigned channels part c channel there (inl crosses)) in
    let ds_are : AreChannels ds = are_channels assigned channels part have.whole.channels_are in
    let port : Port = numbered_port n (first_slots ds) k a in
    let rank_at : slice_get (filter (is_crossing assigned part) channels) k ≡ Some channel =
    ap (λ (m : ℕ). slice_get (filter (is_crossing assigned part) channels) m) (place_of_crossing assigned channels part c channel there crosses) ∙ rank_found (is_crossing assigned part) channels c channel there crosses in
    let of : IsPortOf assigned channels part k port = record {
      c = c;
      channel = channel;
      at = there;
      crosses = crosses;
      place_is = refl;
      starts = starts_at assigned channels part k channel (ports_in lists part) a are rank_at port_there;
      holder = ap (λ (m : ℕ). m + k) (length-map (members assigned part) (box_at world));
      first = ap (λ (m : ℕ). m + (if a.starts_here then 0 else 1)) (get_or-map-range_with_len (first_slot ds) 0 (length ds) k k 0 below (no_start k));
    } in
    let here = placed_at assigned channels part c channel there (inl crosses) in
    let count : length (get_or ds k absent_channel).tunnels ≡ length channel.tunnels =
    ap (λ (e : ChannelState). length e.tunnels) (get_or_from_slice_get ds k _ absent_channel here)
    ∙ tunnels_there (is_part part (part_of assigned channel.from)) (is_part part (part_of assigned channel.to)) channel.tunnels 0 in
    record {
      port = port;
      there = at.laid.ports_are.each k a port_there;
      from_is = refl;
      to_is = refl;
      few = below_limit k (length ds) below ds_are.few;
      count = ap (λ (l : List ChannelState). length (get_or l k absent_channel).tunnels) at.laid.channels_are ∙ count;
      goes = subst (λ (l : List ChannelState). AllGoOut (tables_by l) k port) (sym at.laid.channels_are) (all_go_out assigned channels part k port all of);
      comes = subst (λ (l : List ChannelState). AllComeIn (tables_by l) k port) (sym at.laid.channels_are) (all_come_in assigned channels part k port have.whole.channels_are of);
    }

-- ---- both ends

join : (from to : PartRun) (channel : ChannelState) (i j : ℕ) (a b : Port) → HasPort from channel i a → HasPort to channel j b → IsPair a.to b.from → received b.from ≡ given a.to → AreJoined from.part to.part i j
join from to channel i j a b one two pair even = record {
  out = one.port;
  into = two.port;
  sends = one.there;
  takes = two.there;
  pair = ap out_ring one.to_is ∙ (pair ∙ sym (ap in_ring two.from_is));
  sender_few = one.few;
  taker_few = two.few;
  one_count = one.count ∙ sym two.count;
  goes = one.goes;
  comes = two.comes;
  even = ap received two.from_is ∙ (even ∙ sym (ap given one.to_is));
}

-- a channel that crosses
record IsCrossingAt (assigned : List ℕ) (channels : List ChannelState) (crossing : Crossing) : Type 0 where
  c : ℕ
  below : c < length channels
  apart : is_apart assigned channels c ≡ true
  is : crossing ≡ crossing_at assigned channels c

crossing_back : (assigned : List ℕ) (channels : List ChannelState) (crossings : List Crossing) (k : ℕ) (d : Crossing)
    → crossings ≡ map (crossing_at assigned channels) (filter (is_apart assigned channels) (range_with_len 0 (length channels))) → k < length crossings → IsCrossingAt assigned channels (get_or crossings k d)
crossing_back assigned channels crossings k d are below =
    let numbers : List ℕ = filter (is_apart assigned channels) (range_with_len 0 (length channels)) in
    let low : k < length numbers = subst (λ (n : ℕ). k < n) (ap length are ∙ length-map numbers (crossing_at assigned channels)) below in
    let c : ℕ = get_or numbers k 0 in
    let found : Found (is_apart assigned channels) (range_with_len 0 (length channels)) k c = rank_back (is_apart assigned channels) (range_with_len 0 (length channels)) k c (slice_get-get_or numbers k 0 low) in
    let inside : found.at < length channels =
    subst (λ (n : ℕ). found.at < n) (length-range_with_len 0 (length channels)) (slice_get_within (range_with_len 0 (length channels)) found.at c found.is) in
    let c_is : found.at ≡ c = sym (no_start found.at) ∙ (sym (get_or-range_with_len 0 (length channels) found.at 0 inside) ∙ get_or_from_slice_get (range_with_len 0 (length channels)) found.at c 0 found.is) in
    record {
      c = c;
      below = subst (λ (n : ℕ). n < length channels) c_is inside;
      apart = found.passes;
      is = ap (λ (l : List Crossing). get_or l k d) are ∙ get_or-map (crossing_at assigned channels) numbers k 0 d low;
    }

not_true : (b : Bool) → not b ≡ true → b ≡ false
not_true true is = absurd (true≢false (sym is))
not_true false is = refl

both_cross : (assigned : List ℕ) (channel : ChannelState) (p q : ℕ) → p ≡ part_of assigned channel.from → q ≡ part_of assigned channel.to → (q == p) ≡ false → (p == q) ≡ false
    → (is_crossing assigned p channel ≡ true) × (is_crossing assigned q channel ≡ true)
both_cross assigned channel p q from_is to_is one two = (
  ap₂ (λ (a b : Bool). if a then not b else b) (eq-eqb (part_of assigned channel.from) p (sym from_is)) (ap (λ (n : ℕ). n == p) (sym to_is) ∙ one),
  ap₂ (λ (a b : Bool). if a then not b else b) (ap (λ (n : ℕ). n == q) (sym from_is) ∙ two) (eq-eqb (part_of assigned channel.to) q (sym to_is)),
)

flip_false : (p q : ℕ) → (q == p) ≡ false → (p == q) ≡ false
flip_false p q is = by (p == q) refl where
  by : (b : Bool) → (p == q) ≡ b → (p == q) ≡ false
  by true same = absurd (true≢false (sym (eq-eqb q p (sym (eqb-true p q same))) ∙ is))
  by false same = same

joined_at : (boxes : List BoxState) (channels : List ChannelState) (lanes : List (List Tagged)) (assigned : List ℕ) (lists : List (List Port)) (runs : List PartRun) (c : ℕ)
    → HaveLaid boxes channels lanes assigned lists runs → ((part : ℕ) → part < length runs → sides (ports_in lists part) ≡ starts_in assigned channels part)
    → c < length channels → is_apart assigned channels c ≡ true → IsRinged lists (crossing_at assigned channels c) → IsJoined runs (crossing_at assigned channels c)
joined_at boxes channels lanes assigned lists runs c have sides_are below apart ringed =
    let channel : ChannelState = get_or channels c absent_channel in
    let at : slice_get channels c ≡ Some channel = slice_get-get_or channels c absent_channel below in
    let ends : HasBoxes (length assigned) channel = channels_join boxes channels lanes assigned have.whole have.each c absent_channel below in
    let p : ℕ = part_of assigned channel.from in
    let q : ℕ = part_of assigned channel.to in
    let in_p : p < length runs = have.parts channel.from 0 ends.from in
    let in_q : q < length runs = have.parts channel.to 0 ends.to in
    let differ : (q == p) ≡ false = not_true (q == p) apart in
    let cross = both_cross assigned channel p q refl refl differ (flip_false p q differ) in
    let run_p : IsRunAt boxes channels lanes assigned lists runs p = run_at boxes channels lanes assigned lists runs p have in_p in
    let run_q : IsRunAt boxes channels lanes assigned lists runs q = run_at boxes channels lanes assigned lists runs q have in_q in
    let one : HasPort run_p.run channel (place_in assigned channels p c) ringed.from =
    has_port boxes channels lanes assigned lists runs p c channel ringed.from have run_p at cross.0 (sides_are p in_p) ringed.from_there in
    let two : HasPort run_q.run channel (place_in assigned channels q c) ringed.to =
    has_port boxes channels lanes assigned lists runs q c channel ringed.to have run_q at cross.1 (sides_are q in_q) ringed.to_there in
    record {
      from = run_p.run;
      to = run_q.run;
      from_there = run_p.there;
      to_there = run_q.there;
      there = join run_p.run run_q.run channel (place_in assigned channels p c) (place_in assigned channels q c) ringed.from ringed.to one two ringed.rings.there ringed.rings.even;
      back = join run_q.run run_p.run channel (place_in assigned channels q c) (place_in assigned channels p c) ringed.to ringed.from two one ringed.rings.back ringed.rings.even_back;
    }

pub all_sides : (assigned : List ℕ) (channels : List ChannelState) (count : ℕ) (lists : List (List Port)) (crossings : List Crossing) → AreWired assigned channels count (length channels) lists crossings
    → (part : ℕ) → part < count → sides (ports_in lists part) ≡ starts_in assigned channels part
all_sides assigned channels count lists crossings wired part below =
    wired.sides_are part below ∙ ap (λ (l : List ChannelState). starts_in assigned l part) (take_all (length channels) channels (omega arith))

pub all_joined : (boxes : List BoxState) (channels : List ChannelState) (lanes : List (List Tagged)) (assigned : List ℕ) (lists : List (List Port)) (runs : List PartRun) (crossings : List Crossing)
    → HaveLaid boxes channels lanes assigned lists runs → AreWired assigned channels (length runs) (length channels) lists crossings → All (IsJoined runs) crossings
all_joined boxes channels lanes assigned lists runs crossings have wired k d below =
    let back : IsCrossingAt assigned channels (get_or crossings k d) = crossing_back assigned channels crossings k d wired.crossings_are below in
    subst (IsJoined runs) (sym back.is)
    (joined_at boxes channels lanes assigned lists runs back.c have (all_sides assigned channels (length runs) lists crossings wired) back.below back.apart
    (subst (IsRinged lists) back.is (wired.ringed k d below)))
