-- A division is a layout of its parts.
use Rattle.std.proofs.Common.{◌≡◌, ◌≢◌, ◌<◌, ◌≤◌, ◌+◌, ◌-◌, ◌*◌, ◌/◌, ◌%◌, ◌==◌, inl, inr, if◌then◌else◌, true, ℕ, zero, suc, Some, List, [], ◌∷◌, length, get_or, replicate, refl, ap, ap₂, sym, ◌∙◌, subst, arith, true≢false, eq-eqb, ne_eqb}
use Rattle.std.proofs.lemmas.Bool.{cases_eq}
use Rattle.std.proofs.lemmas.List.{get_or-map, length-map, length-replicate}
use Rattle.std.proofs.lemmas.List.FromFn.{fill_by_all}
use Rattle.std.proofs.lemmas.Option.{get_or_from_slice_get, slice_get-get_or, slice_get_within}
use Rattle.std.specs.List.{list_all, slice_get}
use Rattle.mc_signal.specs.declared.Tagged.{Tagged}
use Rattle.mc_box.specs.Boxes.{BoxState, no_box}
use Rattle.mc_merge.specs.Lanes.{HasBothBoxes, absent_channel, leads_from, leads_to}
use Rattle.mc_merge.proofs.LaneBoxes.{lanes_have_boxes}
use Rattle.mc_model.specs.Settles.{is_empty, is_quiet}
use Rattle.mc_model.specs.Sound.{IsNumbered}
use Rattle.mc_model.specs.Worlds.{AreChannels, ChannelState, WorldState, box_at, far}
use Rattle.mc_merge.specs.Account.{PartState}
use Rattle.mc_merge.specs.Phases.{IsApart, IsLayout, SendsAt, TakesAt, box_in, lane_in, stands_for}
use Rattle.mc_part.specs.DivisionLaws.{DivisionsAreLayouts}
use Rattle.mc_part.specs.Divisions.{IsDivided, channel_in, channels_in, home_at, is_part, lane_at, layout_of, members, part_of, place_in}
use Rattle.mc_part.proofs.Members.{home_inside, home_outside, member_at}
use Rattle.mc_part.proofs.Numbers.{are_whole, box_on}
use Rattle.mc_part.proofs.Placed.{Touches, end_in, placed_at, touch_on}
use Rattle.mc_part.proofs.Same.{chosen, other_one}
use Rattle.mc_part.proofs.Slots.{end_on}
use Rattle.mc_part.proofs.Tunnels.{far_keeps, itself_keeps, lanes_by, lanes_same, tunnels_of, tunnels_same}

-- ---- the ends of a lane

abbrev pub to_by : List ChannelState → ℕ → ℕ
to_by channels lane = if lane % 2 == 0 then (get_or channels (lane / 2) absent_channel).from else (get_or channels (lane / 2) absent_channel).to

abbrev pub from_by : List ChannelState → ℕ → ℕ
from_by channels lane = if lane % 2 == 0 then (get_or channels (lane / 2) absent_channel).to else (get_or channels (lane / 2) absent_channel).from

from_on : (side : ℕ) (channel : ChannelState) → side < 2 → (if side == 0 then channel.to else channel.from) ≡ end_on (1 - side) channel
from_on zero channel low = refl
from_on (suc zero) channel low = refl
from_on (suc (suc side)) channel low = absurd (omega arith)

lane_sides : (p side : ℕ) → side < 2 → ((2 * p + side) % 2 ≡ side) × ((2 * p + side) / 2 ≡ p)
lane_sides p side low = (omega arith, omega arith)

pub to_there : (channels : List ChannelState) (p side : ℕ) → side < 2 → to_by channels (2 * p + side) ≡ end_on side (get_or channels p absent_channel)
to_there channels p side low =
    let parts = lane_sides p side low in
    ap₂ (λ (b c : ℕ). end_on b (get_or channels c absent_channel)) parts.0 parts.1

pub from_there : (channels : List ChannelState) (p side : ℕ) → side < 2 → from_by channels (2 * p + side) ≡ end_on (1 - side) (get_or channels p absent_channel)
from_there channels p side low =
    let parts = lane_sides p side low in
    ap₂ (λ (b c : ℕ). if b == 0 then (get_or channels c absent_channel).to else (get_or channels c absent_channel).from) parts.0 parts.1
    ∙ from_on side (get_or channels p absent_channel) low

-- an end of a channel that touches the part, there
pub end_there : (assigned : List ℕ) (channels : List ChannelState) (part c side : ℕ) (channel : ChannelState) → slice_get channels c ≡ Some channel → Touches assigned part channel
    → end_on side (get_or (channels_in assigned channels part) (place_in assigned channels part c) absent_channel) ≡ box_on assigned part (length (members assigned part) + place_in assigned channels part c) side channel
end_there assigned channels part c side channel at touches =
    let holder : ℕ = length (members assigned part) + place_in assigned channels part c in
    ap (end_on side) (get_or_from_slice_get (channels_in assigned channels part) (place_in assigned channels part c) (channel_in assigned part holder channel) absent_channel (placed_at assigned channels part c channel at touches))
    ∙ end_in assigned part holder channel side

-- ---- a box at an end of a lane

record IsAtEnd (assigned : List ℕ) (channels : List ChannelState) (c side who : ℕ) (channel : ChannelState) : Type 0 where
  touches : Touches assigned (part_of assigned who) channel
  inside : place_in assigned channels (part_of assigned who) c < length (channels_in assigned channels (part_of assigned who))
  is : end_on side (get_or (channels_in assigned channels (part_of assigned who)) (place_in assigned channels (part_of assigned who) c) absent_channel) ≡ (home_at assigned who).1

at_end : (assigned : List ℕ) (channels : List ChannelState) (c side who : ℕ) (channel : ChannelState) → slice_get channels c ≡ Some channel → who ≡ end_on side channel → IsAtEnd assigned channels c side who channel
at_end assigned channels c side who channel at is =
    let part : ℕ = part_of assigned who in
    let of : part_of assigned (end_on side channel) ≡ part = ap (part_of assigned) (sym is) in
    let touches : Touches assigned part channel = touch_on assigned part side channel of in
    let holder : ℕ = length (members assigned part) + place_in assigned channels part c in
    record {
      touches = touches;
      inside = slice_get_within (channels_in assigned channels part) (place_in assigned channels part c) (channel_in assigned part holder channel) (placed_at assigned channels part c channel at touches);
      is = end_there assigned channels part c side channel at touches
          ∙ (chosen (is_part part (part_of assigned (end_on side channel))) (home_at assigned (end_on side channel)).1 holder (eq-eqb (part_of assigned (end_on side channel)) part of)
          ∙ ap (λ (w : ℕ). (home_at assigned w).1) (sym is));
    }

-- and one that isn't in the part of the other
end_away : (assigned : List ℕ) (channels : List ChannelState) (c side part : ℕ) (channel : ChannelState) → slice_get channels c ≡ Some channel → Touches assigned part channel
    → part_of assigned (end_on side channel) ≢ part
    → end_on side (get_or (channels_in assigned channels part) (place_in assigned channels part c) absent_channel) ≡ length (members assigned part) + place_in assigned channels part c
end_away assigned channels c side part channel at touches apart =
    let holder : ℕ = length (members assigned part) + place_in assigned channels part c in
    end_there assigned channels part c side channel at touches
    ∙ other_one (is_part part (part_of assigned (end_on side channel))) (home_at assigned (end_on side channel)).1 holder (ne_eqb (part_of assigned (end_on side channel)) part apart)

-- ---- parts of a division

low : (s : ℕ) → s % 2 < 2
low s = omega arith

half_in : (lane n : ℕ) → lane < 2 * n → lane / 2 < n
half_in lane n below = omega arith

lane_in_part : (p n side : ℕ) → p < n → side < 2 → 2 * p + side < 2 * n
lane_in_part p n side below low = omega arith

lane_count : (world : WorldState) (assigned : List ℕ) (tables : ℕ → WorldState) (states : ℕ → PartState) (part : ℕ) → IsDivided world assigned tables states
    → length (states part).lanes ≡ 2 * length (channels_in assigned world.channels part)
lane_count world assigned tables states part divided = ap length (divided.lanes part) ∙ length-replicate (2 * length (channels_in assigned world.channels part)) []

pub box_count : (world : WorldState) (assigned : List ℕ) (tables : ℕ → WorldState) (states : ℕ → PartState) (part : ℕ) → IsDivided world assigned tables states
    → length (states part).boxes ≡ length (members assigned part)
box_count world assigned tables states part divided = ap length (divided.boxes part) ∙ length-map (members assigned part) (box_at world)

-- the channel of a lane is there
record HasChannel (world : WorldState) (lane : ℕ) : Type 0 where
  at : slice_get world.channels (lane / 2) ≡ Some (get_or world.channels (lane / 2) absent_channel)
  sender : leads_from world lane < length world.boxes
  taker : leads_to world lane < length world.boxes
  from_is : leads_from world lane ≡ end_on (1 - lane % 2) (get_or world.channels (lane / 2) absent_channel)

has_channel : (world : WorldState) (lane : ℕ) → IsNumbered world → AreChannels world.channels → lane < length world.lanes → HasChannel world lane
has_channel world lane numbered channels inside =
    let both : HasBothBoxes world lane = lanes_have_boxes world lane numbered channels inside in
    record {
      at = slice_get-get_or world.channels (lane / 2) absent_channel (half_in lane (length world.channels) (subst (λ (n : ℕ). lane < n) numbered.lanes inside));
      sender = both.sender;
      taker = both.taker;
      from_is = from_on (lane % 2) (get_or world.channels (lane / 2) absent_channel) (low lane);
    }

sends_at : (world : WorldState) (assigned : List ℕ) (tables : ℕ → WorldState) (states : ℕ → PartState) (lane : ℕ) → IsNumbered world → AreChannels world.channels → IsDivided world assigned tables states
    → lane < length world.lanes
    → SendsAt world (layout_of world assigned) tables states lane (part_of assigned (leads_from world lane)) (lane_at assigned world.channels (part_of assigned (leads_from world lane)) lane)
sends_at world assigned tables states lane numbered channels divided inside =
    let has : HasChannel world lane = has_channel world lane numbered channels inside in
    let who : ℕ = leads_from world lane in
    let part : ℕ = part_of assigned who in
    let c : ℕ = lane / 2 in
    let at : ℕ = lane_at assigned world.channels part lane in
    let in_who : who < length assigned = subst (λ (n : ℕ). who < n) (sym divided.each) has.sender in
    let end : IsAtEnd assigned world.channels c (1 - lane % 2) who (get_or world.channels c absent_channel) =
    at_end assigned world.channels c (1 - lane % 2) who (get_or world.channels c absent_channel) has.at has.from_is in
    let leads : leads_from (tables part) at ≡ (home_at assigned who).1 =
    ap (λ (l : List ChannelState). from_by l at) (divided.channels part) ∙ (from_there (channels_in assigned world.channels part) (place_in assigned world.channels part c) (lane % 2) (low lane) ∙ end.is) in
    record {
      there = subst (λ (n : ℕ). at < n) (sym (lane_count world assigned tables states part divided))
          (lane_in_part (place_in assigned world.channels part c) (length (channels_in assigned world.channels part)) (lane % 2) end.inside (low lane));
      here = subst (λ (n : ℕ). n < length (states part).boxes) (sym leads)
          (subst (λ (n : ℕ). (home_at assigned who).1 < n) (sym (box_count world assigned tables states part divided)) (home_inside assigned who in_who));
      home = ap (λ (n : ℕ). (part, n)) (sym leads);
      tunnels = λ local.
          ap₂ (λ (l : List ChannelState) (n : ℕ). lanes_by (λ s. far s) l n at local) (divided.channels part) leads
          ∙ lanes_same (λ s. far s) assigned world.channels part who lane local (get_or world.channels c absent_channel) far_keeps (are_whole world assigned numbered divided.each) in_who refl has.at end.touches;
    }

takes_at : (world : WorldState) (assigned : List ℕ) (tables : ℕ → WorldState) (states : ℕ → PartState) (lane : ℕ) → IsNumbered world → AreChannels world.channels → IsDivided world assigned tables states
    → lane < length world.lanes
    → TakesAt world (layout_of world assigned) tables states lane (part_of assigned (leads_to world lane)) (lane_at assigned world.channels (part_of assigned (leads_to world lane)) lane)
takes_at world assigned tables states lane numbered channels divided inside =
    let has : HasChannel world lane = has_channel world lane numbered channels inside in
    let who : ℕ = leads_to world lane in
    let part : ℕ = part_of assigned who in
    let c : ℕ = lane / 2 in
    let at : ℕ = lane_at assigned world.channels part lane in
    let in_who : who < length assigned = subst (λ (n : ℕ). who < n) (sym divided.each) has.taker in
    let end : IsAtEnd assigned world.channels c (lane % 2) who (get_or world.channels c absent_channel) =
    at_end assigned world.channels c (lane % 2) who (get_or world.channels c absent_channel) has.at refl in
    let leads : leads_to (tables part) at ≡ (home_at assigned who).1 =
    ap (λ (l : List ChannelState). to_by l at) (divided.channels part) ∙ (to_there (channels_in assigned world.channels part) (place_in assigned world.channels part c) (lane % 2) (low lane) ∙ end.is) in
    record {
      there = subst (λ (n : ℕ). at < n) (sym (lane_count world assigned tables states part divided))
          (lane_in_part (place_in assigned world.channels part c) (length (channels_in assigned world.channels part)) (lane % 2) end.inside (low lane));
      here = subst (λ (n : ℕ). n < length (states part).boxes) (sym leads)
          (subst (λ (n : ℕ). (home_at assigned who).1 < n) (sym (box_count world assigned tables states part divided)) (home_inside assigned who in_who));
      home = ap (λ (n : ℕ). (part, n)) (sym leads);
      tunnels = λ local.
          ap₂ (λ (l : List ChannelState) (n : ℕ). lanes_by (λ s. s) l n at local) (divided.channels part) leads
          ∙ lanes_same (λ s. s) assigned world.channels part who lane local (get_or world.channels c absent_channel) itself_keeps (are_whole world assigned numbered divided.each) in_who refl has.at end.touches;
    }

past_sum : (n m k : ℕ) → n ≡ m → n ≤ m + k
past_sum n m k same = omega arith

-- ends in two parts stand each beside a place holder
is_apart : (world : WorldState) (assigned : List ℕ) (tables : ℕ → WorldState) (states : ℕ → PartState) (lane : ℕ) → IsNumbered world → AreChannels world.channels → IsDivided world assigned tables states
    → lane < length world.lanes → part_of assigned (leads_from world lane) ≢ part_of assigned (leads_to world lane) → IsApart (layout_of world assigned) tables states lane
is_apart world assigned tables states lane numbered channels divided inside apart =
    let has : HasChannel world lane = has_channel world lane numbered channels inside in
    let c : ℕ = lane / 2 in
    let channel : ChannelState = get_or world.channels c absent_channel in
    let from : ℕ = part_of assigned (leads_from world lane) in
    let to : ℕ = part_of assigned (leads_to world lane) in
    let one : IsAtEnd assigned world.channels c (1 - lane % 2) (leads_from world lane) channel = at_end assigned world.channels c (1 - lane % 2) (leads_from world lane) channel has.at has.from_is in
    let two : IsAtEnd assigned world.channels c (lane % 2) (leads_to world lane) channel = at_end assigned world.channels c (lane % 2) (leads_to world lane) channel has.at refl in
    let away : leads_to (tables from) (lane_at assigned world.channels from lane) ≡ length (members assigned from) + place_in assigned world.channels from c =
    ap (λ (l : List ChannelState). to_by l (lane_at assigned world.channels from lane)) (divided.channels from)
    ∙ (to_there (channels_in assigned world.channels from) (place_in assigned world.channels from c) (lane % 2) (low lane)
    ∙ end_away assigned world.channels c (lane % 2) from channel has.at one.touches (λ same. apart (sym same))) in
    let off : leads_from (tables to) (lane_at assigned world.channels to lane) ≡ length (members assigned to) + place_in assigned world.channels to c =
    ap (λ (l : List ChannelState). from_by l (lane_at assigned world.channels to lane)) (divided.channels to)
    ∙ (from_there (channels_in assigned world.channels to) (place_in assigned world.channels to c) (lane % 2) (low lane)
    ∙ end_away assigned world.channels c (1 - lane % 2) to channel has.at two.touches (λ same. apart (ap (part_of assigned) has.from_is ∙ same))) in
    record {
      away = subst (λ (n : ℕ). length (states from).boxes ≤ n) (sym away)
          (past_sum (length (states from).boxes) (length (members assigned from)) (place_in assigned world.channels from c) (box_count world assigned tables states from divided));
      off = subst (λ (n : ℕ). length (states to).boxes ≤ n) (sym off)
          (past_sum (length (states to).boxes) (length (members assigned to)) (place_in assigned world.channels to c) (box_count world assigned tables states to divided));
    }

is_layout : (world : WorldState) (assigned : List ℕ) (tables : ℕ → WorldState) (states : ℕ → PartState) → IsNumbered world → AreChannels world.channels → IsDivided world assigned tables states
    → IsLayout world (layout_of world assigned) tables states
is_layout world assigned tables states numbered channels divided = record {
  each_lane = numbered.lanes;
  tunnels = λ who inside local.
      ap (λ (l : List ChannelState). tunnels_of l (home_at assigned who).1 local) (divided.channels (part_of assigned who))
      ∙ tunnels_same assigned world.channels (part_of assigned who) who local (are_whole world assigned numbered divided.each) (subst (λ (n : ℕ). who < n) (sym divided.each) inside) refl;
  none = λ who outside.
      let same : length (states (part_of assigned who)).boxes ≡ (home_at assigned who).1 =
      box_count world assigned tables states (part_of assigned who) divided ∙ home_outside assigned who (subst (λ (n : ℕ). n ≤ who) (sym divided.each) outside) in
      omega arith;
  sends = λ lane inside. sends_at world assigned tables states lane numbered channels divided inside;
  takes = λ lane inside. takes_at world assigned tables states lane numbered channels divided inside;
  kinds = λ lane inside. elim (cases_eq (part_of assigned (leads_from world lane)) (part_of assigned (leads_to world lane))) [
    | inl same ↦ inl (ap (λ (part : ℕ). (part, lane_at assigned world.channels part lane)) same)
    | inr apart ↦ inr (is_apart world assigned tables states lane numbered channels divided inside apart)
  ];
}

-- ---- the world that they stand for

-- a lane with nothing under way
abbrev no_signals : List Tagged
no_signals = []

none_under_way : (n i : ℕ) → get_or (replicate n no_signals) i no_signals ≡ no_signals
none_under_way zero i = refl
none_under_way (suc n) zero = refl
none_under_way (suc n) (suc i) = none_under_way n i

pub lane_empty : (world : WorldState) (assigned : List ℕ) (tables : ℕ → WorldState) (states : ℕ → PartState) (part at : ℕ) → IsDivided world assigned tables states
    → get_or (states part).lanes at no_signals ≡ no_signals
lane_empty world assigned tables states part at divided =
    ap (λ (l : List (List Tagged)). get_or l at []) (divided.lanes part) ∙ none_under_way (2 * length (channels_in assigned world.channels part)) at

quiet_at : (lanes : List (List Tagged)) (k : ℕ) → list_all is_empty lanes ≡ true → get_or lanes k no_signals ≡ no_signals
quiet_at [] k quiet = refl
quiet_at ([] ∷ lanes) zero quiet = refl
quiet_at ((tagged ∷ lane) ∷ lanes) zero quiet = absurd (true≢false (sym quiet))
quiet_at ([] ∷ lanes) (suc k) quiet = quiet_at lanes k quiet
quiet_at ((tagged ∷ lane) ∷ lanes) (suc k) quiet = absurd (true≢false (sym quiet))

box_is : (world : WorldState) (assigned : List ℕ) (tables : ℕ → WorldState) (states : ℕ → PartState) (who : ℕ) → IsDivided world assigned tables states → who < length world.boxes
    → box_at world who ≡ box_in (layout_of world assigned) states who
box_is world assigned tables states who divided inside =
    let part : ℕ = part_of assigned who in
    let at : ℕ = (home_at assigned who).1 in
    let in_who : who < length assigned = subst (λ (n : ℕ). who < n) (sym divided.each) inside in
    sym (ap (λ (l : List BoxState). get_or l at no_box) (divided.boxes part)
    ∙ (get_or-map (box_at world) (members assigned part) at 0 no_box (home_inside assigned who in_who)
    ∙ ap (box_at world) (get_or_from_slice_get (members assigned part) at who 0 (member_at assigned part who in_who refl))))

is_whole : (world : WorldState) (assigned : List ℕ) (tables : ℕ → WorldState) (states : ℕ → PartState) → is_quiet world ≡ true → IsDivided world assigned tables states
    → stands_for world (layout_of world assigned) states ≡ world
is_whole world assigned tables states quiet divided =
    ap₂ (λ (boxes : List BoxState) (lanes : List (List Tagged)). record world { boxes = boxes; lanes = lanes })
    (sym (fill_by_all (box_in (layout_of world assigned) states) world.boxes (length world.boxes) no_box refl (λ who inside. box_is world assigned tables states who divided inside)))
    (sym (fill_by_all (lane_in (layout_of world assigned) states) world.lanes (length world.lanes) [] refl
    (λ lane inside. quiet_at world.lanes lane quiet ∙ sym (lane_empty world assigned tables states (part_of assigned (leads_to world lane)) (lane_at assigned world.channels (part_of assigned (leads_to world lane)) lane) divided))))

pub divisions_are_layouts : DivisionsAreLayouts
divisions_are_layouts world assigned tables states numbered channels quiet divided = record {
  laid = is_layout world assigned tables states numbered channels divided;
  empty = λ lane inside apart. lane_empty world assigned tables states (part_of assigned (leads_from world lane)) (lane_at assigned world.channels (part_of assigned (leads_from world lane)) lane) divided;
  whole = is_whole world assigned tables states quiet divided;
}
