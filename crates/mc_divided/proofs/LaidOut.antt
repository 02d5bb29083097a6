-- Parts that are laid out, beside the world that they are laid out of.
use Rattle.std.proofs.Common.{◌≡◌, ◌≢◌, ◌<◌, ◌≤◌, ◌+◌, ◌-◌, ◌*◌, ◌/◌, ◌%◌, ◌==◌, inl, inr, if◌then◌else◌, All, Bool, true, false, ℕ, zero, suc, Some, List, [], ◌∷◌, length, get_or, map, replicate, refl, ap, ap₂, sym, ◌∙◌, subst, arith, true≢false, eq-eqb, ne_eqb}
use Rattle.std.proofs.lemmas.Bool.{cases_lt}
use Rattle.std.proofs.lemmas.List.{length-replicate}
use Rattle.std.proofs.lemmas.List.FromFn.{fill_by_all}
use Rattle.std.proofs.lemmas.Option.{get_or_from_slice_get, none-some, slice_get-get_or, slice_get_within}
use Rattle.std.specs.List.{AllByRecursion, list_all, range_with_len, slice_get}
use Rattle.mc_box.specs.Boxes.{BoxState, no_box}
use Rattle.mc_part.specs.DivisionLaws.{StandFor}
use Rattle.mc_part.specs.Divisions.{boxes_in, channels_in, first_part, home_at, is_part, layout_of, part_of, place_in}
use Rattle.mc_part.specs.DividedParts.{HasBoxes, share_of}
use Rattle.mc_part.proofs.Filling.{none_past_parts}
use Rattle.mc_part.proofs.Layouts.{divisions_are_layouts}
use Rattle.mc_part.proofs.Placed.{Touches, touch_on}
use Rattle.mc_merge.specs.Lanes.{absent_channel, leads_from, leads_to}
use Rattle.mc_model.specs.Settles.{is_empty}
use Rattle.mc_model.specs.Worlds.{ChannelState, WorldState, box_at, first_world}
use Rattle.mc_divided.specs.Laying.{AreLaid, AreWhole, IsLaid, channel_numbers, end_of, lane_here, ports_in}
use Rattle.mc_divided.specs.Networks.{no_part, no_tables, states_among, tables_among}
use Rattle.mc_divided.proofs.ChannelNumbers.{number_there}
use Rattle.mc_divided.proofs.Together.{channels_join, share_is}
use Rattle.mc_part.specs.Parts.{state_of, tables_of}
use Rattle.mc_part.specs.declared.part_run.PartRun.{PartRun}
use Rattle.mc_part.specs.declared.port.Port.{Port}
use Rattle.mc_signal.specs.declared.Tagged.{Tagged}
use Rattle.mc_merge.specs.Account.{PartState}
use Rattle.mc_merge.specs.Phases.{AreEmptied, IsLayout, Layout, box_in, lane_in, stands_for}

-- what is known of parts that were laid out
pub record HaveLaid (boxes : List BoxState) (channels : List ChannelState) (lanes : List (List Tagged)) (assigned : List ℕ) (lists : List (List Port)) (runs : List PartRun) : Type 0 where
  pub whole : AreWhole boxes channels lanes
  pub lane_count : length lanes ≡ 2 * length channels
  pub each : length assigned ≡ length boxes
  pub some : 0 < length runs
  pub parts : All (λ (part : ℕ). part < length runs) assigned
  pub laid : AreLaid assigned channels lanes (share_of boxes assigned) lists (length runs) runs

-- ---- one part

pub map_there : {A B : Type 0} (f : A → B) (xs : List A) (k : ℕ) (x : A) (d : B) → slice_get xs k ≡ Some x → get_or (map f xs) k d ≡ f x
map_there f [] k x d is = absurd (none-some x is)
map_there f (y ∷ xs) zero x d is = ap f (get_or_from_slice_get (y ∷ xs) 0 x y is)
map_there f (y ∷ xs) (suc k) x d is = map_there f xs k x d is

pub map_past : {A B : Type 0} (f : A → B) (xs : List A) (k : ℕ) (d : B) → length xs ≤ k → get_or (map f xs) k d ≡ d
map_past f [] k d past = refl
map_past f (y ∷ xs) zero d past = absurd (omega arith)
map_past f (y ∷ xs) (suc k) d past = map_past f xs k d (omega arith)

element : {A : Type 0} (xs : List A) (k : ℕ) → k < length xs → (x : A) × (slice_get xs k ≡ Some x)
element [] k below = absurd (omega arith)
element (x ∷ xs) zero below = (x, refl)
element (x ∷ xs) (suc k) below = element xs k (omega arith)

pub record IsRunAt (boxes : List BoxState) (channels : List ChannelState) (lanes : List (List Tagged)) (assigned : List ℕ) (lists : List (List Port)) (runs : List PartRun) (part : ℕ) : Type 0 where
  pub run : PartRun
  pub there : slice_get runs part ≡ Some run
  pub laid : IsLaid assigned channels lanes part (boxes_in (first_world boxes channels) assigned part) (ports_in lists part) run
  pub state : states_among runs part ≡ state_of run.part
  pub tables : tables_among runs part ≡ tables_of run.part

pub run_at : (boxes : List BoxState) (channels : List ChannelState) (lanes : List (List Tagged)) (assigned : List ℕ) (lists : List (List Port)) (runs : List PartRun) (part : ℕ)
    → HaveLaid boxes channels lanes assigned lists runs → part < length runs → IsRunAt boxes channels lanes assigned lists runs part
run_at boxes channels lanes assigned lists runs part have below =
    let found = element runs part below in
    record {
      run = found.0;
      there = found.1;
      laid = subst (λ (l : List BoxState). IsLaid assigned channels lanes part l (ports_in lists part) found.0) (share_is (first_world boxes channels) assigned (length runs) part have.each below)
          (have.laid.each part found.0 found.1);
      state = map_there (λ (run : PartRun). state_of run.part) runs part found.0 no_part found.1;
      tables = map_there (λ (run : PartRun). tables_of run.part) runs part found.0 no_tables found.1;
    }

all_parts : (P : ℕ → Type 0) (xs : List ℕ) → All P xs → AllByRecursion P xs
all_parts P [] all = tt
all_parts P (x ∷ xs) all = (all 0 x (omega arith), all_parts P xs (λ k d below. all (suc k) d (omega arith)))

-- its boxes, channels and lanes, also past the last part
pub boxes_at : (boxes : List BoxState) (channels : List ChannelState) (lanes : List (List Tagged)) (assigned : List ℕ) (lists : List (List Port)) (runs : List PartRun) (part : ℕ)
    → HaveLaid boxes channels lanes assigned lists runs → (states_among runs part).boxes ≡ boxes_in (first_world boxes channels) assigned part
boxes_at boxes channels lanes assigned lists runs part have = elim (cases_lt part (length runs)) [
  | inl below ↦
      let at : IsRunAt boxes channels lanes assigned lists runs part = run_at boxes channels lanes assigned lists runs part have below in
      ap (λ (s : PartState). s.boxes) at.state ∙ at.laid.boxes_are
  | inr past ↦
      ap (λ (s : PartState). s.boxes) (map_past (λ (run : PartRun). state_of run.part) runs part no_part past)
      ∙ sym (ap (map (box_at (first_world boxes channels))) (none_past_parts assigned channels (length runs) part (all_parts (λ (p : ℕ). p < length runs) assigned have.parts) have.some past).0)
]

pub channels_at : (boxes : List BoxState) (channels : List ChannelState) (lanes : List (List Tagged)) (assigned : List ℕ) (lists : List (List Port)) (runs : List PartRun) (part : ℕ)
    → HaveLaid boxes channels lanes assigned lists runs → (tables_among runs part).channels ≡ channels_in assigned channels part
channels_at boxes channels lanes assigned lists runs part have = elim (cases_lt part (length runs)) [
  | inl below ↦
      let at : IsRunAt boxes channels lanes assigned lists runs part = run_at boxes channels lanes assigned lists runs part have below in
      ap (λ (w : WorldState). w.channels) at.tables ∙ at.laid.channels_are
  | inr past ↦
      ap (λ (w : WorldState). w.channels) (map_past (λ (run : PartRun). tables_of run.part) runs part no_tables past)
      ∙ sym (none_past_parts assigned channels (length runs) part (all_parts (λ (p : ℕ). p < length runs) assigned have.parts) have.some past).1
]

pub lanes_at : (boxes : List BoxState) (channels : List ChannelState) (lanes : List (List Tagged)) (assigned : List ℕ) (lists : List (List Port)) (runs : List PartRun) (part : ℕ)
    → HaveLaid boxes channels lanes assigned lists runs → length (states_among runs part).lanes ≡ 2 * length (channels_in assigned channels part)
lanes_at boxes channels lanes assigned lists runs part have = elim (cases_lt part (length runs)) [
  | inl below ↦
      let at : IsRunAt boxes channels lanes assigned lists runs part = run_at boxes channels lanes assigned lists runs part have below in
      ap (λ (s : PartState). length s.lanes) at.state ∙ at.laid.lane_count
  | inr past ↦
      ap (λ (s : PartState). length s.lanes) (map_past (λ (run : PartRun). state_of run.part) runs part no_part past)
      ∙ sym (ap (λ (l : List ChannelState). 2 * length l)
      (none_past_parts assigned channels (length runs) part (all_parts (λ (p : ℕ). p < length runs) assigned have.parts) have.some past).1)
]

-- ---- they are a layout

abbrev no_signals : List Tagged
no_signals = []

none_under_way : (n : ℕ) → list_all is_empty (replicate n no_signals) ≡ true
none_under_way zero = refl
none_under_way (suc n) = none_under_way n

-- with nothing under way
emptied : (boxes : List BoxState) (channels : List ChannelState) (lanes : List (List Tagged)) (assigned : List ℕ) (lists : List (List Port)) (runs : List PartRun) → HaveLaid boxes channels lanes assigned lists runs
    → StandFor (first_world boxes channels) assigned (tables_among runs) (first_part (first_world boxes channels) assigned)
emptied boxes channels lanes assigned lists runs have =
    let world : WorldState = first_world boxes channels in
    divisions_are_layouts world assigned (tables_among runs) (first_part world assigned) have.whole.numbered have.whole.channels_are (none_under_way (2 * length channels)) (record {
      each = have.each;
      channels = λ part. channels_at boxes channels lanes assigned lists runs part have;
      boxes = λ part. refl;
      lanes = λ part. refl;
    })

-- a layout asks only how many boxes and lanes there are
abbrev pub world_of : List BoxState → List ChannelState → List (List Tagged) → WorldState
world_of boxes channels lanes = record { boxes = boxes; channels = channels; lanes = lanes }

layout_for : (boxes others : List BoxState) (channels : List ChannelState) (lanes rests : List (List Tagged)) (layout : Layout) (tables : ℕ → WorldState) (a b : ℕ → PartState)
    → IsLayout (world_of boxes channels lanes) layout tables a → length others ≡ length boxes → length rests ≡ length lanes → ((part : ℕ) → length (b part).boxes ≡ length (a part).boxes)
    → ((part : ℕ) → length (b part).lanes ≡ length (a part).lanes) → IsLayout (world_of others channels rests) layout tables b
layout_for boxes others channels lanes rests layout tables a b laid count lane_count same same_lanes =
    let inside : (lane : ℕ) → lane < length rests → lane < length lanes = (λ (lane : ℕ) (low : lane < length rests). subst (λ (n : ℕ). lane < n) lane_count low) in
    record {
      each_lane = lane_count ∙ laid.each_lane;
      tunnels = λ who low local. laid.tunnels who (subst (λ (n : ℕ). who < n) count low) local;
      none = λ who past. subst (λ (n : ℕ). n ≤ (layout.homes who).1) (sym (same (layout.homes who).0)) (laid.none who (subst (λ (n : ℕ). n ≤ who) count past));
      sends = λ lane low.
          let one = laid.sends lane (inside lane low) in
          record {
            there = subst (λ (n : ℕ). (layout.senders lane).1 < n) (sym (same_lanes (layout.senders lane).0)) one.there;
            here = subst (λ (n : ℕ). leads_from (tables (layout.senders lane).0) (layout.senders lane).1 < n) (sym (same (layout.senders lane).0)) one.here;
            home = one.home;
            tunnels = one.tunnels;
          };
      takes = λ lane low.
          let one = laid.takes lane (inside lane low) in
          record {
            there = subst (λ (n : ℕ). (layout.takers lane).1 < n) (sym (same_lanes (layout.takers lane).0)) one.there;
            here = subst (λ (n : ℕ). leads_to (tables (layout.takers lane).0) (layout.takers lane).1 < n) (sym (same (layout.takers lane).0)) one.here;
            home = one.home;
            tunnels = one.tunnels;
          };
      kinds = λ lane low. elim (laid.kinds lane (inside lane low)) [
        | inl one ↦ inl one
        | inr apart ↦ inr (record {
          away = subst (λ (n : ℕ). n ≤ leads_to (tables (layout.senders lane).0) (layout.senders lane).1) (sym (same (layout.senders lane).0)) apart.away;
          off = subst (λ (n : ℕ). n ≤ leads_from (tables (layout.takers lane).0) (layout.takers lane).1) (sym (same (layout.takers lane).0)) apart.off;
        })
      ];
    }

pub are_layout : (boxes others : List BoxState) (channels : List ChannelState) (lanes rests : List (List Tagged)) (assigned : List ℕ) (lists : List (List Port)) (runs : List PartRun)
    → HaveLaid boxes channels lanes assigned lists runs → length others ≡ length boxes → length rests ≡ 2 * length channels
    → IsLayout (world_of others channels rests) (layout_of (world_of others channels rests) assigned) (tables_among runs) (states_among runs)
are_layout boxes others channels lanes rests assigned lists runs have count lane_count =
    let world : WorldState = first_world boxes channels in
    layout_for boxes others channels (replicate (2 * length channels) []) rests (layout_of world assigned) (tables_among runs) (first_part world assigned) (states_among runs)
    (emptied boxes channels lanes assigned lists runs have).laid count (lane_count ∙ sym (length-replicate (2 * length channels) no_signals))
    (λ part. ap length (boxes_at boxes channels lanes assigned lists runs part have))
    (λ part. lanes_at boxes channels lanes assigned lists runs part have ∙ sym (length-replicate (2 * length (channels_in assigned channels part)) no_signals))

-- ---- what is under way

half_in : (lane n : ℕ) → lane < 2 * n → lane / 2 < n
half_in lane n below = omega arith

side_low : (lane : ℕ) → lane % 2 < 2
side_low lane = omega arith

lane_whole : (lane : ℕ) → 2 * (lane / 2) + lane % 2 ≡ lane
lane_whole lane = omega arith

chosen_list : (b : Bool) (xs : List Tagged) → b ≡ true → (if b then xs else []) ≡ xs
chosen_list true xs is = refl
chosen_list false xs is = absurd (true≢false (sym is))

other_list : (b : Bool) (xs : List Tagged) → b ≡ false → (if b then xs else []) ≡ []
other_list true xs is = absurd (true≢false is)
other_list false xs is = refl

-- what a part has on the lane of a channel that touches it
lane_there : (boxes : List BoxState) (channels : List ChannelState) (lanes : List (List Tagged)) (assigned : List ℕ) (lists : List (List Port)) (runs : List PartRun) (part c side : ℕ) (channel : ChannelState)
    → HaveLaid boxes channels lanes assigned lists runs → part < length runs → slice_get channels c ≡ Some channel → Touches assigned part channel → side < 2
    → get_or (states_among runs part).lanes (2 * place_in assigned channels part c + side) [] ≡ lane_here assigned channels lanes part c side
lane_there boxes channels lanes assigned lists runs part c side channel have below at touches low =
    let one : IsRunAt boxes channels lanes assigned lists runs part = run_at boxes channels lanes assigned lists runs part have below in
    let number : slice_get (channel_numbers assigned channels part) (place_in assigned channels part c) ≡ Some c = number_there assigned channels part c channel at touches in
    ap (λ (s : PartState). get_or s.lanes (2 * place_in assigned channels part c + side) []) one.state
    ∙ (one.laid.lanes_are.first (place_in assigned channels part c) side (slice_get_within (channel_numbers assigned channels part) (place_in assigned channels part c) c number) low
    ∙ ap (λ (n : ℕ). lane_here assigned channels lanes part n side) (get_or_from_slice_get (channel_numbers assigned channels part) (place_in assigned channels part c) c 0 number))

-- the boxes at both ends of a channel are there
ends_below : (assigned : List ℕ) (count side : ℕ) (channel : ChannelState) → HasBoxes (length assigned) channel → All (λ (part : ℕ). part < count) assigned → part_of assigned (end_of side channel) < count
ends_below assigned count side channel ends parts = by (side == 0) where
  by : (b : Bool) → part_of assigned (if b then channel.from else channel.to) < count
  by true = parts channel.from 0 ends.from
  by false = parts channel.to 0 ends.to

pub lane_is : (boxes others : List BoxState) (channels : List ChannelState) (lanes rests : List (List Tagged)) (assigned : List ℕ) (lists : List (List Port)) (runs : List PartRun) (lane : ℕ)
    → HaveLaid boxes channels lanes assigned lists runs → lane < 2 * length channels
    → get_or lanes lane [] ≡ lane_in (layout_of (world_of others channels rests) assigned) (states_among runs) lane
lane_is boxes others channels lanes rests assigned lists runs lane have low =
    let c : ℕ = lane / 2 in
    let channel : ChannelState = get_or channels c absent_channel in
    let at : slice_get channels c ≡ Some channel = slice_get-get_or channels c absent_channel (half_in lane (length channels) low) in
    let part : ℕ = part_of assigned (end_of (lane % 2) channel) in
    let ends : HasBoxes (length assigned) channel = channels_join boxes channels lanes assigned have.whole have.each c absent_channel (half_in lane (length channels) low) in
    let below : part < length runs = ends_below assigned (length runs) (lane % 2) channel ends have.parts in
    let touches : Touches assigned part channel = touch_on assigned part (lane % 2) channel refl in
    sym (lane_there boxes channels lanes assigned lists runs part c (lane % 2) channel have below at touches (side_low lane)
    ∙ (chosen_list (is_part part (part_of assigned (end_of (lane % 2) channel))) (get_or lanes (2 * c + lane % 2) []) (eq-eqb (part_of assigned (end_of (lane % 2) channel)) part refl)
    ∙ ap (λ (n : ℕ). get_or lanes n []) (lane_whole lane)))

-- ---- nothing waits before a ring

from_side : (side : ℕ) (channel : ChannelState) → side < 2 → (if side == 0 then channel.to else channel.from) ≡ end_of (1 - side) channel
from_side zero channel low = refl
from_side (suc zero) channel low = refl
from_side (suc (suc side)) channel low = absurd (omega arith)

pub none_waits : (boxes others : List BoxState) (channels : List ChannelState) (lanes rests : List (List Tagged)) (assigned : List ℕ) (lists : List (List Port)) (runs : List PartRun)
    → HaveLaid boxes channels lanes assigned lists runs → length others ≡ length boxes → length rests ≡ 2 * length channels
    → AreEmptied (world_of others channels rests) (layout_of (world_of others channels rests) assigned) (tables_among runs) (states_among runs)
none_waits boxes others channels lanes rests assigned lists runs have count lane_count lane low apart =
    let base : WorldState = world_of others channels rests in
    let layout : Layout = layout_of (world_of others channels rests) assigned in
    let inside : lane < 2 * length channels = subst (λ (n : ℕ). lane < n) lane_count low in
    let c : ℕ = lane / 2 in
    let channel : ChannelState = get_or channels c absent_channel in
    let at : slice_get channels c ≡ Some channel = slice_get-get_or channels c absent_channel (half_in lane (length channels) inside) in
    let ends : HasBoxes (length assigned) channel = channels_join boxes channels lanes assigned have.whole have.each c absent_channel (half_in lane (length channels) inside) in
    let part : ℕ = part_of assigned (leads_from base lane) in
    let part_is : part ≡ part_of assigned (end_of (1 - lane % 2) channel) = ap (part_of assigned) (from_side (lane % 2) channel (side_low lane)) in
    let below : part < length runs = subst (λ (n : ℕ). n < length runs) (sym part_is) (ends_below assigned (length runs) (1 - lane % 2) channel ends have.parts) in
    let touches : Touches assigned part channel = touch_on assigned part (1 - lane % 2) channel (sym part_is) in
    let laid : IsLayout base layout (tables_among runs) (states_among runs) = are_layout boxes others channels lanes rests assigned lists runs have count lane_count in
    let away : part_of assigned (end_of (lane % 2) channel) ≢ part = (λ (same : part_of assigned (end_of (lane % 2) channel) ≡ part).
    let takes = (laid.takes lane low).here in
    let here : leads_to (tables_among runs part) (2 * place_in assigned channels part c + lane % 2) < length (states_among runs part).boxes =
    subst (λ (p : ℕ). leads_to (tables_among runs p) (2 * place_in assigned channels p c + lane % 2) < length (states_among runs p).boxes) same takes in
    let off = apart.away in
    absurd (omega (arith, here, off))) in
    lane_there boxes channels lanes assigned lists runs part c (lane % 2) channel have below at touches (side_low lane)
    ∙ other_list (is_part part (part_of assigned (end_of (lane % 2) channel))) (get_or lanes (2 * c + lane % 2) []) (ne_eqb (part_of assigned (end_of (lane % 2) channel)) part away)

-- ---- the world that they stand for

boxes_same : (f g : ℕ → BoxState) (xs : List ℕ) → ((n : ℕ) → f n ≡ g n) → map f xs ≡ map g xs
boxes_same f g [] same = refl
boxes_same f g (x ∷ xs) same = ap₂ (λ (y : BoxState) (ys : List BoxState). y ∷ ys) (same x) (boxes_same f g xs same)

pub stand_for_world : (boxes others : List BoxState) (channels : List ChannelState) (lanes rests : List (List Tagged)) (assigned : List ℕ) (lists : List (List Port)) (runs : List PartRun)
    → HaveLaid boxes channels lanes assigned lists runs → length others ≡ length boxes → length rests ≡ 2 * length channels
    → stands_for (world_of others channels rests) (layout_of (world_of others channels rests) assigned) (states_among runs) ≡ world_of boxes channels lanes
stand_for_world boxes others channels lanes rests assigned lists runs have count lane_count =
    let world : WorldState = first_world boxes channels in
    let layout : Layout = layout_of (world_of others channels rests) assigned in
    let whole : map (box_in layout (first_part world assigned)) (range_with_len 0 (length boxes)) ≡ boxes = ap (λ (w : WorldState). w.boxes) (emptied boxes channels lanes assigned lists runs have).whole in
    let same : (who : ℕ) → box_in layout (states_among runs) who ≡ box_in layout (first_part world assigned) who =
    (λ (who : ℕ). ap (λ (l : List BoxState). get_or l (home_at assigned who).1 no_box) (boxes_at boxes channels lanes assigned lists runs (home_at assigned who).0 have)) in
    let boxes_are : map (box_in layout (states_among runs)) (range_with_len 0 (length others)) ≡ boxes =
    ap (λ (n : ℕ). map (box_in layout (states_among runs)) (range_with_len 0 n)) count
    ∙ (boxes_same (box_in layout (states_among runs)) (box_in layout (first_part world assigned)) (range_with_len 0 (length boxes)) same ∙ whole) in
    let lanes_are : map (lane_in layout (states_among runs)) (range_with_len 0 (length rests)) ≡ lanes =
    sym (fill_by_all (lane_in layout (states_among runs)) lanes (length rests) [] (have.lane_count ∙ sym lane_count)
    (λ lane low. lane_is boxes others channels lanes rests assigned lists runs lane have (subst (λ (n : ℕ). lane < n) lane_count low))) in
    ap₂ (λ (b : List BoxState) (l : List (List Tagged)). world_of b channels l) boxes_are lanes_are
