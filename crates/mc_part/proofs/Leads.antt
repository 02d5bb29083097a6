-- Channels of a part are within the limits, and those that cross lead to place holders.
use Rattle.std.proofs.Common.{◌≡◌, ◌<◌, ◌≤◌, ◌+◌, ◌*◌, ◌&&◌, not, if◌then◌else◌, Bool, true, false, cond, filter, ℕ, suc, Some, List, [], ◌∷◌, length, length-append, get_or, refl, ap, ap₂, sym, ◌∙◌, subst, arith, true≢false}
use Rattle.std.proofs.lemmas.List.{get_or-map, length-map}
use Rattle.std.proofs.lemmas.Option.{get_or_from_slice_get, slice_get-get_or, slice_get_within}
use Rattle.std.specs.List.{slice_get}
use Rattle.mc_merge.specs.Lanes.{absent_channel, leads_from, leads_to}
use Rattle.mc_model.specs.Worlds.{AreChannels, ChannelState, HasTunnels, WorldState}
use Rattle.mc_merge.specs.Account.{PartState}
use Rattle.mc_merge.specs.Lanes.{HasBothBoxes}
use Rattle.mc_merge.proofs.LaneBoxes.{lanes_have_boxes}
use Rattle.mc_part.specs.DivisionLaws.{ChannelsHaveBoxes, DivisionsLeadAway}
use Rattle.mc_part.specs.Divisions.{IsDivided, channels_in, is_crossing, home_at, is_inner, is_part, members, part_of, place_in, starts_in, touching}
use Rattle.mc_part.proofs.Layouts.{box_count, end_there, from_by, from_there, to_by, to_there}
use Rattle.mc_part.proofs.Placed.{IsPlaced, IsTouching, channel_count, front_at, placed_back, touching_back, tunnel_count}
use Rattle.mc_part.proofs.Ranks.{rank_back}
use Rattle.mc_part.proofs.Same.{other_one}
use Rattle.mc_part.proofs.Slots.{end_on}

-- ---- a channel that crosses

-- it is one of the world, and has its number among those that cross
pub record IsCrossing (assigned : List ℕ) (channels : List ChannelState) (part k : ℕ) : Type 0 where
  pub channel : ChannelState
  pub of : IsTouching assigned channels part k channel
  pub is : slice_get (filter (is_crossing assigned part) channels) k ≡ Some channel
  pub touching_is : slice_get (touching assigned channels part) k ≡ Some channel
  pub passes : is_crossing assigned part channel ≡ true

pub crossing_at : (assigned : List ℕ) (channels : List ChannelState) (part k : ℕ) → k < length (filter (is_crossing assigned part) channels) → IsCrossing assigned channels part k
crossing_at assigned channels part k below =
    let channel : ChannelState = get_or (filter (is_crossing assigned part) channels) k absent_channel in
    let there : slice_get (filter (is_crossing assigned part) channels) k ≡ Some channel = slice_get-get_or (filter (is_crossing assigned part) channels) k absent_channel below in
    let at : slice_get (touching assigned channels part) k ≡ Some channel = front_at (filter (is_crossing assigned part) channels) (filter (is_inner assigned part) channels) k channel there in
    record {
      channel = channel;
      of = touching_back assigned channels part k channel at;
      is = there;
      touching_is = at;
      passes = (rank_back (is_crossing assigned part) channels k channel there).passes;
    }

-- one of its ends isn't in the part
away_by : (x y : Bool) → (if x then not y else y) ≡ true → (x ≡ true → y ≡ false)
away_by true true is here = absurd (true≢false (sym is))
away_by true false is here = refl
away_by false y is here = absurd (true≢false (sym here))

-- the side of that end
abbrev pub far_side_of : Bool → ℕ
far_side_of starts = if starts then 1 else 0

pub far_is_away : (assigned : List ℕ) (part : ℕ) (channel : ChannelState) (starts : Bool) → is_part part (part_of assigned channel.from) ≡ starts → is_crossing assigned part channel ≡ true
    → is_part part (part_of assigned (end_on (far_side_of starts) channel)) ≡ false
far_is_away assigned part channel true starts passes = away_by (is_part part (part_of assigned channel.from)) (is_part part (part_of assigned channel.to)) passes starts
far_is_away assigned part channel false starts passes = starts

-- so there stands the place holder
far_end : (assigned : List ℕ) (channels : List ChannelState) (part k : ℕ) (crossing : IsCrossing assigned channels part k) (starts : Bool) → is_part part (part_of assigned crossing.channel.from) ≡ starts
    → end_on (far_side_of starts) (get_or (channels_in assigned channels part) k absent_channel) ≡ length (members assigned part) + k
far_end assigned channels part k crossing starts is =
    let channel : ChannelState = crossing.channel in
    let there = end_there assigned channels part crossing.of.c (far_side_of starts) channel crossing.of.at crossing.of.touches in
    ap (λ (n : ℕ). end_on (far_side_of starts) (get_or (channels_in assigned channels part) n absent_channel)) (sym crossing.of.place_is)
    ∙ (there
    ∙ (other_one (is_part part (part_of assigned (end_on (far_side_of starts) channel))) (home_at assigned (end_on (far_side_of starts) channel)).1 (length (members assigned part) + place_in assigned channels part crossing.of.c)
    (far_is_away assigned part channel starts is crossing.passes)
    ∙ ap (λ (n : ℕ). length (members assigned part) + n) crossing.of.place_is))

-- ---- its lanes

lane_from : (channels : List ChannelState) (k holder : ℕ) (starts : Bool) → end_on (far_side_of starts) (get_or channels k absent_channel) ≡ holder
    → from_by channels (2 * k + (if starts then 0 else 1)) ≡ holder
lane_from channels k holder true is = from_there channels k 0 (omega arith) ∙ is
lane_from channels k holder false is = from_there channels k 1 (omega arith) ∙ is

lane_to : (channels : List ChannelState) (k holder : ℕ) (starts : Bool) → end_on (far_side_of starts) (get_or channels k absent_channel) ≡ holder
    → to_by channels (2 * k + (if starts then 1 else 0)) ≡ holder
lane_to channels k holder true is = to_there channels k 1 (omega arith) ∙ is
lane_to channels k holder false is = to_there channels k 0 (omega arith) ∙ is

past_sum : (n m k : ℕ) → n ≡ m → n ≤ m + k
past_sum n m k same = omega arith

pub leads_out : (world : WorldState) (assigned : List ℕ) (tables : ℕ → WorldState) (states : ℕ → PartState) (part c : ℕ) → IsDivided world assigned tables states
    → c < length (starts_in assigned world.channels part)
    → (length (states part).boxes ≤ leads_from (tables part) (2 * c + (if get_or (starts_in assigned world.channels part) c true then 0 else 1)))
    × (length (states part).boxes ≤ leads_to (tables part) (2 * c + (if get_or (starts_in assigned world.channels part) c true then 1 else 0)))
leads_out world assigned tables states part c divided below =
    let inside : c < length (filter (is_crossing assigned part) world.channels) =
    subst (λ (n : ℕ). c < n) (length-map (filter (is_crossing assigned part) world.channels) (λ (channel : ChannelState). is_part part (part_of assigned channel.from))) below in
    let crossing : IsCrossing assigned world.channels part c = crossing_at assigned world.channels part c inside in
    let starts : Bool = get_or (starts_in assigned world.channels part) c true in
    let is : is_part part (part_of assigned crossing.channel.from) ≡ starts =
    sym (get_or-map (λ (channel : ChannelState). is_part part (part_of assigned channel.from)) (filter (is_crossing assigned part) world.channels) c crossing.channel true inside
    ∙ ap (λ (channel : ChannelState). is_part part (part_of assigned channel.from)) (get_or_from_slice_get (filter (is_crossing assigned part) world.channels) c crossing.channel crossing.channel crossing.is)) in
    let far = far_end assigned world.channels part c crossing starts is in
    let count : length (states part).boxes ≤ length (members assigned part) + c = past_sum (length (states part).boxes) (length (members assigned part)) c (box_count world assigned tables states part divided) in (
      subst (λ (n : ℕ). length (states part).boxes ≤ n)
          (sym (ap (λ (l : List ChannelState). from_by l (2 * c + (if starts then 0 else 1))) (divided.channels part)
          ∙ lane_from (channels_in assigned world.channels part) c (length (members assigned part) + c) starts far)) count,
      subst (λ (n : ℕ). length (states part).boxes ≤ n)
          (sym (ap (λ (l : List ChannelState). to_by l (2 * c + (if starts then 1 else 0))) (divided.channels part)
          ∙ lane_to (channels_in assigned world.channels part) c (length (members assigned part) + c) starts far)) count,
    )

-- ---- limits

two_less : (a b : Bool) (n m k : ℕ) → (a ≡ true → b ≡ false) → n + m ≤ k → cond a (suc n) n + cond b (suc m) m ≤ suc k
two_less true true n m k apart rest = absurd (true≢false (apart refl))
two_less true false n m k apart rest = omega arith
two_less false true n m k apart rest = omega arith
two_less false false n m k apart rest = omega arith

length_cond : {A : Type 0} (b : Bool) (x : A) (xs : List A) → length (cond b (x ∷ xs) xs) ≡ cond b (suc (length xs)) (length xs)
length_cond true x xs = refl
length_cond false x xs = refl

two_filters : {A : Type 0} (p q : A → Bool) (xs : List A) → ((x : A) → p x ≡ true → q x ≡ false) → length (filter p xs) + length (filter q xs) ≤ length xs
two_filters p q [] apart = omega arith
two_filters p q (x ∷ xs) apart =
    subst (λ (n : ℕ). n ≤ suc (length xs))
    (sym (ap₂ (λ (n m : ℕ). n + m) (length_cond (p x) x (filter p xs)) (length_cond (q x) x (filter q xs))))
    (two_less (p x) (q x) (length (filter p xs)) (length (filter q xs)) (length xs) (apart x) (two_filters p q xs apart))

crossing_apart : (x y : Bool) → (if x then not y else y) ≡ true → (x && y) ≡ false
crossing_apart true true is = absurd (true≢false (sym is))
crossing_apart true false is = refl
crossing_apart false y is = refl

pub touching_few : (assigned : List ℕ) (channels : List ChannelState) (part : ℕ) → length (touching assigned channels part) ≤ length channels
touching_few assigned channels part =
    subst (λ (n : ℕ). n ≤ length channels) (sym (length-append (filter (is_crossing assigned part) channels) (filter (is_inner assigned part) channels)))
    (two_filters (is_crossing assigned part) (is_inner assigned part) channels (λ channel is. crossing_apart (is_part part (part_of assigned channel.from)) (is_part part (part_of assigned channel.to)) is))

has_tunnels : (channel : ChannelState) (count : ℕ) → HasTunnels channel → count ≡ length channel.tunnels → (0 < count) × (count ≤ 8)
has_tunnels channel count has same = (subst (λ (n : ℕ). 0 < n) (sym same) has.some, subst (λ (n : ℕ). n ≤ 8) (sym same) has.few)

pub tunnels_of_channel : (channels : List ChannelState) (c : ℕ) (channel : ChannelState) → AreChannels channels → slice_get channels c ≡ Some channel → HasTunnels channel
tunnels_of_channel channels c channel are at =
    subst HasTunnels (get_or_from_slice_get channels c channel channel at) (are.tunnels c channel (slice_get_within channels c channel at))

pub are_channels : (assigned : List ℕ) (channels : List ChannelState) (part : ℕ) → AreChannels channels → AreChannels (channels_in assigned channels part)
are_channels assigned channels part are = record {
  few = let count : length (channels_in assigned channels part) ≡ length (touching assigned channels part) = channel_count assigned part (touching assigned channels part) (length (members assigned part)) in
      let less : length (touching assigned channels part) ≤ length channels = touching_few assigned channels part in
      let most = are.few in
      omega (arith, count, less, most);
  tunnels = λ k d below.
      let there : slice_get (channels_in assigned channels part) k ≡ Some (get_or (channels_in assigned channels part) k d) = slice_get-get_or (channels_in assigned channels part) k d below in
      let placed : IsPlaced assigned channels part k (get_or (channels_in assigned channels part) k d) = placed_back assigned channels part k (get_or (channels_in assigned channels part) k d) there in
      let count : length (get_or (channels_in assigned channels part) k d).tunnels ≡ length placed.channel.tunnels =
      ap (λ (e : ChannelState). length e.tunnels) placed.is
      ∙ tunnel_count (is_part part (part_of assigned placed.channel.from)) (is_part part (part_of assigned placed.channel.to)) placed.channel.tunnels 0 in
      let both = has_tunnels placed.channel (length (get_or (channels_in assigned channels part) k d).tunnels) (tunnels_of_channel channels placed.of.c placed.channel are placed.of.at) count in
      record { some = both.0; few = both.1 };
}

pub divisions_lead_away : DivisionsLeadAway
divisions_lead_away world assigned tables states are divided part = record {
  away = λ c below. leads_out world assigned tables states part c divided below;
  channels = subst AreChannels (sym (divided.channels part)) (are_channels assigned world.channels part are);
}

-- ---- each channel joins two boxes

even_inside : (c n : ℕ) → c < n → 2 * c + 0 < 2 * n
even_inside c n below = omega arith

pub channels_have_boxes : ChannelsHaveBoxes
channels_have_boxes world numbered are = λ c d below.
    let both : HasBothBoxes world (2 * c + 0) = lanes_have_boxes world (2 * c + 0) numbered are (subst (λ (n : ℕ). 2 * c + 0 < n) (sym numbered.lanes) (even_inside c (length world.channels) below)) in
    let same : get_or world.channels c absent_channel ≡ get_or world.channels c d = get_or_from_slice_get world.channels c (get_or world.channels c d) absent_channel (slice_get-get_or world.channels c d below) in
    record {
      from = subst (λ (n : ℕ). n < length world.boxes) (to_there world.channels c 0 (omega arith) ∙ ap (λ (e : ChannelState). e.from) same) both.taker;
      to = subst (λ (n : ℕ). n < length world.boxes) (from_there world.channels c 0 (omega arith) ∙ ap (λ (e : ChannelState). e.to) same) both.sender;
    }
