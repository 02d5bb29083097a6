-- The channels that cross, and the lanes of the network that are theirs.
use Rattle.std.proofs.Common.{◌≡◌, ◌≢◌, inl, inr, ◌<◌, ◌+◌, ◌*◌, ◌-◌, ◌/◌, ◌%◌, not, true, false, filter, ℕ, Some, None, Option, List, length, get_or, slice_get, refl, ap, ap₂, sym, ◌∙◌, subst, arith, true≢false, eq-eqb}
use Rattle.std.specs.List.{range_with_len}
use Rattle.std.specs.Option.{option_map}
use Rattle.std.proofs.lemmas.List.FromFn.{get_or-range_with_len, length-range_with_len}
use Rattle.std.proofs.lemmas.Option.{none-some, same_Some, slice_get-get_or, slice_get-map, slice_get_within}
use Rattle.mc_merge.specs.Lanes.{absent_channel}
use Rattle.mc_model.specs.Worlds.{ChannelState, WorldState}
use Rattle.mc_part.specs.Divisions.{is_part, layout_of, part_of, place_in, rank}
use Rattle.mc_part.proofs.Layouts.{from_there, to_there}
use Rattle.mc_part.proofs.Placed.{Touches, place_apart, touch_on}
use Rattle.mc_part.proofs.Ranks.{Found, rank_back, rank_found}
use Rattle.mc_part.proofs.Slots.{end_on}
use Rattle.mc_divided.specs.Networks.{IsEnd, crossing_at, crossings_of, is_apart}
use Rattle.mc_divided.specs.Phasing.{AreApart, IsNoEnd}
use Rattle.mc_divided.specs.declared.network.Crossing.{Crossing}

-- ---- numbers of channels

from_zero : (c : ℕ) → 0 + c ≡ c
from_zero c = omega arith

number_at : (n c : ℕ) → c < n → slice_get (range_with_len 0 n) c ≡ Some c
number_at n c below =
    slice_get-get_or (range_with_len 0 n) c 0 (subst (λ (m : ℕ). c < m) (sym (length-range_with_len 0 n)) below)
    ∙ ap (λ (m : ℕ). Some m) (get_or-range_with_len 0 n c 0 below ∙ from_zero c)

number_back : (n at c : ℕ) → slice_get (range_with_len 0 n) at ≡ Some c → (at ≡ c) × (c < n)
number_back n at c is =
    let below : at < n = subst (λ (m : ℕ). at < m) (length-range_with_len 0 n) (slice_get_within (range_with_len 0 n) at c is) in
    let same : at ≡ c = same_Some at c (sym (number_at n at below) ∙ is) in
    (same, subst (λ (m : ℕ). m < n) same below)

-- ---- of one crossing which channel it is

pub record OfChannel (assigned : List ℕ) (channels : List ChannelState) (i : ℕ) (crossing : Crossing) : Type 0 where
  pub c : ℕ
  pub inside : c < length channels
  pub passes : is_apart assigned channels c ≡ true
  pub is : crossing ≡ crossing_at assigned channels c
  pub rank_is : rank (is_apart assigned channels) c (range_with_len 0 (length channels)) ≡ i

pub some_of : {A B : Type 0} (f : A → B) (o : Option A) (y : B) → option_map f o ≡ Some y → (x : A) × ((o ≡ Some x) × (y ≡ f x))
some_of f None y is = absurd (none-some y is)
some_of f (Some x) y is = (x, (refl, sym (same_Some (f x) y is)))

pub of_channel : (assigned : List ℕ) (channels : List ChannelState) (i : ℕ) (crossing : Crossing) → slice_get (crossings_of assigned channels) i ≡ Some crossing → OfChannel assigned channels i crossing
of_channel assigned channels i crossing there =
    let numbers : List ℕ = range_with_len 0 (length channels) in
    let of = some_of (crossing_at assigned channels) (slice_get (filter (is_apart assigned channels) numbers) i) crossing
    (sym (slice_get-map (crossing_at assigned channels) (filter (is_apart assigned channels) numbers) i) ∙ there) in
    let found : Found (is_apart assigned channels) numbers i of.0 = rank_back (is_apart assigned channels) numbers i of.0 of.1.0 in
    let at = number_back (length channels) found.at of.0 found.is in
    record {
      c = of.0;
      inside = at.1;
      passes = found.passes;
      is = of.1.1;
      rank_is = ap (λ (n : ℕ). rank (is_apart assigned channels) n numbers) (sym at.0) ∙ found.rank_is;
    }

-- and each channel that crosses is one
pub has_crossing : (assigned : List ℕ) (channels : List ChannelState) (c : ℕ) → c < length channels → is_apart assigned channels c ≡ true
    → slice_get (crossings_of assigned channels) (rank (is_apart assigned channels) c (range_with_len 0 (length channels))) ≡ Some (crossing_at assigned channels c)
has_crossing assigned channels c inside passes =
    let numbers : List ℕ = range_with_len 0 (length channels) in
    slice_get-map (crossing_at assigned channels) (filter (is_apart assigned channels) numbers) (rank (is_apart assigned channels) c numbers)
    ∙ ap (option_map (crossing_at assigned channels)) (rank_found (is_apart assigned channels) numbers c c (number_at (length channels) c inside) passes)

-- ---- where its lanes stand

lane_sides : (c side : ℕ) → side < 2 → ((2 * c + side) % 2 ≡ side) × ((2 * c + side) / 2 ≡ c)
lane_sides c side low = (omega arith, omega arith)

pub senders_at : (world : WorldState) (assigned : List ℕ) (c side part : ℕ) → side < 2 → part_of assigned (end_on (1 - side) (get_or world.channels c absent_channel)) ≡ part
    → (layout_of world assigned).senders (2 * c + side) ≡ (part, 2 * place_in assigned world.channels part c + side)
senders_at world assigned c side part low is =
    let lane : ℕ = 2 * c + side in
    let sides = lane_sides c side low in
    ap (λ (who : ℕ). (part_of assigned who, 2 * place_in assigned world.channels (part_of assigned who) (lane / 2) + lane % 2)) (from_there world.channels c side low)
    ∙ (ap (λ (p : ℕ). (p, 2 * place_in assigned world.channels p (lane / 2) + lane % 2)) is
    ∙ ap₂ (λ (b k : ℕ). (part, 2 * place_in assigned world.channels part k + b)) sides.0 sides.1)

pub takers_at : (world : WorldState) (assigned : List ℕ) (c side part : ℕ) → side < 2 → part_of assigned (end_on side (get_or world.channels c absent_channel)) ≡ part
    → (layout_of world assigned).takers (2 * c + side) ≡ (part, 2 * place_in assigned world.channels part c + side)
takers_at world assigned c side part low is =
    let lane : ℕ = 2 * c + side in
    let sides = lane_sides c side low in
    ap (λ (who : ℕ). (part_of assigned who, 2 * place_in assigned world.channels (part_of assigned who) (lane / 2) + lane % 2)) (to_there world.channels c side low)
    ∙ (ap (λ (p : ℕ). (p, 2 * place_in assigned world.channels p (lane / 2) + lane % 2)) is
    ∙ ap₂ (λ (b k : ℕ). (part, 2 * place_in assigned world.channels part k + b)) sides.0 sides.1)

-- the lanes of the network that are those of a crossing: to its far part, and back
pub record IsRoute (world : WorldState) (assigned : List ℕ) (crossing : Crossing) : Type 0 where
  pub c : ℕ
  pub inside : c < length world.channels
  pub there_from : (layout_of world assigned).senders (2 * c + 1) ≡ (crossing.from, 2 * crossing.from_port + 1)
  pub there_to : (layout_of world assigned).takers (2 * c + 1) ≡ (crossing.to, 2 * crossing.to_port + 1)
  pub back_from : (layout_of world assigned).senders (2 * c + 0) ≡ (crossing.to, 2 * crossing.to_port + 0)
  pub back_to : (layout_of world assigned).takers (2 * c + 0) ≡ (crossing.from, 2 * crossing.from_port + 0)
  pub apart : crossing.from ≢ crossing.to

-- parts that a channel joins are two
pub not_one : (one two : ℕ) → not (is_part one two) ≡ true → one ≢ two
not_one one two passes same = true≢false (sym passes ∙ ap not (eq-eqb two one (sym same)))

unfoldable pub routes_of : (world : WorldState) (assigned : List ℕ) (c : ℕ) → c < length world.channels → is_apart assigned world.channels c ≡ true → IsRoute world assigned (crossing_at assigned world.channels c)
routes_of world assigned c inside passes =
    let channel : ChannelState = get_or world.channels c absent_channel in
    record {
      c = c;
      inside = inside;
      there_from = senders_at world assigned c 1 (part_of assigned channel.from) (omega arith) refl;
      there_to = takers_at world assigned c 1 (part_of assigned channel.to) (omega arith) refl;
      back_from = senders_at world assigned c 0 (part_of assigned channel.to) (omega arith) refl;
      back_to = takers_at world assigned c 0 (part_of assigned channel.from) (omega arith) refl;
      apart = not_one (part_of assigned channel.from) (part_of assigned channel.to) passes;
    }

pub route_of : (world : WorldState) (assigned : List ℕ) (i : ℕ) (crossing : Crossing) → slice_get (crossings_of assigned world.channels) i ≡ Some crossing → IsRoute world assigned crossing
route_of world assigned i crossing there =
    let of : OfChannel assigned world.channels i crossing = of_channel assigned world.channels i crossing there in
    subst (λ (x : Crossing). IsRoute world assigned x) (sym of.is) (routes_of world assigned of.c of.inside of.passes)

-- ---- no two have an end in common

-- a channel has an end in this part, and this number there
record HasEnd (assigned : List ℕ) (channels : List ChannelState) (c part port : ℕ) : Type 0 where
  touches : Touches assigned part (get_or channels c absent_channel)
  place_is : place_in assigned channels part c ≡ port

has_end : (assigned : List ℕ) (channels : List ChannelState) (c part port : ℕ) → IsEnd (crossing_at assigned channels c) part port → HasEnd assigned channels c part port
has_end assigned channels c part port (inl (is, at)) = record {
  touches = touch_on assigned part 0 (get_or channels c absent_channel) is;
  place_is = ap (λ (p : ℕ). place_in assigned channels p c) (sym is) ∙ at;
}
has_end assigned channels c part port (inr (is, at)) = record {
  touches = touch_on assigned part 1 (get_or channels c absent_channel) is;
  place_is = ap (λ (p : ℕ). place_in assigned channels p c) (sym is) ∙ at;
}

one_end : (assigned : List ℕ) (channels : List ChannelState) (c d part port : ℕ) → c < length channels → d < length channels → HasEnd assigned channels c part port → HasEnd assigned channels d part port → c ≡ d
one_end assigned channels c d part port inside inside_2 one two =
    place_apart assigned channels part c d (get_or channels c absent_channel) (get_or channels d absent_channel) (slice_get-get_or channels c absent_channel inside) (slice_get-get_or channels d absent_channel inside_2)
    one.touches two.touches (one.place_is ∙ sym two.place_is)

end_of : (assigned : List ℕ) (channels : List ChannelState) (i part port : ℕ) (crossing : Crossing) (of : OfChannel assigned channels i crossing) → IsEnd crossing part port → HasEnd assigned channels of.c part port
end_of assigned channels i part port crossing of end = has_end assigned channels of.c part port (subst (λ (x : Crossing). IsEnd x part port) of.is end)

pub are_apart : (world : WorldState) (assigned : List ℕ) → AreApart (crossings_of assigned world.channels)
are_apart world assigned = record {
  others = λ i crossing there. (route_of world assigned i crossing there).apart;
  once = λ i j one two part port there there_2 end end_2.
      let of : OfChannel assigned world.channels i one = of_channel assigned world.channels i one there in
      let of_2 : OfChannel assigned world.channels j two = of_channel assigned world.channels j two there_2 in
      let same : of.c ≡ of_2.c = one_end assigned world.channels of.c of_2.c part port of.inside of_2.inside (end_of assigned world.channels i part port one of end) (end_of assigned world.channels j part port two of_2 end_2) in
      sym of.rank_is ∙ (ap (λ (n : ℕ). rank (is_apart assigned world.channels) n (range_with_len 0 (length world.channels))) same ∙ of_2.rank_is);
}

-- ---- a lane within a part

-- its channel has no end among those that cross
pub inner_no_end : (world : WorldState) (assigned : List ℕ) (c part : ℕ) → c < length world.channels → is_apart assigned world.channels c ≡ false → Touches assigned part (get_or world.channels c absent_channel)
    → IsNoEnd (crossings_of assigned world.channels) part (place_in assigned world.channels part c)
inner_no_end world assigned c part inside inner touches i crossing there end =
    let of : OfChannel assigned world.channels i crossing = of_channel assigned world.channels i crossing there in
    let has = end_of assigned world.channels i part (place_in assigned world.channels part c) crossing of end in
    let same : of.c ≡ c = one_end assigned world.channels of.c c part (place_in assigned world.channels part c) of.inside inside has (record { touches = touches; place_is = refl }) in
    true≢false (sym of.passes ∙ (ap (is_apart assigned world.channels) same ∙ inner))
