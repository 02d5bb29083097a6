-- The number of a slot in a part, beside that in the world.
use Rattle.std.proofs.Common.{◌≡◌, ◌<◌, ◌+◌, ◌/◌, ◌%◌, ◌==◌, ◌&&◌, if◌then◌else◌, Bool, true, false, cond, ℕ, Some, None, List, length, get_or, nat_lt, position, lt-ltb, refl, ap, ap₂, sym, ◌∙◌, subst, arith, true≢false, eq-eqb, eqb-true}
use Rattle.std.proofs.lemmas.List.Sums.{position_or_len_is}
use Rattle.std.proofs.lemmas.Option.{same_Some, slice_get-get_or, slice_get_within}
use Rattle.std.specs.List.{position_or_len, slice_get}
use Rattle.mc_laws.proofs.Numbers.{by_half, found_at}
use Rattle.mc_laws.proofs.TunnelPlaces.{places_apart, two_each}
use Rattle.mc_model.specs.Sound.{IsNumbered}
use Rattle.mc_model.specs.Worlds.{ChannelState, WorldState, is_place, no_tunnel, place, places, places_among, tunnels_from}
use Rattle.mc_model.specs.declared.channel.Tunnel.{Tunnel}
use Rattle.mc_part.specs.Divisions.{channel_in, channels_in, home_at, is_part, members, part_of, place_in}
use Rattle.mc_part.proofs.Placed.{HasTunnel, IsPlaced, Touches, end_in, has_tunnel, placed_at, placed_back, tunnel_count}
use Rattle.mc_part.proofs.Slots.{Standing, StandsOn, end_on, slot_on, standing, stands_on}

-- ---- slots of channels

-- a slot that stands at a place
pub record HasSlot (channels : List ChannelState) (c t side : ℕ) (at : ℕ × ℕ) : Type 0 where
  pub s : ℕ
  pub inside : s < length (places_among channels)
  pub place : get_or (places_among channels) s (0, 0) ≡ at
  pub side_is : s % 2 ≡ side
  pub channel : (get_or (tunnels_from 0 channels) (s / 2) no_tunnel).channel ≡ c
  pub within : (get_or (tunnels_from 0 channels) (s / 2) no_tunnel).within ≡ t

no_less : (c : ℕ) → 0 + c ≡ c
no_less c = omega arith

pub has_slot : (channels : List ChannelState) (c t side : ℕ) (channel : ChannelState) (tunnel : Tunnel) → side < 2 → slice_get channels c ≡ Some channel → slice_get channel.tunnels t ≡ Some tunnel
    → HasSlot channels c t side (end_on side channel, slot_on side tunnel)
has_slot channels c t side channel tunnel low at has =
    let on : StandsOn channels 0 c t side = stands_on channels 0 c t side channel tunnel low at has in
    let same : on.stands.channel ≡ channel = same_Some on.stands.channel channel (sym on.stands.at ∙ at) in
    let tunnel_same : on.stands.tunnel ≡ tunnel = same_Some on.stands.tunnel tunnel (sym on.stands.has ∙ (ap (λ (e : ChannelState). slice_get e.tunnels t) same ∙ has)) in
    record {
      s = on.s;
      inside = on.stands.inside;
      place = on.stands.place
          ∙ (ap (λ (n : ℕ). (end_on n on.stands.channel, slot_on n on.stands.tunnel)) on.side_is
          ∙ ap₂ (λ (e : ChannelState) (f : Tunnel). (end_on side e, slot_on side f)) same tunnel_same);
      side_is = on.side_is;
      channel = on.stands.channel_is ∙ no_less c;
      within = on.stands.within_is;
    }

-- one slot alone is a tunnel's on a side
pub one_slot : (channels : List ChannelState) (s r : ℕ) → s < length (places_among channels) → r < length (places_among channels)
    → (get_or (tunnels_from 0 channels) (s / 2) no_tunnel).channel ≡ (get_or (tunnels_from 0 channels) (r / 2) no_tunnel).channel
    → (get_or (tunnels_from 0 channels) (s / 2) no_tunnel).within ≡ (get_or (tunnels_from 0 channels) (r / 2) no_tunnel).within
    → s % 2 ≡ r % 2 → s ≡ r
one_slot channels s r one two channel within side =
    by_half s r (places_apart channels 0 (s / 2) (r / 2) (half_in s one) (half_in r two) channel within) side where
      half_in : (n : ℕ) → n < length (places_among channels) → n / 2 < length (tunnels_from 0 channels)
      half_in n below = omega (arith, two_each channels 0, below)

-- ---- what is found among places

pub same_place : (p q : ℕ × ℕ) → p.0 ≡ q.0 → p.1 ≡ q.1 → p ≡ q
same_place p q one two = ap₂ (λ (a b : ℕ). (a, b)) one two

place_test : (a b : ℕ) → is_place (a, b) (a, b) ≡ true
place_test a b = ap₂ (λ (p q : Bool). p && q) (eq-eqb a a refl) (eq-eqb b b refl)

pub found_place : (places : List (ℕ × ℕ)) (at : ℕ × ℕ) (s : ℕ) → position (is_place at) places ≡ Some s → (s < length places) × (get_or places s (0, 0) ≡ at)
found_place places at s is =
    let found = found_at places at.0 at.1 s is in
    (found.0, same_place (get_or places s (0, 0)) at found.1 found.2)

both_true : (a b : Bool) → (a && b) ≡ true → (a ≡ true) × (b ≡ true)
both_true true true is = (refl, refl)
both_true true false is = absurd (true≢false (sym is))
both_true false true is = absurd (true≢false (sym is))
both_true false false is = absurd (true≢false (sym is))

-- a place that is one slot's alone is found there
pub position_is : (places : List (ℕ × ℕ)) (at : ℕ × ℕ) (s : ℕ) → s < length places → get_or places s (0, 0) ≡ at
    → ((r : ℕ) → r < length places → get_or places r (0, 0) ≡ at → r ≡ s) → position (is_place at) places ≡ Some s
position_is places at s inside is only =
    let first : position_or_len (is_place at) places ≡ s =
    position_or_len_is (is_place at) places s (0, 0) (omega arith) (λ k below. other k below (is_place at (get_or places k (0, 0))) refl) (λ within. ap (is_place at) is ∙ place_test at.0 at.1) in
    ap (λ (n : ℕ). cond (nat_lt n (length places)) (Some n) None) first ∙ ap (λ (b : Bool). cond b (Some s) None) (lt-ltb s (length places) inside) where
      other : (k : ℕ) → k < s → (b : Bool) → is_place at (get_or places k (0, 0)) ≡ b → is_place at (get_or places k (0, 0)) ≡ false
      other k below false test = test
      other k below true test =
          let parts = both_true (at.0 == (get_or places k (0, 0)).0) (at.1 == (get_or places k (0, 0)).1) test in
          let same : k ≡ s = only k (omega arith) (same_place (get_or places k (0, 0)) at (sym (eqb-true at.0 (get_or places k (0, 0)).0 parts.0)) (sym (eqb-true at.1 (get_or places k (0, 0)).1 parts.1))) in
          absurd (omega arith)

-- ---- channels whose slots are all different, and lead to boxes that are there

pub record AreWhole (assigned : List ℕ) (channels : List ChannelState) : Type 0 where
  pub inside : (s : ℕ) → s < length (places_among channels) → (get_or (places_among channels) s (0, 0)).0 < length assigned
  pub once : (s : ℕ) → s < length (places_among channels) → position (is_place (get_or (places_among channels) s (0, 0))) (places_among channels) ≡ Some s

pub are_whole : (world : WorldState) (assigned : List ℕ) → IsNumbered world → length assigned ≡ length world.boxes → AreWhole assigned world.channels
are_whole world assigned numbered each = record {
  inside = λ s below. subst (λ (n : ℕ). (place world s).0 < n) (sym each) (numbered.placed s below);
  once = λ s below. numbered.once s below;
}

-- the box at each end of a tunnel is there
pub end_inside : (assigned : List ℕ) (channels : List ChannelState) (c t side : ℕ) (channel : ChannelState) (tunnel : Tunnel) → AreWhole assigned channels → side < 2
    → slice_get channels c ≡ Some channel → slice_get channel.tunnels t ≡ Some tunnel → end_on side channel < length assigned
end_inside assigned channels c t side channel tunnel whole low at has =
    let slot : HasSlot channels c t side (end_on side channel, slot_on side tunnel) = has_slot channels c t side channel tunnel low at has in
    subst (λ (n : ℕ). n < length assigned) (ap (λ (p : ℕ × ℕ). p.0) slot.place) (whole.inside slot.s slot.inside)

-- and its slot is found by its place
pub world_number : (assigned : List ℕ) (channels : List ChannelState) (s : ℕ) (at : ℕ × ℕ) → AreWhole assigned channels → s < length (places_among channels)
    → get_or (places_among channels) s (0, 0) ≡ at → position (is_place at) (places_among channels) ≡ Some s
world_number assigned channels s at whole inside is = subst (λ (p : ℕ × ℕ). position (is_place p) (places_among channels) ≡ Some s) is (whole.once s inside)

-- ---- a slot of a part

-- where a channel of the world has a box, or a place holder for it, and a tunnel its local number, as the part sees it
abbrev pub box_on : List ℕ → ℕ → ℕ → ℕ → ChannelState → ℕ
box_on assigned part holder side channel = if is_part part (part_of assigned (end_on side channel)) then (home_at assigned (end_on side channel)).1 else holder

abbrev pub local_on : List ℕ → ℕ → ℕ → ChannelState → ℕ → Tunnel → ℕ
local_on assigned part side channel t tunnel = if is_part part (part_of assigned (end_on side channel)) then slot_on side tunnel else t

-- each tunnel of a channel that touches the part has its slots there
pub slot_placed : (assigned : List ℕ) (channels : List ChannelState) (part c t side : ℕ) (channel : ChannelState) (tunnel : Tunnel) → side < 2
    → slice_get channels c ≡ Some channel → Touches assigned part channel → slice_get channel.tunnels t ≡ Some tunnel
    → HasSlot (channels_in assigned channels part) (place_in assigned channels part c) t side
    (box_on assigned part (length (members assigned part) + place_in assigned channels part c) side channel, local_on assigned part side channel t tunnel)
slot_placed assigned channels part c t side channel tunnel low at touches has =
    let holder : ℕ = length (members assigned part) + place_in assigned channels part c in
    let here : HasTunnel assigned part holder channel t side (slot_on side tunnel) = has_tunnel assigned part holder channel t side tunnel has in
    let slot : HasSlot (channels_in assigned channels part) (place_in assigned channels part c) t side (end_on side (channel_in assigned part holder channel), slot_on side here.tunnel) =
    has_slot (channels_in assigned channels part) (place_in assigned channels part c) t side (channel_in assigned part holder channel) here.tunnel low (placed_at assigned channels part c channel at touches) here.has in
    subst (λ (p : ℕ × ℕ). HasSlot (channels_in assigned channels part) (place_in assigned channels part c) t side p)
    (ap₂ (λ (a b : ℕ). (a, b)) (end_in assigned part holder channel side) here.is) slot

-- and each slot there is one of those
pub record IsHere (assigned : List ℕ) (channels : List ChannelState) (part s : ℕ) : Type 0 where
  pub c : ℕ
  pub t : ℕ
  pub channel : ChannelState
  pub tunnel : Tunnel
  pub at : slice_get channels c ≡ Some channel
  pub touches : Touches assigned part channel
  pub has : slice_get channel.tunnels t ≡ Some tunnel
  pub channel_is : (get_or (tunnels_from 0 (channels_in assigned channels part)) (s / 2) no_tunnel).channel ≡ place_in assigned channels part c
  pub within_is : (get_or (tunnels_from 0 (channels_in assigned channels part)) (s / 2) no_tunnel).within ≡ t
  pub box_is : (get_or (places_among (channels_in assigned channels part)) s (0, 0)).0 ≡ box_on assigned part (length (members assigned part) + place_in assigned channels part c) (s % 2) channel
  pub local_is : (get_or (places_among (channels_in assigned channels part)) s (0, 0)).1 ≡ local_on assigned part (s % 2) channel t tunnel

pub side_low : (s : ℕ) → s % 2 < 2
side_low s = omega arith

pub is_here : (assigned : List ℕ) (channels : List ChannelState) (part s : ℕ) → s < length (places_among (channels_in assigned channels part)) → IsHere assigned channels part s
is_here assigned channels part s inside =
    let ds : List ChannelState = channels_in assigned channels part in
    let found : Standing ds 0 s = standing ds 0 s inside in
    let placed : IsPlaced assigned channels part found.c found.stands.channel = placed_back assigned channels part found.c found.stands.channel found.stands.at in
    let count : length found.stands.channel.tunnels ≡ length placed.channel.tunnels =
    ap (λ (e : ChannelState). length e.tunnels) placed.is ∙ tunnel_count (is_part part (part_of assigned placed.channel.from)) (is_part part (part_of assigned placed.channel.to)) placed.channel.tunnels 0 in
    let below : found.t < length placed.channel.tunnels = subst (λ (n : ℕ). found.t < n) count (slice_get_within found.stands.channel.tunnels found.t found.stands.tunnel found.stands.has) in
    let tunnel : Tunnel = get_or placed.channel.tunnels found.t found.stands.tunnel in
    let has : slice_get placed.channel.tunnels found.t ≡ Some tunnel = slice_get-get_or placed.channel.tunnels found.t found.stands.tunnel below in
    let slot : HasSlot ds (place_in assigned channels part placed.of.c) found.t (s % 2)
    (box_on assigned part (length (members assigned part) + place_in assigned channels part placed.of.c) (s % 2) placed.channel, local_on assigned part (s % 2) placed.channel found.t tunnel) =
    slot_placed assigned channels part placed.of.c found.t (s % 2) placed.channel tunnel (side_low s) placed.of.at placed.of.touches has in
    let same : slot.s ≡ s = one_slot ds slot.s s slot.inside inside
    (slot.channel ∙ (placed.of.place_is ∙ sym (found.stands.channel_is ∙ no_less found.c))) (slot.within ∙ sym found.stands.within_is) slot.side_is in
    let place : get_or (places_among ds) s (0, 0) ≡ (box_on assigned part (length (members assigned part) + place_in assigned channels part placed.of.c) (s % 2) placed.channel, local_on assigned part (s % 2) placed.channel found.t tunnel) =
    ap (λ (n : ℕ). get_or (places_among ds) n (0, 0)) (sym same) ∙ slot.place in
    record {
      c = placed.of.c;
      t = found.t;
      channel = placed.channel;
      tunnel = tunnel;
      at = placed.of.at;
      touches = placed.of.touches;
      has = has;
      channel_is = found.stands.channel_is ∙ (no_less found.c ∙ sym placed.of.place_is);
      within_is = found.stands.within_is;
      box_is = ap (λ (p : ℕ × ℕ). p.0) place;
      local_is = ap (λ (p : ℕ × ℕ). p.1) place;
    }
