-- The tunnels of a box's slots, and their lanes, in its part.
use Rattle.std.proofs.Common.{◌≡◌, ◌<◌, ◌+◌, ◌*◌, ◌/◌, ◌%◌, ◌==◌, inl, inr, if◌then◌else◌, Bool, ℕ, Option, Some, None, List, length, get_or, position, option_map, refl, ap, ap₂, sym, ◌∙◌, arith, true≢false, eq-eqb, eqb-true}
use Rattle.std.specs.List.{slice_get}
use Rattle.mc_laws.proofs.Numbers.{far_half, far_side}
use Rattle.mc_port.specs.Tunnels.{tunnel_if_at}
use Rattle.mc_model.specs.Worlds.{ChannelState, TunnelPlace, far, is_place, no_tunnel, places_among, tunnels_from}
use Rattle.mc_part.specs.Divisions.{channels_in, home_at, part_of, place_in}
use Rattle.mc_part.proofs.Numbers.{AreWhole}
use Rattle.mc_part.proofs.Placed.{Touches, place_apart}
use Rattle.mc_part.proofs.Same.{either, same_slots}

-- ---- over channels

-- the tunnel of each slot of a box
abbrev pub tunnels_of : List ChannelState → ℕ → ℕ → Option ℕ
tunnels_of channels who local = option_map (λ s. (get_or (tunnels_from 0 channels) (s / 2) no_tunnel).within) (position (is_place (who, local)) (places_among channels))

-- the lane of each, or of its far slot
abbrev pub lane_by : List ChannelState → ℕ → ℕ × ℕ
lane_by channels s = (2 * (get_or (tunnels_from 0 channels) (s / 2) no_tunnel).channel + s % 2, (get_or (tunnels_from 0 channels) (s / 2) no_tunnel).within)

abbrev pub lanes_by : (ℕ → ℕ) → List ChannelState → ℕ → ℕ → ℕ → Option ℕ
lanes_by side channels who lane local = tunnel_if_at lane (option_map (λ s. lane_by channels (side s)) (position (is_place (who, local)) (places_among channels)))

-- ---- tunnels

pub tunnels_same : (assigned : List ℕ) (channels : List ChannelState) (part who local : ℕ) → AreWhole assigned channels → who < length assigned → part_of assigned who ≡ part
    → tunnels_of (channels_in assigned channels part) (home_at assigned who).1 local ≡ tunnels_of channels who local
tunnels_same assigned channels part who local whole inside of = elim (same_slots assigned channels part who local whole inside of) [
  | inl none ↦
      ap (option_map (λ (s : ℕ). (get_or (tunnels_from 0 (channels_in assigned channels part)) (s / 2) no_tunnel).within)) none.there
      ∙ sym (ap (option_map (λ (s : ℕ). (get_or (tunnels_from 0 channels) (s / 2) no_tunnel).within)) none.is)
  | inr same ↦
      ap (option_map (λ (s : ℕ). (get_or (tunnels_from 0 (channels_in assigned channels part)) (s / 2) no_tunnel).within)) same.there
      ∙ (ap (λ (n : ℕ). Some n) same.within
      ∙ sym (ap (option_map (λ (s : ℕ). (get_or (tunnels_from 0 channels) (s / 2) no_tunnel).within)) same.is))
]

-- ---- lanes

-- tests that pass together
both_tests : (a b c d : ℕ) → (a ≡ b → c ≡ d) → (c ≡ d → a ≡ b) → (a == b) ≡ (c == d)
both_tests a b c d there back = elim (either (a == b)) [
  | inl is ↦ is ∙ sym (eq-eqb c d (there (eqb-true a b is)))
  | inr is ↦ elim (either (c == d)) [
    | inl other ↦ absurd (true≢false (sym (eq-eqb a b (back (eqb-true c d other))) ∙ is))
    | inr other ↦ is ∙ sym other
  ]
]

lane_parts : (c d p q : ℕ) → p < 2 → q < 2 → 2 * c + p ≡ 2 * d + q → (c ≡ d) × (p ≡ q)
lane_parts c d p q one two same = (omega arith, omega arith)

lane_whole : (lane : ℕ) → 2 * (lane / 2) + lane % 2 ≡ lane
lane_whole lane = omega arith

low : (s : ℕ) → s % 2 < 2
low s = omega arith

-- what a function of slots keeps: the tunnel, and which of its two slots it is
pub record KeepsTunnels (side : ℕ → ℕ) : Type 0 where
  pub half : (s : ℕ) → side s / 2 ≡ s / 2
  pub even : (s r : ℕ) → s % 2 ≡ r % 2 → side s % 2 ≡ side r % 2

pub itself_keeps : KeepsTunnels (λ s. s)
itself_keeps = record { half = λ s. refl; even = λ s r same. same }

other_side : (a b c d : ℕ) → a + b ≡ 1 → c + d ≡ 1 → b ≡ d → a ≡ c
other_side a b c d one two same = omega arith

pub far_keeps : KeepsTunnels (λ s. far s)
far_keeps = record { half = λ s. far_half s; even = λ s r same. other_side (far s % 2) (s % 2) (far r % 2) (r % 2) (far_side s) (far_side r) same }

if_same : (a b : Bool) (x y : ℕ) → a ≡ b → x ≡ y → (if a then Some x else None) ≡ (if b then Some y else None)
if_same a b x y one two = ap₂ (λ (t : Bool) (z : ℕ). if t then Some z else None) one two

pub lanes_same : (side : ℕ → ℕ) (assigned : List ℕ) (channels : List ChannelState) (part who lane local : ℕ) (channel : ChannelState) → KeepsTunnels side → AreWhole assigned channels
    → who < length assigned → part_of assigned who ≡ part → slice_get channels (lane / 2) ≡ Some channel → Touches assigned part channel
    → lanes_by side (channels_in assigned channels part) (home_at assigned who).1 (2 * place_in assigned channels part (lane / 2) + lane % 2) local ≡ lanes_by side channels who lane local
lanes_same side assigned channels part who lane local channel keeps whole inside of at touches = elim (same_slots assigned channels part who local whole inside of) [
  | inl none ↦
      ap (λ (o : Option ℕ). tunnel_if_at (2 * place_in assigned channels part (lane / 2) + lane % 2) (option_map (λ s. lane_by (channels_in assigned channels part) (side s)) o)) none.there
      ∙ sym (ap (λ (o : Option ℕ). tunnel_if_at lane (option_map (λ s. lane_by channels (side s)) o)) none.is)
  | inr same ↦
      let ds : List ChannelState = channels_in assigned channels part in
      let s : ℕ = same.s in
      let r : ℕ = same.r in
      let place : ℕ → ℕ = place_in assigned channels part in
      let tunnel_r : get_or (tunnels_from 0 ds) (side r / 2) no_tunnel ≡ get_or (tunnels_from 0 ds) (r / 2) no_tunnel = ap (λ (n : ℕ). get_or (tunnels_from 0 ds) n no_tunnel) (keeps.half r) in
      let tunnel_s : get_or (tunnels_from 0 channels) (side s / 2) no_tunnel ≡ get_or (tunnels_from 0 channels) (s / 2) no_tunnel = ap (λ (n : ℕ). get_or (tunnels_from 0 channels) n no_tunnel) (keeps.half s) in
      let channel_r : (get_or (tunnels_from 0 ds) (side r / 2) no_tunnel).channel ≡ place same.c = ap (λ (t : TunnelPlace). t.channel) tunnel_r ∙ same.channel_there in
      let channel_s : (get_or (tunnels_from 0 channels) (side s / 2) no_tunnel).channel ≡ same.c = ap (λ (t : TunnelPlace). t.channel) tunnel_s ∙ same.channel_is in
      let sides : side r % 2 ≡ side s % 2 = keeps.even r s same.side in
      let within : (get_or (tunnels_from 0 ds) (side r / 2) no_tunnel).within ≡ (get_or (tunnels_from 0 channels) (side s / 2) no_tunnel).within =
      ap (λ (t : TunnelPlace). t.within) tunnel_r ∙ (same.within ∙ sym (ap (λ (t : TunnelPlace). t.within) tunnel_s)) in
      let there : (lane_by ds (side r)).0 ≡ 2 * place (lane / 2) + lane % 2 → (lane_by channels (side s)).0 ≡ lane =
      (λ (is : (lane_by ds (side r)).0 ≡ 2 * place (lane / 2) + lane % 2).
      let parts = lane_parts (get_or (tunnels_from 0 ds) (side r / 2) no_tunnel).channel (place (lane / 2)) (side r % 2) (lane % 2) (low (side r)) (low lane) is in
      let c : same.c ≡ lane / 2 = place_apart assigned channels part same.c (lane / 2) same.channel channel same.at at same.touches touches (sym channel_r ∙ parts.0) in
      ap₂ (λ (p q : ℕ). 2 * p + q) (channel_s ∙ c) (sym sides ∙ parts.1) ∙ lane_whole lane) in
      let back : (lane_by channels (side s)).0 ≡ lane → (lane_by ds (side r)).0 ≡ 2 * place (lane / 2) + lane % 2 =
      (λ (is : (lane_by channels (side s)).0 ≡ lane).
      let parts = lane_parts (get_or (tunnels_from 0 channels) (side s / 2) no_tunnel).channel (lane / 2) (side s % 2) (lane % 2) (low (side s)) (low lane) (is ∙ sym (lane_whole lane)) in
      ap₂ (λ (p q : ℕ). 2 * p + q) (channel_r ∙ ap place (sym channel_s ∙ parts.0)) (sides ∙ parts.1)) in
      ap (λ (o : Option ℕ). tunnel_if_at (2 * place (lane / 2) + lane % 2) (option_map (λ s. lane_by ds (side s)) o)) same.there
      ∙ (if_same ((lane_by ds (side r)).0 == (2 * place (lane / 2) + lane % 2)) ((lane_by channels (side s)).0 == lane) (lane_by ds (side r)).1 (lane_by channels (side s)).1
      (both_tests (lane_by ds (side r)).0 (2 * place (lane / 2) + lane % 2) (lane_by channels (side s)).0 lane there back) within
      ∙ sym (ap (λ (o : Option ℕ). tunnel_if_at lane (option_map (λ s. lane_by channels (side s)) o)) same.is))
]
