-- The slots to which one lane leads: they are of one box, and follow each other as their tunnels do.
use Rattle.std.proofs.Common.{◌≡◌, ◌<◌, ◌≤◌, ◌+◌, ◌-◌, ◌*◌, ◌/◌, ◌%◌, ◌==◌, ◌⊎◌, inl, inr, if◌then◌else◌, ℕ, zero, suc, List, [], ◌∷◌, ◌++◌, length, length-append, zero-add, refl, ap, sym, ◌∙◌, subst, arith}
use Rattle.std.proofs.Math.ListN.{get_or}
use Rattle.std.proofs.lemmas.Bool.{cases_lt}
use Rattle.std.proofs.lemmas.List.{get_or_append_left, get_or-append_right}
use Rattle.std.specs.List.{flat_map}
use Rattle.mc_model.specs.Worlds.{ChannelState, TunnelPlace, WorldState, lane_of, no_tunnel, place, places_among, places_of, places_within, slot_count, tunnel_of, tunnels_from, tunnels_within}
use Rattle.mc_model.specs.declared.channel.Tunnel.{Tunnel}
use Rattle.mc_laws.proofs.TunnelPlaces.{channel_in, two_each, within_slots}

-- the box on a slot's side of a channel
abbrev box_by_side : ChannelState → ℕ → ℕ
box_by_side ends s = if s % 2 == 0 then ends.from else ends.to

-- two further on is the same side
side_more : (ends : ChannelState) (s : ℕ) → box_by_side ends s ≡ box_by_side ends (suc (suc s))
side_more ends s = ap (λ (n : ℕ). if n == 0 then ends.from else ends.to) (let e : s % 2 ≡ suc (suc s) % 2 = omega arith in e)

-- ---- one channel

-- its slots are of the box on their side
within_box : (ends : ChannelState) (tunnels : List Tunnel) (s : ℕ) → s < 2 * length tunnels → (get_or (flat_map (places_of ends) tunnels) s (0, 0)).0 ≡ box_by_side ends s
within_box ends [] s inside = absurd (omega arith)
within_box ends (tunnel ∷ tunnels) zero inside = refl
within_box ends (tunnel ∷ tunnels) (suc zero) inside = refl
within_box ends (tunnel ∷ tunnels) (suc (suc s)) inside = within_box ends tunnels s (omega arith) ∙ side_more ends s

-- and its tunnels are its own
within_count : (tunnels : List Tunnel) (channel within : ℕ) → length (tunnels_within channel within tunnels) ≡ length tunnels
within_count [] channel within = refl
within_count (tunnel ∷ tunnels) channel within = ap suc (within_count tunnels channel (within + 1))

within_channel : (tunnels : List Tunnel) (channel within i : ℕ) → i < length tunnels → (get_or (tunnels_within channel within tunnels) i no_tunnel).channel ≡ channel
within_channel [] channel within i inside = absurd (omega arith)
within_channel (tunnel ∷ tunnels) channel within zero inside = refl
within_channel (tunnel ∷ tunnels) channel within (suc i) inside = within_channel tunnels channel (within + 1) i (omega arith)

within_number : (tunnels : List Tunnel) (channel within i : ℕ) → i < length tunnels → (get_or (tunnels_within channel within tunnels) i no_tunnel).within ≡ within + i
within_number [] channel within i inside = absurd (omega arith)
within_number (tunnel ∷ tunnels) channel within zero inside = omega arith
within_number (tunnel ∷ tunnels) channel within (suc i) inside = omega (arith, within_number tunnels channel (within + 1) i (omega arith))

-- ---- all channels

-- where a slot stands: in the first channel, or in one after it
record Here (ends : ChannelState) (channels : List ChannelState) (first s : ℕ) : Type 0 where
  box : (get_or (places_among (ends ∷ channels)) s (0, 0)).0 ≡ box_by_side ends s
  channel : (get_or (tunnels_from first (ends ∷ channels)) (s / 2) no_tunnel).channel ≡ first
  within : (get_or (tunnels_from first (ends ∷ channels)) (s / 2) no_tunnel).within ≡ s / 2

record Later (ends : ChannelState) (channels : List ChannelState) (first s t : ℕ) : Type 0 where
  below : t < length (places_among channels)
  sum : s ≡ t + 2 * length ends.tunnels
  side : t % 2 ≡ s % 2
  box : get_or (places_among (ends ∷ channels)) s (0, 0) ≡ get_or (places_among channels) t (0, 0)
  tunnel : get_or (tunnels_from first (ends ∷ channels)) (s / 2) no_tunnel ≡ get_or (tunnels_from (first + 1) channels) (t / 2) no_tunnel

half_below : (s n : ℕ) → s < 2 * n → s / 2 < n
half_below s n below = omega arith

half_above : (s n : ℕ) → 2 * n ≤ s → n ≤ s / 2
half_above s n above = omega arith

half_less : (s n : ℕ) → 2 * n ≤ s → s / 2 - n ≡ (s - 2 * n) / 2
half_less s n above = omega arith

side_less : (s n : ℕ) → 2 * n ≤ s → (s - 2 * n) % 2 ≡ s % 2
side_less s n above = omega arith

stands : (ends : ChannelState) (channels : List ChannelState) (first s : ℕ) → s < length (places_among (ends ∷ channels)) → Here ends channels first s ⊎ ((t : ℕ) × Later ends channels first s t)
stands ends channels first s inside =
    let slots : length (places_within ends) ≡ 2 * length ends.tunnels = within_slots ends ends.tunnels in
    let count : length (tunnels_within first 0 ends.tunnels) ≡ length ends.tunnels = within_count ends.tunnels first 0 in
    let all : length (places_within ends ++ places_among channels) ≡ length (places_within ends) + length (places_among channels) = length-append (places_within ends) (places_among channels) in
    elim (cases_lt s (2 * length ends.tunnels)) [
      | inl below ↦
          inl (record {
            box = ap (λ (p : ℕ × ℕ). p.0) (get_or_append_left (places_within ends) (places_among channels) (0, 0) s (omega arith)) ∙ within_box ends ends.tunnels s below;
            channel = ap (λ (j : TunnelPlace). j.channel) (get_or_append_left (tunnels_within first 0 ends.tunnels) (tunnels_from (first + 1) channels) no_tunnel (s / 2) (subst (λ (m : ℕ). s / 2 < m) (sym count) (half_below s (length ends.tunnels) below)))
                ∙ within_channel ends.tunnels first 0 (s / 2) (half_below s (length ends.tunnels) below);
            within = ap (λ (j : TunnelPlace). j.within) (get_or_append_left (tunnels_within first 0 ends.tunnels) (tunnels_from (first + 1) channels) no_tunnel (s / 2) (subst (λ (m : ℕ). s / 2 < m) (sym count) (half_below s (length ends.tunnels) below)))
                ∙ (within_number ends.tunnels first 0 (s / 2) (half_below s (length ends.tunnels) below) ∙ zero-add (s / 2));
          })
      | inr above ↦
          inr (
            s - 2 * length ends.tunnels,
            record {
              below = omega arith;
              sum = omega arith;
              side = side_less s (length ends.tunnels) above;
              box = get_or-append_right (places_within ends) (places_among channels) (2 * length ends.tunnels) s (0, 0) slots above;
              tunnel = get_or-append_right (tunnels_within first 0 ends.tunnels) (tunnels_from (first + 1) channels) (length ends.tunnels) (s / 2) no_tunnel count (half_above s (length ends.tunnels) above)
                  ∙ ap (λ (i : ℕ). get_or (tunnels_from (first + 1) channels) i no_tunnel) (half_less s (length ends.tunnels) above);
            },
          )
    ]

-- a later channel has a higher number
later_above : (ends : ChannelState) (channels : List ChannelState) (first s t : ℕ) → Later ends channels first s t → first < (get_or (tunnels_from first (ends ∷ channels)) (s / 2) no_tunnel).channel
later_above ends channels first s t later =
    let two : length (places_among channels) ≡ 2 * length (tunnels_from (first + 1) channels) = two_each channels (first + 1) in
    let inside : t / 2 < length (tunnels_from (first + 1) channels) = half_below t (length (tunnels_from (first + 1) channels)) (subst (λ (m : ℕ). t < m) two later.below) in
    let high = (channel_in channels (first + 1) (t / 2) inside).0 in
    let same : (get_or (tunnels_from first (ends ∷ channels)) (s / 2) no_tunnel).channel ≡ (get_or (tunnels_from (first + 1) channels) (t / 2) no_tunnel).channel = ap (λ (j : TunnelPlace). j.channel) later.tunnel in
    omega arith

-- slots of one channel and one side are of one box
one_box : (channels : List ChannelState) (first s t : ℕ) → s < length (places_among channels) → t < length (places_among channels)
    → (get_or (tunnels_from first channels) (s / 2) no_tunnel).channel ≡ (get_or (tunnels_from first channels) (t / 2) no_tunnel).channel → s % 2 ≡ t % 2
    → (get_or (places_among channels) s (0, 0)).0 ≡ (get_or (places_among channels) t (0, 0)).0
one_box [] first s t one two channel side = absurd (omega arith)
one_box (ends ∷ channels) first s t one two channel side = elim (stands ends channels first s one) [
  | inl here ↦ elim (stands ends channels first t two) [
    | inl same ↦ here.box ∙ (ap (λ (n : ℕ). if n == 0 then ends.from else ends.to) side ∙ sym same.box)
    | inr later ↦ absurd (let high = later_above ends channels first t later.0 later.1 in let is = here.channel in omega arith)
  ]
  | inr there ↦ elim (stands ends channels first t two) [
    | inl same ↦ absurd (let high = later_above ends channels first s there.0 there.1 in let is = same.channel in omega arith)
    | inr later ↦
        ap (λ (p : ℕ × ℕ). p.0) there.1.box
        ∙ (one_box channels (first + 1) there.0 later.0 there.1.below later.1.below
        (sym (ap (λ (j : TunnelPlace). j.channel) there.1.tunnel) ∙ (channel ∙ ap (λ (j : TunnelPlace). j.channel) later.1.tunnel)) (there.1.side ∙ (side ∙ sym later.1.side))
        ∙ ap (λ (p : ℕ × ℕ). p.0) (sym later.1.box))
  ]
]

-- two slots in the first channel, where their tunnels stand
first_run : (s t : ℕ) → s % 2 ≡ t % 2 → s + 2 * (t / 2) ≡ t + 2 * (s / 2)
first_run s t side = omega arith

more_run : (s t s1 t1 n one two : ℕ) → s ≡ s1 + n → t ≡ t1 + n → s1 + 2 * two ≡ t1 + 2 * one → s + 2 * two ≡ t + 2 * one
more_run s t s1 t1 n one two first second rest = omega arith

-- and follow each other as their tunnels do
one_run : (channels : List ChannelState) (first s t : ℕ) → s < length (places_among channels) → t < length (places_among channels)
    → (get_or (tunnels_from first channels) (s / 2) no_tunnel).channel ≡ (get_or (tunnels_from first channels) (t / 2) no_tunnel).channel → s % 2 ≡ t % 2
    → s + 2 * (get_or (tunnels_from first channels) (t / 2) no_tunnel).within ≡ t + 2 * (get_or (tunnels_from first channels) (s / 2) no_tunnel).within
one_run [] first s t one two channel side = absurd (omega arith)
one_run (ends ∷ channels) first s t one two channel side = elim (stands ends channels first s one) [
  | inl here ↦ elim (stands ends channels first t two) [
    | inl same ↦ ap (λ (n : ℕ). s + 2 * n) same.within ∙ (first_run s t side ∙ ap (λ (n : ℕ). t + 2 * n) (sym here.within))
    | inr later ↦ absurd (let high = later_above ends channels first t later.0 later.1 in let is = here.channel in omega arith)
  ]
  | inr there ↦ elim (stands ends channels first t two) [
    | inl same ↦ absurd (let high = later_above ends channels first s there.0 there.1 in let is = same.channel in omega arith)
    | inr later ↦
        more_run s t there.0 later.0 (2 * length ends.tunnels) (get_or (tunnels_from first (ends ∷ channels)) (s / 2) no_tunnel).within (get_or (tunnels_from first (ends ∷ channels)) (t / 2) no_tunnel).within there.1.sum later.1.sum
        (ap (λ (j : TunnelPlace). there.0 + 2 * j.within) later.1.tunnel
        ∙ (one_run channels (first + 1) there.0 later.0 there.1.below later.1.below
        (sym (ap (λ (j : TunnelPlace). j.channel) there.1.tunnel) ∙ (channel ∙ ap (λ (j : TunnelPlace). j.channel) later.1.tunnel)) (there.1.side ∙ (side ∙ sym later.1.side))
        ∙ ap (λ (j : TunnelPlace). later.0 + 2 * j.within) (sym there.1.tunnel)))
  ]
]

lane_parts : (c d p q : ℕ) → p < 2 → q < 2 → 2 * c + p ≡ 2 * d + q → (c ≡ d) × (p ≡ q)
lane_parts c d p q one two same = (omega arith, omega arith)

side_low : (s : ℕ) → s % 2 < 2
side_low s = omega arith

-- so slots of one lane are of one box
pub lane_box : (world : WorldState) (s t : ℕ) → s < slot_count world → t < slot_count world → lane_of world s ≡ lane_of world t → (place world s).0 ≡ (place world t).0
lane_box world s t one two same =
    let parts = lane_parts (tunnel_of world s).channel (tunnel_of world t).channel (s % 2) (t % 2) (side_low s) (side_low t) same in
    one_box world.channels 0 s t one two parts.0 parts.1

-- and follow each other
pub lane_run : (world : WorldState) (s t : ℕ) → s < slot_count world → t < slot_count world → lane_of world s ≡ lane_of world t → s + 2 * (tunnel_of world t).within ≡ t + 2 * (tunnel_of world s).within
lane_run world s t one two same =
    let parts = lane_parts (tunnel_of world s).channel (tunnel_of world t).channel (s % 2) (t % 2) (side_low s) (side_low t) same in
    one_run world.channels 0 s t one two parts.0 parts.1
