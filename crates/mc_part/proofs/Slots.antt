-- A slot by its channel, its tunnel's number within that, and its side.
use Rattle.std.proofs.Common.{◌≡◌, ◌<◌, ◌+◌, ◌-◌, ◌*◌, ◌/◌, ◌%◌, ◌==◌, inl, inr, if◌then◌else◌, ℕ, zero, suc, Some, List, [], ◌∷◌, length, length-append, get_or, refl, ap, sym, ◌∙◌, subst, arith}
use Rattle.std.proofs.lemmas.Bool.{cases_lt}
use Rattle.std.proofs.lemmas.List.{get_or-append-add, get_or_append_left}
use Rattle.std.proofs.lemmas.Option.{none-some, same_Some, slice_get_within}
use Rattle.std.specs.List.{flat_map, slice_get}
use Rattle.mc_laws.proofs.TunnelPlaces.{within_slots}
use Rattle.mc_model.specs.Worlds.{ChannelState, TunnelPlace, no_tunnel, places_among, places_of, places_within, tunnels_from, tunnels_within}
use Rattle.mc_model.specs.declared.channel.Tunnel.{Tunnel}

-- the box of a channel, and the local number of a tunnel, on a side
abbrev pub end_on : ℕ → ChannelState → ℕ
end_on side channel = if side == 0 then channel.from else channel.to

abbrev pub slot_on : ℕ → Tunnel → ℕ
slot_on side tunnel = if side == 0 then tunnel.from else tunnel.to

-- ---- the slots of one channel

record IsSlotOf (ends : ChannelState) (tunnels : List Tunnel) (s : ℕ) : Type 0 where
  tunnel : Tunnel
  at : slice_get tunnels (s / 2) ≡ Some tunnel
  place : get_or (flat_map (places_of ends) tunnels) s (0, 0) ≡ (end_on (s % 2) ends, slot_on (s % 2) tunnel)

two_on : (s : ℕ) → (s % 2 ≡ suc (suc s) % 2) × (suc (suc s) / 2 ≡ suc (s / 2))
two_on s = (omega arith, omega arith)

slot_of_channel : (ends : ChannelState) (tunnels : List Tunnel) (s : ℕ) → s < 2 * length tunnels → IsSlotOf ends tunnels s
slot_of_channel ends [] s inside = absurd (omega arith)
slot_of_channel ends (tunnel ∷ tunnels) zero inside = record { tunnel = tunnel; at = refl; place = refl }
slot_of_channel ends (tunnel ∷ tunnels) (suc zero) inside = record { tunnel = tunnel; at = refl; place = refl }
slot_of_channel ends (tunnel ∷ tunnels) (suc (suc s)) inside =
    let rest : IsSlotOf ends tunnels s = slot_of_channel ends tunnels s (omega arith) in
    record {
      tunnel = rest.tunnel;
      at = ap (λ (n : ℕ). slice_get (tunnel ∷ tunnels) n) (two_on s).1 ∙ rest.at;
      place = rest.place ∙ ap (λ (n : ℕ). (end_on n ends, slot_on n rest.tunnel)) (two_on s).0;
    }

record IsTunnelOf (tunnel : TunnelPlace) (channel within : ℕ) : Type 0 where
  channel_is : tunnel.channel ≡ channel
  within_is : tunnel.within ≡ within

tunnel_of_channel : (tunnels : List Tunnel) (channel within i : ℕ) → i < length tunnels → IsTunnelOf (get_or (tunnels_within channel within tunnels) i no_tunnel) channel (within + i)
tunnel_of_channel [] channel within i below = absurd (omega arith)
tunnel_of_channel (tunnel ∷ tunnels) channel within zero below = record { channel_is = refl; within_is = omega arith }
tunnel_of_channel (tunnel ∷ tunnels) channel within (suc i) below =
    let later = tunnel_of_channel tunnels channel (within + 1) i (omega arith) in
    record { channel_is = later.channel_is; within_is = omega (arith, later.within_is) }

as_many : (tunnels : List Tunnel) (channel within : ℕ) → length (tunnels_within channel within tunnels) ≡ length tunnels
as_many [] channel within = refl
as_many (tunnel ∷ tunnels) channel within = ap suc (as_many tunnels channel (within + 1))

-- ---- the slots of channels, numbered from one on

-- slot s is that of tunnel t of channel c
pub record Stands (channels : List ChannelState) (first s c t : ℕ) : Type 0 where
  pub channel : ChannelState
  pub tunnel : Tunnel
  pub at : slice_get channels c ≡ Some channel
  pub has : slice_get channel.tunnels t ≡ Some tunnel
  pub inside : s < length (places_among channels)
  pub place : get_or (places_among channels) s (0, 0) ≡ (end_on (s % 2) channel, slot_on (s % 2) tunnel)
  pub channel_is : (get_or (tunnels_from first channels) (s / 2) no_tunnel).channel ≡ first + c
  pub within_is : (get_or (tunnels_from first channels) (s / 2) no_tunnel).within ≡ t

half_below : (s n : ℕ) → s < 2 * n → s / 2 < n
half_below s n below = omega arith

no_more : (n : ℕ) → (n ≡ n + 0) × (0 + n ≡ n)
no_more n = (omega arith, omega arith)

less_sum : (s n m k : ℕ) → s < n → m ≡ n + k → s < m
less_sum s n m k below is = omega arith

here : (ends : ChannelState) (channels : List ChannelState) (first s : ℕ) → s < 2 * length ends.tunnels → Stands (ends ∷ channels) first s 0 (s / 2)
here ends channels first s below =
    let slot : IsSlotOf ends ends.tunnels s = slot_of_channel ends ends.tunnels s below in
    let half : s / 2 < length ends.tunnels = half_below s (length ends.tunnels) below in
    let tunnel : IsTunnelOf (get_or (tunnels_within first 0 ends.tunnels) (s / 2) no_tunnel) first (0 + s / 2) = tunnel_of_channel ends.tunnels first 0 (s / 2) half in
    let short : s < length (places_within ends) = subst (λ (n : ℕ). s < n) (sym (within_slots ends ends.tunnels)) below in
    let same : get_or (tunnels_from first (ends ∷ channels)) (s / 2) no_tunnel ≡ get_or (tunnels_within first 0 ends.tunnels) (s / 2) no_tunnel =
    get_or_append_left (tunnels_within first 0 ends.tunnels) (tunnels_from (first + 1) channels) no_tunnel (s / 2) (subst (λ (n : ℕ). s / 2 < n) (sym (as_many ends.tunnels first 0)) half) in
    record {
      channel = ends;
      tunnel = slot.tunnel;
      at = refl;
      has = slot.at;
      inside = less_sum s (length (places_within ends)) (length (places_among (ends ∷ channels))) (length (places_among channels)) short
          (length-append (places_within ends) (places_among channels));
      place = get_or_append_left (places_within ends) (places_among channels) (0, 0) s short ∙ slot.place;
      channel_is = ap (λ (t : TunnelPlace). t.channel) same ∙ (tunnel.channel_is ∙ (no_more first).0);
      within_is = ap (λ (t : TunnelPlace). t.within) same ∙ (tunnel.within_is ∙ (no_more (s / 2)).1);
    }

past_half : (n s : ℕ) → ((2 * n + s) / 2 ≡ n + s / 2) × ((2 * n + s) % 2 ≡ s % 2)
past_half n s = (omega arith, omega arith)

there : (ends : ChannelState) (channels : List ChannelState) (first s c t : ℕ) → Stands channels (first + 1) s c t → Stands (ends ∷ channels) first (2 * length ends.tunnels + s) (suc c) t
there ends channels first s c t rest =
    let n : ℕ = length ends.tunnels in
    let two : length (places_within ends) ≡ 2 * n = within_slots ends ends.tunnels in
    let sum : length (places_among (ends ∷ channels)) ≡ length (places_within ends) + length (places_among channels) = length-append (places_within ends) (places_among channels) in
    let parts = past_half n s in
    let same : get_or (tunnels_from first (ends ∷ channels)) ((2 * n + s) / 2) no_tunnel ≡ get_or (tunnels_from (first + 1) channels) (s / 2) no_tunnel =
    ap (λ (i : ℕ). get_or (tunnels_from first (ends ∷ channels)) i no_tunnel) (parts.0 ∙ ap (λ (m : ℕ). m + s / 2) (sym (as_many ends.tunnels first 0)))
    ∙ get_or-append-add (tunnels_within first 0 ends.tunnels) (tunnels_from (first + 1) channels) (s / 2) no_tunnel in
    let below : s < length (places_among channels) = rest.inside in
    let one_on : (first + 1) + c ≡ first + suc c = omega arith in
    record {
      channel = rest.channel;
      tunnel = rest.tunnel;
      at = rest.at;
      has = rest.has;
      inside = omega (arith, below, sum, two);
      place = ap (λ (m : ℕ). get_or (places_among (ends ∷ channels)) (m + s) (0, 0)) (sym two)
          ∙ (get_or-append-add (places_within ends) (places_among channels) s (0, 0)
          ∙ (rest.place ∙ ap (λ (side : ℕ). (end_on side rest.channel, slot_on side rest.tunnel)) (sym parts.1)));
      channel_is = ap (λ (t : TunnelPlace). t.channel) same ∙ (rest.channel_is ∙ one_on);
      within_is = ap (λ (t : TunnelPlace). t.within) same ∙ rest.within_is;
    }

-- each slot is that of some tunnel of some channel
pub record Standing (channels : List ChannelState) (first s : ℕ) : Type 0 where
  pub c : ℕ
  pub t : ℕ
  pub stands : Stands channels first s c t

pub standing : (channels : List ChannelState) (first s : ℕ) → s < length (places_among channels) → Standing channels first s
standing [] first s inside = absurd (omega arith)
standing (ends ∷ channels) first s inside = elim (cases_lt s (2 * length ends.tunnels)) [
  | inl below ↦ record { c = 0; t = s / 2; stands = here ends channels first s below }
  | inr above ↦
      let sum = length-append (places_within ends) (places_among channels) in
      let two = within_slots ends ends.tunnels in
      let rest : Standing channels (first + 1) (s - 2 * length ends.tunnels) = standing channels (first + 1) (s - 2 * length ends.tunnels) (omega (arith, sum, two, inside, above)) in
      let back : 2 * length ends.tunnels + (s - 2 * length ends.tunnels) ≡ s = omega arith in
      record {
        c = suc rest.c;
        t = rest.t;
        stands = subst (λ (n : ℕ). Stands (ends ∷ channels) first n (suc rest.c) rest.t) back (there ends channels first (s - 2 * length ends.tunnels) rest.c rest.t rest.stands);
      }
]

-- each tunnel of each channel has a slot on either side
pub record StandsOn (channels : List ChannelState) (first c t side : ℕ) : Type 0 where
  pub s : ℕ
  pub side_is : s % 2 ≡ side
  pub stands : Stands channels first s c t

side_parts : (t side : ℕ) → side < 2 → ((2 * t + side) / 2 ≡ t) × ((2 * t + side) % 2 ≡ side)
side_parts t side low = (omega arith, omega arith)

pub stands_on : (channels : List ChannelState) (first c t side : ℕ) (channel : ChannelState) (tunnel : Tunnel) → side < 2 → slice_get channels c ≡ Some channel → slice_get channel.tunnels t ≡ Some tunnel
    → StandsOn channels first c t side
stands_on [] first c t side channel tunnel low at has = absurd (none-some channel at)
stands_on (ends ∷ channels) first zero t side channel tunnel low at has =
    let same : ends ≡ channel = same_Some ends channel at in
    let inside : t < length ends.tunnels = slice_get_within ends.tunnels t tunnel (ap (λ (e : ChannelState). slice_get e.tunnels t) same ∙ has) in
    let parts = side_parts t side low in
    record {
      s = 2 * t + side;
      side_is = parts.1;
      stands = subst (λ (n : ℕ). Stands (ends ∷ channels) first (2 * t + side) 0 n) parts.0 (here ends channels first (2 * t + side) (omega (arith, inside, low)));
    }
stands_on (ends ∷ channels) first (suc c) t side channel tunnel low at has =
    let rest : StandsOn channels (first + 1) c t side = stands_on channels (first + 1) c t side channel tunnel low at has in
    record {
      s = 2 * length ends.tunnels + rest.s;
      side_is = (past_half (length ends.tunnels) rest.s).1 ∙ rest.side_is;
      stands = there ends channels first rest.s c t rest.stands;
    }
