-- The tunnels of a world's channels: how many slots they have, and that channel and number within it tell them apart.
use Rattle.std.proofs.Common.{◌≡◌, ◌<◌, ◌≤◌, ◌+◌, ◌-◌, ◌*◌, ◌⊎◌, inl, inr, ℕ, zero, suc, List, [], ◌∷◌, ◌++◌, length, length-append, zero-add, refl, ap, sym, ◌∙◌, arith}
use Rattle.std.proofs.lemmas.Bool.{cases_lt}
use Rattle.std.proofs.lemmas.List.{get_or_append_left, get_or-append_right}
use Rattle.std.proofs.Math.ListN.{get_or}
use Rattle.std.specs.List.{flat_map}
use Rattle.mc_model.specs.Worlds.{ChannelState, TunnelPlace, tunnels_from, tunnels_within, no_tunnel, places_among, places_of, places_within}
use Rattle.mc_model.specs.declared.channel.Tunnel.{Tunnel}

-- a channel numbers all of its tunnels
within_count : (tunnels : List Tunnel) (channel within : ℕ) → length (tunnels_within channel within tunnels) ≡ length tunnels
within_count [] channel within = refl
within_count (tunnel ∷ tunnels) channel within = ap suc (within_count tunnels channel (within + 1))

-- and each of them has two slots
pub within_slots : (ends : ChannelState) (tunnels : List Tunnel) → length (flat_map (places_of ends) tunnels) ≡ 2 * length tunnels
within_slots ends [] = refl
within_slots ends (tunnel ∷ tunnels) = omega (arith, within_slots ends tunnels)

-- so slots are two for each tunnel
pub two_each : (channels : List ChannelState) (first : ℕ) → length (places_among channels) ≡ 2 * length (tunnels_from first channels)
two_each [] first = refl
two_each (ends ∷ channels) first = omega (
  arith,
  length-append (places_within ends) (places_among channels),
  length-append (tunnels_within first 0 ends.tunnels) (tunnels_from (first + 1) channels),
  within_slots ends ends.tunnels,
  within_count ends.tunnels first 0,
  two_each channels (first + 1),
)

-- a tunnel of one channel is known by its number
record Numbered (tunnel : TunnelPlace) (channel within : ℕ) : Type 0 where
  channel_is : tunnel.channel ≡ channel
  within_is : tunnel.within ≡ within

within_numbers : (tunnels : List Tunnel) (channel within i : ℕ) → i < length tunnels → Numbered (get_or (tunnels_within channel within tunnels) i no_tunnel) channel (within + i)
within_numbers [] channel within i below = absurd (omega arith)
within_numbers (tunnel ∷ tunnels) channel within zero below = record { channel_is = refl; within_is = omega arith }
within_numbers (tunnel ∷ tunnels) channel within (suc i) below =
    let later = within_numbers tunnels channel (within + 1) i (omega arith) in
    record { channel_is = later.channel_is; within_is = omega (arith, later.within_is) }

-- where a tunnel stands among those of all channels: in the first channel, or in one after it
record First (ends : ChannelState) (channels : List ChannelState) (first i : ℕ) : Type 0 where
  below : i < length ends.tunnels
  numbers : Numbered (get_or (tunnels_from first (ends ∷ channels)) i no_tunnel) first i

record Later (ends : ChannelState) (channels : List ChannelState) (first i j : ℕ) : Type 0 where
  sum : i ≡ length ends.tunnels + j
  below : j < length (tunnels_from (first + 1) channels)
  same : get_or (tunnels_from first (ends ∷ channels)) i no_tunnel ≡ get_or (tunnels_from (first + 1) channels) j no_tunnel

first_or_later : (ends : ChannelState) (channels : List ChannelState) (first i : ℕ) → i < length (tunnels_from first (ends ∷ channels))
    → First ends channels first i ⊎ ((j : ℕ) × Later ends channels first i j)
first_or_later ends channels first i inside =
    let here : List TunnelPlace = tunnels_within first 0 ends.tunnels in
    let there : List TunnelPlace = tunnels_from (first + 1) channels in
    let count : length (tunnels_within first 0 ends.tunnels) ≡ length ends.tunnels = within_count ends.tunnels first 0 in
    let sum : length (tunnels_within first 0 ends.tunnels ++ tunnels_from (first + 1) channels) ≡ length (tunnels_within first 0 ends.tunnels) + length (tunnels_from (first + 1) channels) =
    length-append (tunnels_within first 0 ends.tunnels) (tunnels_from (first + 1) channels) in
    elim (cases_lt i (length ends.tunnels)) [
      | inl below ↦
          let same : get_or (here ++ there) i no_tunnel ≡ get_or here i no_tunnel = get_or_append_left here there no_tunnel i (omega arith) in
          let numbers : Numbered (get_or here i no_tunnel) first (0 + i) = within_numbers ends.tunnels first 0 i below in
          inl (record { below = below; numbers = record { channel_is = ap (λ (j : TunnelPlace). j.channel) same ∙ numbers.channel_is; within_is = ap (λ (j : TunnelPlace). j.within) same ∙ (numbers.within_is ∙ zero-add i) } })
      | inr above ↦
          inr (
            i - length ends.tunnels,
            record {
              sum = omega arith;
              below = omega arith;
              same = get_or-append_right here there (length ends.tunnels) i no_tunnel count above;
            },
          )
    ]

-- the channel of a tunnel is one of those
pub channel_in : (channels : List ChannelState) (first i : ℕ) → i < length (tunnels_from first channels)
    → (first ≤ (get_or (tunnels_from first channels) i no_tunnel).channel) × ((get_or (tunnels_from first channels) i no_tunnel).channel < first + length channels)
channel_in [] first i inside = absurd (omega arith)
channel_in (ends ∷ channels) first i inside = elim (first_or_later ends channels first i inside) [
  | inl here ↦ (omega (arith, here.numbers.channel_is), omega (arith, here.numbers.channel_is))
  | inr there ↦
      let later = channel_in channels (first + 1) there.0 there.1.below in
      let same : (get_or (tunnels_from first (ends ∷ channels)) i no_tunnel).channel ≡ (get_or (tunnels_from (first + 1) channels) there.0 no_tunnel).channel = ap (λ (j : TunnelPlace). j.channel) there.1.same in
      (omega (arith, later.0, same), omega (arith, later.1, same))
]

-- tunnels of one channel and one number within it are the same
pub places_apart : (channels : List ChannelState) (first i k : ℕ) → i < length (tunnels_from first channels) → k < length (tunnels_from first channels)
    → (get_or (tunnels_from first channels) i no_tunnel).channel ≡ (get_or (tunnels_from first channels) k no_tunnel).channel
    → (get_or (tunnels_from first channels) i no_tunnel).within ≡ (get_or (tunnels_from first channels) k no_tunnel).within → i ≡ k
places_apart [] first i k one two channel within = absurd (omega arith)
places_apart (ends ∷ channels) first i k one two channel within = elim (first_or_later ends channels first i one) [
  | inl here ↦ elim (first_or_later ends channels first k two) [
    | inl same ↦ sym here.numbers.within_is ∙ (within ∙ same.numbers.within_is)
    | inr later ↦
        let far = channel_in channels (first + 1) later.0 later.1.below in
        let is : (get_or (tunnels_from first (ends ∷ channels)) k no_tunnel).channel ≡ (get_or (tunnels_from (first + 1) channels) later.0 no_tunnel).channel = ap (λ (j : TunnelPlace). j.channel) later.1.same in
        absurd (omega (arith, far.0, is, channel, here.numbers.channel_is))
  ]
  | inr there ↦ elim (first_or_later ends channels first k two) [
    | inl same ↦
        let far = channel_in channels (first + 1) there.0 there.1.below in
        let is : (get_or (tunnels_from first (ends ∷ channels)) i no_tunnel).channel ≡ (get_or (tunnels_from (first + 1) channels) there.0 no_tunnel).channel = ap (λ (j : TunnelPlace). j.channel) there.1.same in
        absurd (omega (arith, far.0, is, channel, same.numbers.channel_is))
    | inr later ↦
        let rest : there.0 ≡ later.0 = places_apart channels (first + 1) there.0 later.0 there.1.below later.1.below
        (sym (ap (λ (j : TunnelPlace). j.channel) there.1.same) ∙ (channel ∙ ap (λ (j : TunnelPlace). j.channel) later.1.same))
        (sym (ap (λ (j : TunnelPlace). j.within) there.1.same) ∙ (within ∙ ap (λ (j : TunnelPlace). j.within) later.1.same)) in
        omega (arith, rest, there.1.sum, later.1.sum)
  ]
]
