-- The slots of channels, of which there is one more.
use Rattle.std.proofs.Common.{◌≡◌, ◌<◌, ◌≤◌, ◌+◌, ◌-◌, ◌*◌, ◌/◌, ◌%◌, ◌==◌, if◌then◌else◌, ℕ, zero, suc, Some, All, List, [], ◌∷◌, ◌++◌, length, length-append, take, drop, refl, ap, sym, ◌∙◌, subst, arith}
use Rattle.std.proofs.Math.ListN.{get_or}
use Rattle.std.proofs.lemmas.Grind.{flat_map-append}
use Rattle.std.proofs.lemmas.List.{append-nil, append_assoc, drop_more, get_or-append-add, get_or-append_right, get_or_append_left, take-append-drop}
use Rattle.std.proofs.lemmas.List.Elements.{All-append, All-cons, All-head, All-nil, All-tail}
use Rattle.std.proofs.lemmas.Option.{get_or_from_slice_get, slice_get_within}
use Rattle.std.specs.List.{flat_map, slice_get}
use Rattle.mc_laws.proofs.TunnelPlaces.{two_each, within_slots}
use Rattle.mc_model.specs.Worlds.{ChannelState, HasTunnels, TunnelPlace, no_tunnel, places_among, places_of, places_within, tunnels_from, tunnels_within}
use Rattle.mc_model.specs.declared.channel.TheConstants.{TUNNEL_LIMIT}
use Rattle.mc_model.specs.declared.channel.Tunnel.{Tunnel}

-- ---- one channel more, after all others

pub places_more : (channels : List ChannelState) (channel : ChannelState) → places_among (channels ++ channel ∷ []) ≡ places_among channels ++ places_within channel
places_more channels channel = flat_map-append places_within channels (channel ∷ []) ∙ ap (λ (l : List (ℕ × ℕ)). places_among channels ++ l) (append-nil (places_within channel))

pub tunnels_more : (channels : List ChannelState) (first n : ℕ) (channel : ChannelState) → first + length channels ≡ n → tunnels_from first (channels ++ channel ∷ []) ≡ tunnels_from first channels ++ tunnels_within n 0 channel.tunnels
tunnels_more [] first n channel is =
    let same : first ≡ n = omega arith in
    append-nil (tunnels_within first 0 channel.tunnels) ∙ ap (λ (k : ℕ). tunnels_within k 0 channel.tunnels) same
tunnels_more (ends ∷ channels) first n channel is =
    ap (λ (l : List TunnelPlace). tunnels_within first 0 ends.tunnels ++ l) (tunnels_more channels (first + 1) n channel (omega arith))
    ∙ sym (append_assoc (tunnels_within first 0 ends.tunnels) (tunnels_from (first + 1) channels) (tunnels_within n 0 channel.tunnels))

pub slots_more : (channels : List ChannelState) (channel : ChannelState) → length (places_among (channels ++ channel ∷ [])) ≡ length (places_among channels) + 2 * length channel.tunnels
slots_more channels channel = omega (
  arith,
  ap length (places_more channels channel),
  length-append (places_among channels) (places_within channel),
  within_slots channel channel.tunnels,
)

-- ---- the slots of one channel

-- the place of a slot, by its tunnel and its side
abbrev pub place_by : ChannelState → Tunnel → ℕ → ℕ × ℕ
place_by channel tunnel s = if s % 2 == 0 then (channel.from, tunnel.from) else (channel.to, tunnel.to)

pub record IsSlotOf (channel : ChannelState) (tunnels : List Tunnel) (s : ℕ) : Type 0 where
  pub tunnel : Tunnel
  pub at : slice_get tunnels (s / 2) ≡ Some tunnel
  pub place : get_or (flat_map (places_of channel) tunnels) s (0, 0) ≡ place_by channel tunnel s

side_on : (channel : ChannelState) (tunnel : Tunnel) (s : ℕ) → place_by channel tunnel s ≡ place_by channel tunnel (suc (suc s))
side_on channel tunnel s =
    let same : s % 2 ≡ suc (suc s) % 2 = omega arith in
    ap (λ (n : ℕ). if n == 0 then (channel.from, tunnel.from) else (channel.to, tunnel.to)) same

pub slot_of_channel : (channel : ChannelState) (tunnels : List Tunnel) (s : ℕ) → s < 2 * length tunnels → IsSlotOf channel tunnels s
slot_of_channel channel [] s inside = absurd (omega arith)
slot_of_channel channel (tunnel ∷ tunnels) zero inside = record { tunnel = tunnel; at = refl; place = refl }
slot_of_channel channel (tunnel ∷ tunnels) (suc zero) inside = record { tunnel = tunnel; at = refl; place = refl }
slot_of_channel channel (tunnel ∷ tunnels) (suc (suc s)) inside =
    let rest : IsSlotOf channel tunnels s = slot_of_channel channel tunnels s (omega arith) in
    let half : suc (suc s) / 2 ≡ suc (s / 2) = omega arith in
    record {
      tunnel = rest.tunnel;
      at = ap (λ (n : ℕ). slice_get (tunnel ∷ tunnels) n) half ∙ rest.at;
      place = rest.place ∙ side_on channel rest.tunnel s;
    }

-- each tunnel of a channel has the channel's number, and its own
pub record IsTunnelOf (tunnel : TunnelPlace) (channel within : ℕ) : Type 0 where
  pub channel_is : tunnel.channel ≡ channel
  pub within_is : tunnel.within ≡ within

pub tunnel_of_channel : (tunnels : List Tunnel) (channel within i : ℕ) → i < length tunnels → IsTunnelOf (get_or (tunnels_within channel within tunnels) i no_tunnel) channel (within + i)
tunnel_of_channel [] channel within i below = absurd (omega arith)
tunnel_of_channel (tunnel ∷ tunnels) channel within zero below = record { channel_is = refl; within_is = omega arith }
tunnel_of_channel (tunnel ∷ tunnels) channel within (suc i) below =
    let later = tunnel_of_channel tunnels channel (within + 1) i (omega arith) in
    record { channel_is = later.channel_is; within_is = omega (arith, later.within_is) }

-- ---- where a slot stands when there is a channel more

pub old_place : (channels : List ChannelState) (channel : ChannelState) (s : ℕ) → s < length (places_among channels) → get_or (places_among (channels ++ channel ∷ [])) s (0, 0) ≡ get_or (places_among channels) s (0, 0)
old_place channels channel s below =
    ap (λ (l : List (ℕ × ℕ)). get_or l s (0, 0)) (places_more channels channel) ∙ get_or_append_left (places_among channels) (places_within channel) (0, 0) s below

half_below : (s n : ℕ) → s < 2 * n → s / 2 < n
half_below s n below = omega arith

pub old_tunnel : (channels : List ChannelState) (channel : ChannelState) (s : ℕ) → s < length (places_among channels)
    → get_or (tunnels_from 0 (channels ++ channel ∷ [])) (s / 2) no_tunnel ≡ get_or (tunnels_from 0 channels) (s / 2) no_tunnel
old_tunnel channels channel s below =
    let inside : s / 2 < length (tunnels_from 0 channels) = half_below s (length (tunnels_from 0 channels)) (subst (λ (n : ℕ). s < n) (two_each channels 0) below) in
    ap (λ (l : List TunnelPlace). get_or l (s / 2) no_tunnel) (tunnels_more channels 0 (length channels) channel (omega arith))
    ∙ get_or_append_left (tunnels_from 0 channels) (tunnels_within (length channels) 0 channel.tunnels) no_tunnel (s / 2) inside

-- a slot of the new channel: its number within the channel, and what it is there
pub record IsNewSlot (channels : List ChannelState) (channel : ChannelState) (s : ℕ) : Type 0 where
  pub within : ℕ
  pub tunnel : Tunnel
  pub at : slice_get channel.tunnels within ≡ Some tunnel
  pub place : get_or (places_among (channels ++ channel ∷ [])) s (0, 0) ≡ place_by channel tunnel s
  pub tunnel_is : IsTunnelOf (get_or (tunnels_from 0 (channels ++ channel ∷ [])) (s / 2) no_tunnel) (length channels) within

half_from : (s n : ℕ) → 2 * n ≤ s → s / 2 - n ≡ (s - 2 * n) / 2
half_from s n above = omega arith

half_above : (s n : ℕ) → 2 * n ≤ s → n ≤ s / 2
half_above s n above = omega arith

side_from : (s n : ℕ) → 2 * n ≤ s → (s - 2 * n) % 2 ≡ s % 2
side_from s n above = omega arith

less_inside : (s n count : ℕ) → 2 * n ≤ s → s < 2 * n + 2 * count → s - 2 * n < 2 * count
less_inside s n count above below = omega arith

pub new_slot : (channels : List ChannelState) (channel : ChannelState) (s : ℕ) → length (places_among channels) ≤ s → s < length (places_among (channels ++ channel ∷ [])) → IsNewSlot channels channel s
new_slot channels channel s above below =
    let n : ℕ = length (tunnels_from 0 channels) in
    let two : length (places_among channels) ≡ 2 * length (tunnels_from 0 channels) = two_each channels 0 in
    let high : 2 * length (tunnels_from 0 channels) ≤ s = subst (λ (m : ℕ). m ≤ s) two above in
    let inside : s - 2 * n < 2 * length channel.tunnels =
    less_inside s n (length channel.tunnels) high (subst (λ (m : ℕ). s < m + 2 * length channel.tunnels) two (subst (λ (m : ℕ). s < m) (slots_more channels channel) below)) in
    let slot : IsSlotOf channel channel.tunnels (s - 2 * n) = slot_of_channel channel channel.tunnels (s - 2 * n) inside in
    let found : IsTunnelOf (get_or (tunnels_within (length channels) 0 channel.tunnels) ((s - 2 * n) / 2) no_tunnel) (length channels) (0 + (s - 2 * n) / 2) =
    tunnel_of_channel channel.tunnels (length channels) 0 ((s - 2 * n) / 2) (half_below (s - 2 * n) (length channel.tunnels) inside) in
    let there : get_or (tunnels_from 0 (channels ++ channel ∷ [])) (s / 2) no_tunnel ≡ get_or (tunnels_within (length channels) 0 channel.tunnels) ((s - 2 * n) / 2) no_tunnel =
    ap (λ (l : List TunnelPlace). get_or l (s / 2) no_tunnel) (tunnels_more channels 0 (length channels) channel (omega arith))
    ∙ (get_or-append_right (tunnels_from 0 channels) (tunnels_within (length channels) 0 channel.tunnels) n (s / 2) no_tunnel refl (half_above s n high)
    ∙ ap (λ (i : ℕ). get_or (tunnels_within (length channels) 0 channel.tunnels) i no_tunnel) (half_from s n high)) in
    let zero_less : 0 + (s - 2 * n) / 2 ≡ (s - 2 * n) / 2 = omega arith in
    record {
      within = (s - 2 * n) / 2;
      tunnel = slot.tunnel;
      at = slot.at;
      place =
          ap (λ (l : List (ℕ × ℕ)). get_or l s (0, 0)) (places_more channels channel)
          ∙ (get_or-append_right (places_among channels) (places_within channel) (2 * n) s (0, 0) two high
          ∙ (slot.place ∙ ap (λ (k : ℕ). if k == 0 then (channel.from, slot.tunnel.from) else (channel.to, slot.tunnel.to)) (side_from s n high)));
      tunnel_is = record {
        channel_is = ap (λ (t : TunnelPlace). t.channel) there ∙ found.channel_is;
        within_is = ap (λ (t : TunnelPlace). t.within) there ∙ (found.within_is ∙ zero_less);
      };
    }

-- ---- a channel among all

-- the places of all slots: those of earlier channels, of this one, and of later ones
places_split : (channels : List ChannelState) (n : ℕ) (channel : ChannelState) → n < length channels → channel ≡ get_or channels n channel
    → places_among channels ≡ places_among (take n channels) ++ (places_within channel ++ places_among (drop (n + 1) channels))
places_split channels n channel below is =
    let rest : drop n channels ≡ channel ∷ drop (n + 1) channels = drop_more channels n channel below ∙ ap (λ (c : ChannelState). c ∷ drop (n + 1) channels) (sym is) in
    ap places_among (sym (take-append-drop n channels))
    ∙ (flat_map-append places_within (take n channels) (drop n channels)
    ∙ ap (λ (l : List ChannelState). places_among (take n channels) ++ places_among l) rest)

pub record SlotStands (channels : List ChannelState) (s : ℕ) (place : ℕ × ℕ) : Type 0 where
  pub inside : s < length (places_among channels)
  pub is : get_or (places_among channels) s (0, 0) ≡ place

-- a slot of an earlier channel
pub earlier_stands : (channels : List ChannelState) (n : ℕ) (channel : ChannelState) (s : ℕ) → n < length channels → channel ≡ get_or channels n channel
    → s < length (places_among (take n channels)) → SlotStands channels s (get_or (places_among (take n channels)) s (0, 0))
earlier_stands channels n channel s below is before =
    let rest : List (ℕ × ℕ) = places_within channel ++ places_among (drop (n + 1) channels) in
    let split = places_split channels n channel below is in
    record {
      inside = omega (arith, ap length split, length-append (places_among (take n channels)) rest);
      is = ap (λ (l : List (ℕ × ℕ)). get_or l s (0, 0)) split ∙ get_or_append_left (places_among (take n channels)) rest (0, 0) s before;
    }

-- a slot of this channel
pub this_stands : (channels : List ChannelState) (n : ℕ) (channel : ChannelState) (i : ℕ) (place : ℕ × ℕ) → n < length channels → channel ≡ get_or channels n channel
    → slice_get (places_within channel) i ≡ Some place → SlotStands channels (length (places_among (take n channels)) + i) place
this_stands channels n channel i place below is here =
    let later : List (ℕ × ℕ) = places_among (drop (n + 1) channels) in
    let split = places_split channels n channel below is in
    let inside : i < length (places_within channel) = slice_get_within (places_within channel) i place here in
    record {
      inside = omega (arith, ap length split, length-append (places_among (take n channels)) (places_within channel ++ later), length-append (places_within channel) later);
      is =
          ap (λ (l : List (ℕ × ℕ)). get_or l (length (places_among (take n channels)) + i) (0, 0)) split
          ∙ (get_or-append-add (places_among (take n channels)) (places_within channel ++ later) i (0, 0)
          ∙ (get_or_append_left (places_within channel) later (0, 0) i inside
          ∙ get_or_from_slice_get (places_within channel) i place (0, 0) here));
    }

-- ---- each lane has a slot, and each tunnel a low number

as_many : (tunnels : List Tunnel) (channel within : ℕ) → length (tunnels_within channel within tunnels) ≡ length tunnels
as_many [] channel within = refl
as_many (tunnel ∷ tunnels) channel within = ap suc (as_many tunnels channel (within + 1))

pub record HasSlot (channels : List ChannelState) (first k side : ℕ) : Type 0 where
  pub slot : ℕ
  pub inside : slot < length (places_among channels)
  pub channel : (get_or (tunnels_from first channels) (slot / 2) no_tunnel).channel ≡ first + k
  pub side_is : slot % 2 ≡ side

first_half : (side : ℕ) → side < 2 → side / 2 ≡ 0
first_half side low = omega arith

side_itself : (side : ℕ) → side < 2 → side % 2 ≡ side
side_itself side low = omega arith

more_half : (s n : ℕ) → (s + 2 * n) / 2 ≡ n + s / 2
more_half s n = omega arith

more_side : (s n : ℕ) → (s + 2 * n) % 2 ≡ s % 2
more_side s n = omega arith

pub lane_has_slot : (channels : List ChannelState) (first k side : ℕ) → k < length channels → side < 2 → All HasTunnels channels → HasSlot channels first k side
lane_has_slot [] first k side below low tunnels = absurd (omega arith)
lane_has_slot (ends ∷ channels) first zero side below low tunnels =
    let some : 0 < length ends.tunnels = (All-head HasTunnels ends channels tunnels).some in
    let count = tunnel_of_channel ends.tunnels first 0 0 some in
    let long : length (tunnels_within first 0 ends.tunnels) ≡ length ends.tunnels = as_many ends.tunnels first 0 in
    record {
      slot = side;
      inside = omega (arith, length-append (places_within ends) (places_among channels), within_slots ends ends.tunnels);
      channel =
          ap (λ (i : ℕ). (get_or (tunnels_from first (ends ∷ channels)) i no_tunnel).channel) (first_half side low)
          ∙ (ap (λ (t : TunnelPlace). t.channel) (get_or_append_left (tunnels_within first 0 ends.tunnels) (tunnels_from (first + 1) channels) no_tunnel 0 (omega arith))
          ∙ (count.channel_is ∙ (let same : first ≡ first + 0 = omega arith in same)));
      side_is = side_itself side low;
    }
lane_has_slot (ends ∷ channels) first (suc k) side below low tunnels =
    let rest : HasSlot channels (first + 1) k side = lane_has_slot channels (first + 1) k side (omega arith) low (All-tail HasTunnels ends channels tunnels) in
    let long : length (tunnels_within first 0 ends.tunnels) ≡ length ends.tunnels = as_many ends.tunnels first 0 in
    record {
      slot = rest.slot + 2 * length ends.tunnels;
      inside = omega (arith, rest.inside, length-append (places_within ends) (places_among channels), within_slots ends ends.tunnels);
      channel =
          ap (λ (i : ℕ). (get_or (tunnels_from first (ends ∷ channels)) i no_tunnel).channel) (more_half rest.slot (length ends.tunnels))
          ∙ (ap (λ (t : TunnelPlace). t.channel) (ap (λ (n : ℕ). get_or (tunnels_from first (ends ∷ channels)) (n + rest.slot / 2) no_tunnel) (sym long)
          ∙ get_or-append-add (tunnels_within first 0 ends.tunnels) (tunnels_from (first + 1) channels) (rest.slot / 2) no_tunnel)
          ∙ (rest.channel ∙ (let same : first + 1 + k ≡ first + suc k = omega arith in same)));
      side_is = more_side rest.slot (length ends.tunnels) ∙ rest.side_is;
    }

abbrev IsLow : TunnelPlace → Type 0
IsLow tunnel = tunnel.within < TUNNEL_LIMIT

low_in_channel : (tunnels : List Tunnel) (channel within : ℕ) → within + length tunnels ≤ TUNNEL_LIMIT → All IsLow (tunnels_within channel within tunnels)
low_in_channel [] channel within few = All-nil IsLow
low_in_channel (tunnel ∷ tunnels) channel within few =
    All-cons IsLow (record { channel = channel; within = within; medium = tunnel.medium }) (tunnels_within channel (within + 1) tunnels) (omega arith) (low_in_channel tunnels channel (within + 1) (omega arith))

low_tunnels : (channels : List ChannelState) (first : ℕ) → All HasTunnels channels → All IsLow (tunnels_from first channels)
low_tunnels [] first tunnels = All-nil IsLow
low_tunnels (ends ∷ channels) first tunnels =
    All-append IsLow (tunnels_within first 0 ends.tunnels) (tunnels_from (first + 1) channels)
    (low_in_channel ends.tunnels first 0 (let few = (All-head HasTunnels ends channels tunnels).few in omega arith))
    (low_tunnels channels (first + 1) (All-tail HasTunnels ends channels tunnels))

pub slot_tunnel_low : (channels : List ChannelState) (s : ℕ) → All HasTunnels channels → s < length (places_among channels) → (get_or (tunnels_from 0 channels) (s / 2) no_tunnel).within < TUNNEL_LIMIT
slot_tunnel_low channels s tunnels below =
    low_tunnels channels 0 tunnels (s / 2) no_tunnel (half_below s (length (tunnels_from 0 channels)) (subst (λ (n : ℕ). s < n) (two_each channels 0) below))
