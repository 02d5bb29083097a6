-- Tunnels of channels, as they are counted, and the numbers of their slots.
use Rattle.std.proofs.Common.{◌≡◌, ℕ, ◌+◌, ◌*◌, ◌/◌, ◌<◌, ◌≤◌, zero, suc, List, [], ◌∷◌, ◌++◌, All, map, take, length, get_or, refl, sym, ap, ◌∙◌, arith, length-append}
use Rattle.std.proofs.lemmas.Grind.{common_steps}
use Rattle.mc_laws.proofs.TunnelPlaces.{channel_in, two_each, within_slots}
use Rattle.mc_world.specs.Tables.{channel_of}
use Rattle.mc_model.specs.Worlds.{ChannelState, HasTunnels, TunnelPlace, tunnels_from, tunnels_within, no_tunnel, places_among, places_within}
use Rattle.mc_model.specs.declared.channel.Tunnel.{Tunnel}

-- ---- one tunnel more, and one channel more

pub within_more : (channel n : ℕ) (tunnels : List Tunnel) (i : ℕ) → i < length tunnels
    → map channel_of (tunnels_within channel n (take (i + 1) tunnels)) ≡ map channel_of (tunnels_within channel n (take i tunnels)) ++ (channel, n + i) ∷ []
within_more channel n [] i below = absurd (omega arith)
within_more channel n (tunnel ∷ tunnels) zero below = grind arith
within_more channel n (tunnel ∷ tunnels) (suc i) below =
    let rest : map channel_of (tunnels_within channel (n + 1) (take (i + 1) tunnels)) ≡ map channel_of (tunnels_within channel (n + 1) (take i tunnels)) ++ (channel, n + 1 + i) ∷ [] = within_more channel (n + 1) tunnels i (omega arith) in
    let count : n + 1 + i ≡ n + suc i = omega arith in
    grind arith

pub from_more : (n : ℕ) (channels : List ChannelState) (i : ℕ) (d : ChannelState) → i < length channels
    → map channel_of (tunnels_from n (take (i + 1) channels)) ≡ map channel_of (tunnels_from n (take i channels)) ++ map channel_of (tunnels_within (n + i) 0 (get_or channels i d).tunnels)
from_more n [] i d below = absurd (omega arith)
from_more n (ends ∷ channels) zero d below = grind (arith, common_steps)
from_more n (ends ∷ channels) (suc i) d below =
    let rest : map channel_of (tunnels_from (n + 1) (take (i + 1) channels)) ≡ map channel_of (tunnels_from (n + 1) (take i channels)) ++ map channel_of (tunnels_within (n + 1 + i) 0 (get_or channels i d).tunnels) = from_more (n + 1) channels i d (omega arith) in
    let count : n + 1 + i ≡ n + suc i = omega arith in
    grind (arith, common_steps)

-- the tunnels of a channel were added
pub channel_added : (channels : List ChannelState) (i : ℕ) (ends : ChannelState) (tunnels : List Tunnel) (before after : List (ℕ × ℕ)) → i < length channels
    → ends ≡ get_or channels i ends → tunnels ≡ ends.tunnels → before ≡ map channel_of (tunnels_from 0 (take i channels))
    → after ≡ before ++ map channel_of (tunnels_within i 0 tunnels) → after ≡ map channel_of (tunnels_from 0 (take (i + 1) channels))
channel_added channels i ends tunnels before after below is tunnels_are so_far added =
    let count : 0 + i ≡ i = omega arith in
    let there : (get_or channels i ends).tunnels ≡ tunnels = ap (λ (e : ChannelState). e.tunnels) (sym is) ∙ sym tunnels_are in
    rw (from_more 0 channels i ends below, count, there, added, so_far) refl

-- ---- how many there are

-- so few that their numbers fit
pub few_slots : (channels : List ChannelState) → All HasTunnels channels → length (places_among channels) ≤ 16 * length channels
few_slots [] few = omega arith
few_slots (ends ∷ channels) few =
    let rest : length (places_among channels) ≤ 16 * length channels = few_slots channels (λ k d below. few (suc k) d (omega arith)) in
    let here : length ends.tunnels ≤ 8 = (few 0 ends (omega arith)).few in
    omega (arith, within_slots ends ends.tunnels, length-append (places_within ends) (places_among channels))

-- ---- the table of tunnels

-- what the table has for a tunnel that is there
pub in_table : (tunnels : List TunnelPlace) (t : ℕ) (read : ℕ × ℕ) → t < length tunnels → read ≡ get_or (map channel_of tunnels) t read → read ≡ channel_of (get_or tunnels t no_tunnel)
in_table [] t read below is = absurd (omega arith)
in_table (tunnel ∷ tunnels) zero read below is = is
in_table (tunnel ∷ tunnels) (suc t) read below is = in_table tunnels t read (omega arith) is

-- the tunnel of a slot is there
pub tunnel_is_there : (channels : List ChannelState) (s : ℕ) → s < length (places_among channels) → s / 2 < length (tunnels_from 0 channels)
tunnel_is_there channels s below = omega (arith, two_each channels 0)

-- and its channel
pub slot_has_channel : (channels : List ChannelState) (s : ℕ) → s < length (places_among channels) → (get_or (tunnels_from 0 channels) (s / 2) no_tunnel).channel < length channels
slot_has_channel channels s below =
    let there = channel_in channels 0 (s / 2) (tunnel_is_there channels s below) in
    omega (arith, there.1)
