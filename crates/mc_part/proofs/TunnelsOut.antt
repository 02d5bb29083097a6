-- What boxes send into a lane is for tunnels of its channel.
use Rattle.std.proofs.Common.{◌≡◌, ◌<◌, ◌≤◌, ◌+◌, ◌*◌, ◌/◌, ◌%◌, ◌==◌, if◌then◌else◌, ℕ, suc, Bool, true, false, Option, Some, None, List, [], ◌∷◌, ◌++◌, length, get_or, refl, ap, sym, ◌∙◌, subst, arith}
use Rattle.std.specs.List.{AllByRecursion}
use Rattle.std.specs.Option.{option_map}
use Rattle.std.proofs.lemmas.Grind.{common_steps}
use Rattle.std.proofs.lemmas.List.{map-append}
use Rattle.std.proofs.lemmas.List.Quantifiers.{position-Some}
use Rattle.std.proofs.lemmas.Option.{slice_get-get_or}
use Rattle.mc_signal.specs.declared.Signal.{Signal}
use Rattle.mc_signal.specs.declared.Tagged.{Tagged}
use Rattle.mc_port.specs.Entries.{Entry}
use Rattle.mc_port.specs.Tunnels.{Tunnels, event_sends, log_sends, sent_if, tunnel_if_at}
use Rattle.mc_merge.specs.LaneLogs.{without_stamps}
use Rattle.mc_merge.specs.Lanes.{absent_channel, lane_place, leads_from, out_of_box}
use Rattle.mc_model.specs.Worlds.{ChannelState, TunnelPlace, WorldState, all_tunnels, far, is_place, lane_of, no_tunnel, number, places, slot_count, tunnel_of, tunnels_from, tunnels_within}
use Rattle.mc_model.specs.declared.channel.Tunnel.{Tunnel}
use Rattle.mc_laws.proofs.Numbers.{far_half, half_in}
use Rattle.mc_laws.proofs.TunnelPlaces.{two_each}
use Rattle.mc_merge.proofs.Logs.{all_append, all_at, all_map}
use Rattle.mc_merge.specs.Account.{part_lane}
use Rattle.mc_merge.specs.Logs.{own_log, sent_by}
use Rattle.mc_port.specs.Ends.{without_stamp}
use Rattle.mc_port.specs.declared.stamped.Stamped.{Stamped}
use Rattle.mc_part.specs.Carrying.{AreFor, LeftFitsChannel, WorkFitsChannels, tunnel_count}

-- ---- lists

all_first : {X : Type 0} (P : X → Type 0) (xs ys : List X) → AllByRecursion P (xs ++ ys) → AllByRecursion P xs
all_first P [] ys all = tt
all_first P (x ∷ xs) ys all = (all.0, all_first P xs ys all.1)

all_last : {X : Type 0} (P : X → Type 0) (xs ys : List X) → AllByRecursion P (xs ++ ys) → AllByRecursion P ys
all_last P [] ys all = all
all_last P (x ∷ xs) ys all = all_last P xs ys all.1

-- ---- tunnels of channels

within_all : (tunnels : List Tunnel) (channel within n : ℕ) → within + length tunnels ≤ n → AllByRecursion (λ (t : TunnelPlace). (t.channel ≡ channel) × (t.within < n)) (tunnels_within channel within tunnels)
within_all [] channel within n few = tt
within_all (tunnel ∷ tunnels) channel within n few = ((refl, omega (arith, few)), within_all tunnels channel (within + 1) n (omega (arith, few)))

from_all : (all channels : List ChannelState) (first : ℕ) → ((i k : ℕ) → i ≡ first + k → get_or all i absent_channel ≡ get_or channels k absent_channel)
    → AllByRecursion (λ (t : TunnelPlace). t.within < length (get_or all t.channel absent_channel).tunnels) (tunnels_from first channels)
from_all all [] first same = tt
from_all all (ends ∷ channels) first same =
    let P : TunnelPlace → Type 0 = λ t. t.within < length (get_or all t.channel absent_channel).tunnels in
    let here : get_or all first absent_channel ≡ ends = same first 0 (omega arith) in
    all_append P (tunnels_within first 0 ends.tunnels) (tunnels_from (first + 1) channels)
    (all_map (λ (t : TunnelPlace). (t.channel ≡ first) × (t.within < length ends.tunnels)) P (tunnels_within first 0 ends.tunnels)
    (λ t is. subst (λ (c : ChannelState). t.within < length c.tunnels) (sym (ap (λ (n : ℕ). get_or all n absent_channel) is.0 ∙ here)) is.1)
    (within_all ends.tunnels first 0 (length ends.tunnels) (omega arith)))
    (from_all all channels (first + 1) (λ i k is. same i (suc k) (omega (arith, is))))

-- the tunnel of a slot is one of its channel
slot_within : (tables : WorldState) (s : ℕ) → s < slot_count tables → (tunnel_of tables (far s)).within < tunnel_count tables (tunnel_of tables (far s)).channel
slot_within tables s inside =
    let half : s / 2 < length (all_tunnels tables) = half_in s (length (all_tunnels tables)) (subst (λ (n : ℕ). s < n) (two_each tables.channels 0) inside) in
    let below : far s / 2 < length (all_tunnels tables) = subst (λ (n : ℕ). n < length (all_tunnels tables)) (sym (far_half s)) half in
    all_at (λ (t : TunnelPlace). t.within < length (get_or tables.channels t.channel absent_channel).tunnels) (all_tunnels tables) (far s / 2) (tunnel_of tables (far s))
    (from_all tables.channels tables.channels 0 (λ i k is. ap (λ (n : ℕ). get_or tables.channels n absent_channel) (let e : i ≡ k = omega (arith, is) in e)))
    (slice_get-get_or (all_tunnels tables) (far s / 2) no_tunnel below)

half_lane : (channel s lane : ℕ) → 2 * channel + s % 2 ≡ lane → channel ≡ lane / 2
half_lane channel s lane is = omega (arith, is)

if_some : (b : Bool) (t n : ℕ) → (if b then Some t else None) ≡ Some n → (b ≡ true) × (t ≡ n)
if_some true t n is = (refl, cc)
if_some false t n is = absurd (cc)

is_equal : (a b : ℕ) → (a == b) ≡ true → a ≡ b
is_equal a b is = grind (arith, common_steps)

-- what a slot of a box has on a lane that leads away is a tunnel of the lane's channel
out_tunnel : (tables : WorldState) (who lane local t : ℕ) → out_of_box tables who lane local ≡ Some t → t < tunnel_count tables (lane / 2)
out_tunnel tables who lane local t is = by_number (number tables who local) refl is
  where
    by_number : (o : Option ℕ) → number tables who local ≡ o → tunnel_if_at lane (option_map (λ s. lane_place tables (far s)) o) ≡ Some t → t < tunnel_count tables (lane / 2)
    by_number None at here = absurd (cc)
    by_number (Some s) at here =
        let both : ((lane_of tables (far s) == lane) ≡ true) × ((tunnel_of tables (far s)).within ≡ t) = if_some (lane_of tables (far s) == lane) (tunnel_of tables (far s)).within t here in
        let inside : s < slot_count tables = (position-Some (is_place (who, local)) (places tables) s (0, 0) at).0 in
        let channel : (tunnel_of tables (far s)).channel ≡ lane / 2 = half_lane (tunnel_of tables (far s)).channel (far s) lane (is_equal (lane_of tables (far s)) lane both.0) in
        subst (λ (n : ℕ). n < tunnel_count tables (lane / 2)) both.1 (subst (λ (k : ℕ). (tunnel_of tables (far s)).within < tunnel_count tables k) channel (slot_within tables s inside))

-- ---- what is sent

if_for : (o : Option ℕ) (n stamp : ℕ) (signal : Signal) → ((t : ℕ) → o ≡ Some t → t < n) → AreFor n (without_stamps (sent_if o stamp signal))
if_for None n stamp signal few = tt
if_for (Some t) n stamp signal few = (few t refl, tt)

event_for : (tunnels : Tunnels) (n stamp : ℕ) (sent : List (ℕ × Signal)) → ((local t : ℕ) → tunnels local ≡ Some t → t < n) → AreFor n (without_stamps (event_sends tunnels stamp sent))
event_for tunnels n stamp [] few = tt
event_for tunnels n stamp (sending ∷ sent) few =
    subst (λ (l : List Tagged). AreFor n l) (sym (map-append without_stamp (sent_if (tunnels sending.0) stamp sending.1) (event_sends tunnels stamp sent)))
    (all_append (λ (tagged : Tagged). tagged.tunnel < n) (without_stamps (sent_if (tunnels sending.0) stamp sending.1)) (without_stamps (event_sends tunnels stamp sent))
    (if_for (tunnels sending.0) n stamp sending.1 (few sending.0)) (event_for tunnels n stamp sent few))

log_for : (tunnels : Tunnels) (n : ℕ) (entries : List Entry) → ((local t : ℕ) → tunnels local ≡ Some t → t < n) → AreFor n (without_stamps (log_sends tunnels entries))
log_for tunnels n [] few = tt
log_for tunnels n (entry ∷ entries) few =
    subst (λ (l : List Tagged). AreFor n l) (sym (map-append without_stamp (event_sends tunnels entry.stamp entry.sent) (log_sends tunnels entries)))
    (all_append (λ (tagged : Tagged). tagged.tunnel < n) (without_stamps (event_sends tunnels entry.stamp entry.sent)) (without_stamps (log_sends tunnels entries))
    (event_for tunnels n entry.stamp entry.sent few) (log_for tunnels n entries few))

-- ---- the laws

pub work_fits_channels : WorkFitsChannels
work_fits_channels tables a b log gave put lane work inside here away began =
    let n : ℕ = tunnel_count tables (lane / 2) in
    let P : Tagged → Type 0 = λ tagged. tagged.tunnel < n in
    let sent : AreFor n (without_stamps (sent_by tables log lane)) =
    log_for (out_of_box tables (leads_from tables lane) lane) n (own_log (leads_from tables lane) log) (λ local t is. out_tunnel tables (leads_from tables lane) lane local t is) in
    let all : AreFor n (without_stamps (put lane) ++ part_lane b lane) =
    subst (λ (l : List Tagged). AreFor n l) (sym (work.outs lane inside here away).order) (all_append P (part_lane a lane) (without_stamps (sent_by tables log lane)) began sent) in
    record { went = all_first P (without_stamps (put lane)) (part_lane b lane) all; waits = all_last P (without_stamps (put lane)) (part_lane b lane) all }

pub left_fits_channel : LeftFitsChannel
left_fits_channel count gave left put is all =
    all_last (λ (tagged : Tagged). tagged.tunnel < count) (without_stamps gave) (without_stamps left)
    (subst (λ (l : List Tagged). AreFor count l) (map-append without_stamp gave left) (subst (λ (l : List Stamped). AreFor count (without_stamps l)) (sym is) all))
