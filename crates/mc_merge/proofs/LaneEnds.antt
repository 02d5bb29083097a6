-- Only the box at the end of a lane takes from it, and only the box at its beginning sends into it.
use Rattle.std.proofs.Common.{◌≡◌, ◌≢◌, ◌<◌, ◌+◌, ◌*◌, ◌/◌, ◌%◌, ◌==◌, if◌then◌else◌, ℕ, zero, suc, Option, Some, None, List, [], ◌∷◌, ◌++◌, length, map, get_or, refl, ap, ap₂, sym, ◌∙◌, subst, arith}
use Rattle.std.specs.List.{flat_map}
use Rattle.std.specs.Option.{option_map}
use Rattle.std.proofs.lemmas.List.{get_or-map, map-append}
use Rattle.mc_signal.specs.declared.Signal.{Signal}
use Rattle.mc_signal.specs.declared.Tagged.{Tagged}
use Rattle.mc_box.specs.declared.event.Event.{Event}
use Rattle.mc_box.specs.declared.event.Event.TheVariants.{Take}
use Rattle.mc_laws.specs.Sendings.{sent_on, signal_on}
use Rattle.mc_laws.proofs.LanesKept.{far_tunnel}
use Rattle.mc_laws.proofs.Numbers.{far_side, half_in, number_is}
use Rattle.mc_laws.proofs.TunnelPlaces.{two_each}
use Rattle.mc_port.specs.Tunnels.{taken_if, tunnel_if_at}
use Rattle.mc_merge.specs.Lanes.{absent_channel, lane_place, leads_from, leads_to}
use Rattle.mc_merge.proofs.EntrySteps.{tagged_away, taken_by_test, takes_from}
use Rattle.mc_model.specs.Worlds.{ChannelState, TunnelPlace, WorldState, all_tunnels, far, lane_of, no_tunnel, number, place, places, places_among, places_of, places_within, slot_count, tunnel_of, tunnels_from, tunnels_within}
use Rattle.mc_model.specs.declared.channel.Tunnel.{Tunnel}

-- ---- the boxes of a channel stand at both ends of each of its tunnels

-- the boxes of the two slots of each tunnel
abbrev ends_of : List ChannelState → List TunnelPlace → List ℕ
ends_of all [] = []
ends_of all (at ∷ tunnels) = (get_or all at.channel absent_channel).from ∷ (get_or all at.channel absent_channel).to ∷ ends_of all tunnels

boxes_within : (all : List ChannelState) (ends : ChannelState) (tunnels : List Tunnel) (channel within : ℕ) → get_or all channel absent_channel ≡ ends
    → map (λ (p : ℕ × ℕ). p.0) (flat_map (places_of ends) tunnels) ≡ ends_of all (tunnels_within channel within tunnels)
boxes_within all ends [] channel within is = refl
boxes_within all ends (tunnel ∷ tunnels) channel within is =
    ap (λ (e : ChannelState). e.from ∷ e.to ∷ map (λ (p : ℕ × ℕ). p.0) (flat_map (places_of ends) tunnels)) (sym is)
    ∙ ap (λ (l : List ℕ). (get_or all channel absent_channel).from ∷ (get_or all channel absent_channel).to ∷ l) (boxes_within all ends tunnels channel (within + 1) is)

ends_append : (all : List ChannelState) (first second : List TunnelPlace) → ends_of all (first ++ second) ≡ ends_of all first ++ ends_of all second
ends_append all [] second = refl
ends_append all (at ∷ first) second = ap (λ (l : List ℕ). (get_or all at.channel absent_channel).from ∷ (get_or all at.channel absent_channel).to ∷ l) (ends_append all first second)

boxes_among : (all channels : List ChannelState) (first : ℕ) → ((i : ℕ) → get_or all (first + i) absent_channel ≡ get_or channels i absent_channel)
    → map (λ (p : ℕ × ℕ). p.0) (places_among channels) ≡ ends_of all (tunnels_from first channels)
boxes_among all [] first same = refl
boxes_among all (ends ∷ channels) first same =
    let here : get_or all first absent_channel ≡ ends = ap (λ (n : ℕ). get_or all n absent_channel) (let e : first ≡ first + 0 = omega arith in e) ∙ same 0 in
    map-append (λ (p : ℕ × ℕ). p.0) (places_within ends) (places_among channels)
    ∙ (ap (λ (l : List ℕ). l ++ map (λ (p : ℕ × ℕ). p.0) (places_among channels)) (boxes_within all ends ends.tunnels first 0 here)
    ∙ (ap (λ (l : List ℕ). ends_of all (tunnels_within first 0 ends.tunnels) ++ l)
    (boxes_among all channels (first + 1) (λ i. ap (λ (n : ℕ). get_or all n absent_channel) (let e : (first + 1) + i ≡ first + suc i = omega arith in e) ∙ same (suc i)))
    ∙ sym (ends_append all (tunnels_within first 0 ends.tunnels) (tunnels_from (first + 1) channels))))

-- the box of a channel on a side
abbrev end_by : List ChannelState → ℕ → ℕ → ℕ
end_by channels side channel = if side == 0 then (get_or channels channel absent_channel).from else (get_or channels channel absent_channel).to

two_more : (s : ℕ) → (suc (suc s) % 2 ≡ s % 2) × (suc (suc s) / 2 ≡ suc (s / 2))
two_more s = (omega arith, omega arith)

below_less : (s n : ℕ) → suc (suc s) / 2 < suc n → s / 2 < n
below_less s n below = omega arith

ends_at : (all : List ChannelState) (tunnels : List TunnelPlace) (s : ℕ) → s / 2 < length tunnels → get_or (ends_of all tunnels) s 0 ≡ end_by all (s % 2) (get_or tunnels (s / 2) no_tunnel).channel
ends_at all [] s below = absurd (omega arith)
ends_at all (at ∷ tunnels) zero below = refl
ends_at all (at ∷ tunnels) (suc zero) below = refl
ends_at all (at ∷ tunnels) (suc (suc s)) below =
    ends_at all tunnels s (below_less s (length tunnels) below)
    ∙ (ap (λ (side : ℕ). end_by all side (get_or tunnels (s / 2) no_tunnel).channel) (sym (two_more s).0)
    ∙ ap (λ (half : ℕ). end_by all (suc (suc s) % 2) (get_or (at ∷ tunnels) half no_tunnel).channel) (sym (two_more s).1))

pub place_end : (world : WorldState) (s : ℕ) → s < slot_count world → (place world s).0 ≡ end_by world.channels (s % 2) (tunnel_of world s).channel
place_end world s inside =
    sym (get_or-map (λ (p : ℕ × ℕ). p.0) (places world) s (0, 0) 0 inside)
    ∙ (ap (λ (l : List ℕ). get_or l s 0) (boxes_among world.channels world.channels 0 (λ i. ap (λ (n : ℕ). get_or world.channels n absent_channel) (let e : 0 + i ≡ i = omega arith in e)))
    ∙ ends_at world.channels (all_tunnels world) s (half_in s (length (all_tunnels world)) (subst (λ (n : ℕ). s < n) (two_each world.channels 0) inside)))

-- ---- by lanes

lane_side : (c p : ℕ) → p < 2 → ((2 * c + p) % 2 ≡ p) × ((2 * c + p) / 2 ≡ c)
lane_side c p low = (omega arith, omega arith)

side_low : (s : ℕ) → s % 2 < 2
side_low s = omega arith

pub leads_is : (world : WorldState) (s : ℕ) → leads_to world (lane_of world s) ≡ end_by world.channels (s % 2) (tunnel_of world s).channel
leads_is world s =
    let parts = lane_side (tunnel_of world s).channel (s % 2) (side_low s) in
    ap₂ (λ (side channel : ℕ). end_by world.channels side channel) parts.0 parts.1

-- the other end
other_end : (channels : List ChannelState) (p q channel : ℕ) → p + q ≡ 1 → (if p == 0 then (get_or channels channel absent_channel).to else (get_or channels channel absent_channel).from) ≡ end_by channels q channel
other_end channels zero zero channel sum = absurd (omega arith)
other_end channels zero (suc zero) channel sum = refl
other_end channels zero (suc (suc q)) channel sum = absurd (omega arith)
other_end channels (suc zero) zero channel sum = refl
other_end channels (suc zero) (suc q) channel sum = absurd (omega arith)
other_end channels (suc (suc p)) q channel sum = absurd (omega arith)

pub leads_from_is : (world : WorldState) (s : ℕ) → leads_from world (lane_of world (far s)) ≡ end_by world.channels (s % 2) (tunnel_of world s).channel
leads_from_is world s =
    let parts = lane_side (tunnel_of world (far s)).channel (far s % 2) (side_low (far s)) in
    ap₂ (λ (side channel : ℕ). if side == 0 then (get_or world.channels channel absent_channel).to else (get_or world.channels channel absent_channel).from) parts.0 parts.1
    ∙ (other_end world.channels (far s % 2) (s % 2) (tunnel_of world (far s)).channel (far_side s)
    ∙ ap (λ (at : TunnelPlace). end_by world.channels (s % 2) at.channel) (far_tunnel world s))

pub taker_is : (world : WorldState) (who local s : ℕ) → number world who local ≡ Some s → leads_to world (lane_of world s) ≡ who
taker_is world who local s is =
    let found = number_is world who local s is in
    leads_is world s ∙ (sym (place_end world s found.0) ∙ found.1)

sender_is : (world : WorldState) (who local s : ℕ) → number world who local ≡ Some s → leads_from world (lane_of world (far s)) ≡ who
sender_is world who local s is =
    let found = number_is world who local s is in
    leads_from_is world s ∙ (sym (place_end world s found.0) ∙ found.1)

-- ---- other boxes

takes_none : (found : Option ℕ) (world : WorldState) (lane who local : ℕ) (tagged : Tagged) → leads_to world lane ≢ who → number world who local ≡ found
    → taken_if (tunnel_if_at lane (option_map (λ s. lane_place world s) found)) tagged ≡ []
takes_none None world lane who local tagged apart is = refl
takes_none (Some s) world lane who local tagged apart is =
    taken_by_test (lane_of world s == lane) (tunnel_of world s).within tagged
    ∙ tagged_away lane tagged (lane_of world s) (λ same. apart (ap (leads_to world) (sym same) ∙ taker_is world who local s is))

pub takes_nothing : (event : Event) (taken : Option Tagged) (world : WorldState) (lane who : ℕ) → leads_to world lane ≢ who → takes_from world lane who event taken ≡ []
takes_nothing (Take local) (Some tagged) world lane who apart = takes_none (number world who local) world lane who local tagged apart refl
takes_nothing (Take local) None world lane who apart = refl
takes_nothing event None world lane who apart = refl
takes_nothing event (Some tagged) world lane who apart = refl

sends_none : (found : Option ℕ) (world : WorldState) (lane who local : ℕ) (signal : Signal) → leads_from world lane ≢ who → number world who local ≡ found
    → signal_on world lane signal found ≡ []
sends_none None world lane who local signal apart is = refl
sends_none (Some s) world lane who local signal apart is =
    tagged_away lane (record { tunnel = (tunnel_of world (far s)).within; signal = signal }) (lane_of world (far s)) (λ same. apart (ap (leads_from world) (sym same) ∙ sender_is world who local s is))

pub sends_nothing : (sendings : List (ℕ × Signal)) (world : WorldState) (lane who : ℕ) → leads_from world lane ≢ who → sent_on world who lane sendings ≡ []
sends_nothing [] world lane who apart = refl
sends_nothing (sending ∷ rest) world lane who apart =
    ap (λ (l : List Tagged). l ++ sent_on world who lane rest) (sends_none (number world who sending.0) world lane who sending.0 sending.1 apart refl) ∙ sends_nothing rest world lane who apart
