-- Where signals go by a world's tables: as the world's own numbers say.
use Rattle.std.proofs.Common.{◌≡◌, ◌<◌, ◌+◌, ◌*◌, ◌/◌, ◌%◌, ◌≤◌, inl, inr, ℕ, Option, Some, None, List, [], ◌∷◌, ◌++◌, map, length, position, get_or, refl, ap, sym, ◌∙◌, subst, arith}
use Rattle.std.specs.Option.{option_map, unwrap_or}
use Rattle.std.proofs.Math.ListN.{set, get_or-map}
use Rattle.std.proofs.lemmas.Bool.{cases_lt}
use Rattle.std.proofs.lemmas.List.{length-map}
use Rattle.std.proofs.lemmas.Option.{slice_get-get_or}
use Rattle.std.specs.List.{slice_get}
use Rattle.mc_signal.specs.declared.Signal.{Signal}
use Rattle.mc_world.specs.Lanes.{HasNumbers, IsLaid, numbers_of, all_sent, lane_by, one_sent, with_sending, tunnel_by}
use Rattle.mc_model.specs.Steps.{after_push, after_sends}
use Rattle.mc_box.specs.declared.limit.TheConstants.{SLOT_LIMIT}
use Rattle.mc_model.specs.Sound.{IsSound}
use Rattle.mc_world.proofs.LaneBoxes.{lane_box, lane_run}
use Rattle.mc_world.proofs.FlagCounts.{number_there}
use Rattle.mc_world.proofs.LaneChanges.{Lane}
use Rattle.mc_world.specs.Tables.{HasTables, IsTopologyOf, channel_of, world_state}
use Rattle.mc_model.specs.Worlds.{ChannelState, TunnelPlace, WorldState, box_at, place, slot_count, far, is_place, tunnel_of, all_tunnels, tunnels_from, lane_of, no_tunnel, number, places}
use Rattle.mc_world.specs.declared.network.World.TheInside.{Inside}
use Rattle.mc_world.specs.declared.topology.Topology.{Topology}
use Rattle.mc_laws.proofs.TunnelPlaces.{channel_in, two_each}
use Rattle.mc_laws.proofs.Numbers.{far_in, far_side, half_in, number_is}

-- ---- lanes that are there

lane_low : (channel side other count : ℕ) → 2 * channel + 1 < count → side + other ≡ 1 → 2 * channel + side < count
lane_low channel side other count below one = omega arith

-- the lane that leads to a slot
pub lane_there : (topology : Topology) (count s : ℕ) → IsLaid topology count → s < length topology.places.items → lane_by topology s < count
lane_there topology count s laid below =
    let tunnel : s / 2 < length topology.tunnels.items = half_in s (length topology.tunnels.items) (subst (λ (n : ℕ). s < n) laid.slots below) in
    lane_low (get_or topology.tunnels.items (s / 2) (0, 0)).0 (s % 2) (far s % 2) count (laid.lanes (s / 2) tunnel) (omega (arith, far_side s))

-- the far slot of a box's slot is there
pub away_there : (topology : Topology) (count who local away : ℕ) (numbers : List ℕ) → IsLaid topology count → numbers ≡ numbers_of topology who → local < length numbers → away ≡ far (get_or numbers local 0)
    → away < length topology.places.items
away_there topology count who local away numbers laid are below is =
    let own : ℕ = get_or numbers local 0 in
    let there : own < length topology.places.items = number_there topology who local numbers laid.numbers are below in
    subst (λ (t : ℕ). t < length topology.places.items) (sym is)
    (subst (λ (n : ℕ). far own < n) (sym laid.slots) (far_in own (length topology.tunnels.items) (subst (λ (n : ℕ). own < n) laid.slots there)))

tunnel_at : (found : List TunnelPlace) (t : ℕ) → get_or (map channel_of found) t (0, 0) ≡ channel_of (get_or found t no_tunnel)
tunnel_at found t = get_or-map channel_of found t no_tunnel

-- the lane and the tunnel of a slot are the world's
pub lane_same : (world : WorldState) (topology : Topology) (s : ℕ) → topology.tunnels.items ≡ map channel_of (all_tunnels world) → lane_by topology s ≡ lane_of world s
lane_same world topology s is =
    ap (λ (l : List (ℕ × ℕ)). 2 * (get_or l (s / 2) (0, 0)).0 + s % 2) is ∙ ap (λ (p : ℕ × ℕ). 2 * p.0 + s % 2) (tunnel_at (all_tunnels world) (s / 2))

pub tunnel_same : (world : WorldState) (topology : Topology) (s : ℕ) → topology.tunnels.items ≡ map channel_of (all_tunnels world) → tunnel_by topology s ≡ (tunnel_of world s).within
tunnel_same world topology s is =
    ap (λ (l : List (ℕ × ℕ)). (get_or l (s / 2) (0, 0)).1) is ∙ ap (λ (p : ℕ × ℕ). p.1) (tunnel_at (all_tunnels world) (s / 2))

channel_lanes : (channel channels count : ℕ) → channel < 0 + channels → count ≡ 2 * channels → 2 * channel + 1 < count
channel_lanes channel channels count below is = omega arith

-- a box has no more numbers than slots
pub few_numbers : (world : WorldState) (numbers : List ℕ) (who count : ℕ) → ((local : ℕ) → slice_get numbers local ≡ number world who local) → ((local s : ℕ) → number world who local ≡ Some s → local < count) → length numbers ≤ count
few_numbers world numbers who count found inside = elim (cases_lt count (length numbers)) [
  | inl more ↦ let low = inside count (get_or numbers count 0) (sym (found count) ∙ slice_get-get_or numbers count 0 more) in absurd (omega arith)
  | inr few ↦ few
]

-- where there are slots there is their box
number_few : (world : WorldState) (who local s : ℕ) → IsSound world → number world who local ≡ Some s → local < SLOT_LIMIT
number_few world who local s sound is =
    let at = number_is world who local s is in
    let home : who < length world.boxes = subst (λ (n : ℕ). n < length world.boxes) at.1 (sound.numbered.placed s at.0) in
    let inside : (place world s).1 < length (box_at world who).slots = subst (λ (n : ℕ). (place world s).1 < length (box_at world n).slots) at.1 (sound.numbered.slots s at.0) in
    omega (arith, inside, at.2, (sound.boxes who home).wired.few)

-- the tables of a world find its slots
pub topology_numbers : (world : WorldState) (topology : Topology) → IsTopologyOf topology world.channels (length world.boxes) → IsSound world → HasNumbers topology
topology_numbers world topology is sound = record {
  found = is.found;
  once = subst (λ (l : List (ℕ × ℕ)). (s : ℕ) → s < length l → position (is_place (get_or l s (0, 0))) l ≡ Some s) (sym is.places) sound.numbered.once;
  few = λ who.
      few_numbers world (numbers_of topology who) who SLOT_LIMIT
      (λ local. is.found who local ∙ ap (position (is_place (who, local))) is.places)
      (λ local s at. number_few world who local s sound at);
}

-- where each slot is found by its place, and by no other, tables are laid for the two lanes of each channel
pub channels_laid : (channels : List ChannelState) (topology : Topology) (boxes count : ℕ) → IsTopologyOf topology channels boxes → HasNumbers topology → count ≡ 2 * length channels → IsLaid topology count
channels_laid channels topology boxes count is numbers many =
    let world : WorldState = record { boxes = []; channels = channels; lanes = [] } in
    let found : List TunnelPlace = tunnels_from 0 channels in
    let long : length topology.tunnels.items ≡ length (tunnels_from 0 channels) = ap (λ (l : List (ℕ × ℕ)). length l) is.tunnels ∙ length-map (tunnels_from 0 channels) channel_of in
    let within : (r : ℕ) → r < length topology.places.items → r < slot_count world = λ r below. subst (λ (l : List (ℕ × ℕ)). r < length l) is.places below in
    let one_lane : (s t : ℕ) → lane_by topology s ≡ lane_by topology t → lane_of world s ≡ lane_of world t = λ s t lane. sym (lane_same world topology s is.tunnels) ∙ (lane ∙ lane_same world topology t is.tunnels) in
    record {
      fit = is.few;
      slots = ap (λ (l : List (ℕ × ℕ)). length l) is.places ∙ (two_each channels 0 ∙ ap (λ (n : ℕ). 2 * n) (sym long));
      lanes = λ t below.
          let channel : (get_or topology.tunnels.items t (0, 0)).0 ≡ (get_or found t no_tunnel).channel =
          ap (λ (l : List (ℕ × ℕ)). (get_or l t (0, 0)).0) is.tunnels ∙ ap (λ (p : ℕ × ℕ). p.0) (tunnel_at found t) in
          subst (λ (c : ℕ). 2 * c + 1 < count) (sym channel)
          (channel_lanes (get_or found t no_tunnel).channel (length channels) count ((channel_in channels 0 t (subst (λ (n : ℕ). t < n) long below)).1) many);
      numbers = numbers;
      home = λ s t one two lane.
          subst (λ (l : List (ℕ × ℕ)). (get_or l s (0, 0)).0 ≡ (get_or l t (0, 0)).0) (sym is.places) (lane_box world s t (within s one) (within t two) (one_lane s t lane));
      follow = λ s t one two lane.
          subst (λ (n : ℕ). s + 2 * n ≡ t + 2 * tunnel_by topology s) (sym (tunnel_same world topology t is.tunnels))
          (subst (λ (n : ℕ). s + 2 * (tunnel_of world t).within ≡ t + 2 * n) (sym (tunnel_same world topology s is.tunnels)) (lane_run world s t (within s one) (within t two) (one_lane s t lane)));
    }

-- and so are those of a sound world
pub topology_laid : (world : WorldState) (topology : Topology) → IsTopologyOf topology world.channels (length world.boxes) → IsSound world → IsLaid topology (length world.lanes)
topology_laid world topology is sound = channels_laid world.channels topology (length world.boxes) (length world.lanes) is (topology_numbers world topology is sound) sound.numbered.lanes

-- so those that a world keeps
pub tables_numbers : (inside : Inside) → HasTables inside → HasNumbers inside.topology
tables_numbers inside has = topology_numbers (world_state inside) inside.topology has.topology has.sound

pub tables_laid : (inside : Inside) → HasTables inside → IsLaid inside.topology (length inside.lanes.items)
tables_laid inside has = subst (λ (n : ℕ). IsLaid inside.topology n) (length-map inside.lanes.items (λ (lane : Lane). lane.items)) (topology_laid (world_state inside) inside.topology has.topology has.sound)

-- ---- where a sending goes

push_at : (world : WorldState) (signal : Signal) (lane one within tunnel : ℕ) → one ≡ lane → tunnel ≡ within
    → record world { lanes = set world.lanes lane (get_or world.lanes lane [] ++ record { tunnel = within; signal = signal } ∷ []) }
    ≡ record world { lanes = set world.lanes one (get_or world.lanes one [] ++ record { tunnel = tunnel; signal = signal } ∷ []) }
push_at world signal lane one within tunnel lane_is tunnel_is = rw (lane_is, tunnel_is) refl

push_same : (world : WorldState) (topology : Topology) (signal : Signal) (found : Option ℕ) → topology.tunnels.items ≡ map channel_of (all_tunnels world)
    → unwrap_or (option_map (λ s. after_push world signal (far s)) found) world
    ≡ record world { lanes = unwrap_or (option_map (λ s. with_sending topology world.lanes signal (far s)) found) world.lanes }
push_same world topology signal None is = refl
push_same world topology signal (Some s) is =
    push_at world signal (lane_of world (far s)) (lane_by topology (far s)) (tunnel_of world (far s)).within (tunnel_by topology (far s)) (lane_same world topology (far s) is) (tunnel_same world topology (far s) is)

-- what a box sends, by the tables, is what the world sends
pub sent_out_by : (sendings : List (ℕ × Signal)) (world : WorldState) (topology : Topology) (who : ℕ) → topology.places.items ≡ places world → topology.tunnels.items ≡ map channel_of (all_tunnels world)
    → after_sends world who sendings ≡ record world { lanes = all_sent topology who world.lanes sendings }
sent_out_by [] world topology who at through = refl
sent_out_by (sending ∷ rest) world topology who at through =
    let next : unwrap_or (option_map (λ s. after_push world sending.1 (far s)) (number world who sending.0)) world ≡ record world { lanes = one_sent topology who world.lanes sending } =
    push_same world topology sending.1 (number world who sending.0) through
    ∙ ap (λ (places : List (ℕ × ℕ)). record world { lanes = unwrap_or (option_map (λ s. with_sending topology world.lanes sending.1 (far s)) (position (is_place (who, sending.0)) places)) world.lanes }) (sym at) in
    ap (λ (w : WorldState). after_sends w who rest) next
    ∙ sent_out_by rest (record world { lanes = one_sent topology who world.lanes sending }) topology who at through
