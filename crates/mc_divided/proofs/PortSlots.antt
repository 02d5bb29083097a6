-- The slots at which tunnels come in by a port, and of its place holder those at which they go out.
use Rattle.std.proofs.Common.{◌≡◌, ◌<◌, ◌+◌, ◌*◌, ◌/◌, ◌%◌, inl, inr, not, if◌then◌else◌, Bool, true, false, ℕ, zero, suc, Some, List, [], length, get_or, refl, ap, ap₂, sym, ◌∙◌, subst, arith, true≢false, eqb-true}
use Rattle.std.proofs.lemmas.Option.{get_or_from_slice_get, slice_get-get_or}
use Rattle.std.specs.List.{slice_get}
use Rattle.mc_part.specs.Divisions.{channel_in, channels_in, home_at, is_crossing, is_part, members, part_of, place_in}
use Rattle.mc_part.proofs.Leads.{are_channels, far_is_away, far_side_of}
use Rattle.mc_part.proofs.Members.{home_inside}
use Rattle.mc_part.proofs.Numbers.{AreWhole, HasSlot, IsHere, box_on, end_inside, is_here, local_on, one_slot, side_low, slot_placed}
use Rattle.mc_part.proofs.Placed.{placed_at, place_apart, tunnel_count}
use Rattle.mc_part.proofs.Same.{chosen, either, here_number, other_one}
use Rattle.mc_part.proofs.Slots.{end_on, slot_on}
use Rattle.mc_merge.specs.Lanes.{absent_channel}
use Rattle.mc_model.specs.Worlds.{AreChannels, ChannelState, WorldState, no_tunnel, places_among, tunnels_from}
use Rattle.mc_model.specs.declared.channel.Tunnel.{Tunnel}
use Rattle.mc_divided.specs.Laying.{first_slot}
use Rattle.mc_divided.proofs.FirstSlots.{IsSlotOf, leads_there, leads_to_slots, slot_there}
use Rattle.mc_part.specs.Carrying.{AllComeIn, AllGoOut, HoldsAt}
use Rattle.mc_part.specs.declared.port.Port.{Port}
use Rattle.mc_signal.specs.declared.Medium.TheVariants.{Audio}

abbrev pub tables_by : List ChannelState → WorldState
tables_by channels = record { boxes = []; channels = channels; lanes = [] }

-- a port of a channel that crosses, by its numbers
pub record IsPortOf (assigned : List ℕ) (channels : List ChannelState) (part k : ℕ) (port : Port) : Type 0 where
  pub c : ℕ
  pub channel : ChannelState
  pub at : slice_get channels c ≡ Some channel
  pub crosses : is_crossing assigned part channel ≡ true
  pub place_is : place_in assigned channels part c ≡ k
  pub starts : is_part part (part_of assigned channel.from) ≡ port.starts_here
  pub holder : port.holder ≡ length (members assigned part) + k
  pub first : port.first ≡ first_slot (channels_in assigned channels part) k + (if port.starts_here then 0 else 1)

-- what stands where no tunnel is
abbrev absent_tunnel : Tunnel
absent_tunnel = record { medium = Audio; from = 0; to = 0 }

abbrev near_side_of : Bool → ℕ
near_side_of starts = if starts then 0 else 1

near_low : (starts : Bool) → near_side_of starts < 2
near_low true = omega arith
near_low false = omega arith

far_low : (starts : Bool) → far_side_of starts < 2
far_low true = omega arith
far_low false = omega arith

-- the channel as the part has it
record IsOwn (assigned : List ℕ) (channels : List ChannelState) (part k : ℕ) (channel : ChannelState) : Type 0 where
  here : ChannelState
  at : slice_get (channels_in assigned channels part) k ≡ Some here
  count : length here.tunnels ≡ length channel.tunnels
  same : length (get_or (channels_in assigned channels part) k absent_channel).tunnels ≡ length channel.tunnels

own : (assigned : List ℕ) (channels : List ChannelState) (part k : ℕ) (port : Port) (of : IsPortOf assigned channels part k port) → IsOwn assigned channels part k of.channel
own assigned channels part k port of =
    let here : ChannelState = channel_in assigned part (length (members assigned part) + place_in assigned channels part of.c) of.channel in
    let at : slice_get (channels_in assigned channels part) k ≡ Some here =
    ap (λ (n : ℕ). slice_get (channels_in assigned channels part) n) (sym of.place_is) ∙ placed_at assigned channels part of.c of.channel of.at (inl of.crosses) in
    let count : length here.tunnels ≡ length of.channel.tunnels = tunnel_count (is_part part (part_of assigned of.channel.from)) (is_part part (part_of assigned of.channel.to)) of.channel.tunnels 0 in
    record { here = here; at = at; count = count; same = ap (λ (e : ChannelState). length e.tunnels) (get_or_from_slice_get (channels_in assigned channels part) k here absent_channel at) ∙ count }

pub all_come_in : (assigned : List ℕ) (channels : List ChannelState) (part k : ℕ) (port : Port) → AreChannels channels → IsPortOf assigned channels part k port
    → AllComeIn (tables_by (channels_in assigned channels part)) k port
all_come_in assigned channels part k port are of tunnel below =
    let one : IsOwn assigned channels part k of.channel = own assigned channels part k port of in
    leads_to_slots (tables_by (channels_in assigned channels part)) k (near_side_of port.starts_here) port.first one.here (are_channels assigned channels part are) (near_low port.starts_here) one.at of.first
    tunnel (subst (λ (n : ℕ). tunnel < n) (one.same ∙ sym one.count) below)

-- ---- the place holder

held : (assigned : List ℕ) (channels : List ChannelState) (part k tunnel : ℕ) (port : Port) → AreWhole assigned channels → IsPortOf assigned channels part k port
    → tunnel < length (get_or (channels_in assigned channels part) k absent_channel).tunnels
    → HoldsAt (tables_by (channels_in assigned channels part)) port.holder (2 * k + far_side_of port.starts_here) tunnel
held assigned channels part k t port whole of below =
    let ds : List ChannelState = channels_in assigned channels part in
    let n : ℕ = length (members assigned part) in
    let one : IsOwn assigned channels part k of.channel = own assigned channels part k port of in
    let far : ℕ = far_side_of port.starts_here in
    let inside : t < length of.channel.tunnels = subst (λ (m : ℕ). t < m) one.same below in
    let tunnel : Tunnel = get_or of.channel.tunnels t absent_tunnel in
    let has : slice_get of.channel.tunnels t ≡ Some tunnel = slice_get-get_or of.channel.tunnels t absent_tunnel inside in
    let slot : HasSlot ds (place_in assigned channels part of.c) t far (box_on assigned part (n + place_in assigned channels part of.c) far of.channel, local_on assigned part far of.channel t tunnel) =
    slot_placed assigned channels part of.c t far of.channel tunnel (far_low port.starts_here) of.at (inl of.crosses) has in
    let there : IsSlotOf ds k t far (first_slot ds k + (2 * t + far)) = slot_there ds k t far one.here (far_low port.starts_here) one.at (subst (λ (m : ℕ). t < m) (sym one.count) inside) in
    let away : is_part part (part_of assigned (end_on far of.channel)) ≡ false = far_is_away assigned part of.channel port.starts_here of.starts of.crosses in
    let same : slot.s ≡ first_slot ds k + (2 * t + far) =
    one_slot ds slot.s (first_slot ds k + (2 * t + far)) slot.inside there.inside (slot.channel ∙ (of.place_is ∙ sym there.channel)) (slot.within ∙ sym there.within) (slot.side_is ∙ sym there.side_is) in
    let place_is : get_or (places_among ds) slot.s (0, 0) ≡ (port.holder, t) =
    slot.place ∙ ap₂ (λ (p q : ℕ). (p, q))
    (other_one (is_part part (part_of assigned (end_on far of.channel))) (home_at assigned (end_on far of.channel)).1 (n + place_in assigned channels part of.c) away
    ∙ (ap (λ (m : ℕ). n + m) of.place_is ∙ sym of.holder))
    (other_one (is_part part (part_of assigned (end_on far of.channel))) (slot_on far tunnel) t away) in
    record {
      local = t;
      slot = first_slot ds k + (2 * t + far);
      number = here_number assigned channels part slot.s (port.holder, t) whole slot.inside place_is ∙ ap (λ (s : ℕ). Some s) same;
      leads = leads_there (tables_by ds) k t far (first_slot ds k + (2 * t + far)) there;
    }

-- the side that isn't there is the far one
side_is : (assigned : List ℕ) (part side : ℕ) (channel : ChannelState) (starts : Bool) → side < 2 → is_part part (part_of assigned channel.from) ≡ starts → is_crossing assigned part channel ≡ true
    → is_part part (part_of assigned (end_on side channel)) ≡ false → side ≡ far_side_of starts
side_is assigned part zero channel true low from crosses away = absurd (true≢false (sym from ∙ away))
side_is assigned part zero channel false low from crosses away = refl
side_is assigned part (suc zero) channel true low from crosses away = refl
side_is assigned part (suc zero) channel false low from crosses away =
    absurd (true≢false (sym crosses ∙ ap₂ (λ (a b : Bool). if a then not b else b) from away))
side_is assigned part (suc (suc side)) channel starts low from crosses away = absurd (omega arith)

past_home : (a n k : ℕ) → a < n → a ≡ n + k → n < n
past_home a n k low is = omega arith

same_sums : (n a b : ℕ) → n + a ≡ n + b → a ≡ b
same_sums n a b same = omega arith

alone : (assigned : List ℕ) (channels : List ChannelState) (part k s : ℕ) (port : Port) → AreWhole assigned channels → IsPortOf assigned channels part k port
    → s < length (places_among (channels_in assigned channels part)) → (get_or (places_among (channels_in assigned channels part)) s (0, 0)).0 ≡ port.holder
    → 2 * (get_or (tunnels_from 0 (channels_in assigned channels part)) (s / 2) no_tunnel).channel + s % 2 ≡ 2 * k + far_side_of port.starts_here
alone assigned channels part k s port whole of inside at_holder =
    let n : ℕ = length (members assigned part) in
    let one : IsHere assigned channels part s = is_here assigned channels part s inside in
    let e : ℕ = end_on (s % 2) one.channel in
    let in_e : e < length assigned = end_inside assigned channels one.c one.t (s % 2) one.channel one.tunnel whole (side_low s) one.at one.has in
    let box : box_on assigned part (n + place_in assigned channels part one.c) (s % 2) one.channel ≡ n + k = sym one.box_is ∙ (at_holder ∙ of.holder) in
    elim (either (is_part part (part_of assigned e))) [
      | inl here ↦
          let low : (home_at assigned e).1 < n = subst (λ (p : ℕ). (home_at assigned e).1 < length (members assigned p)) (eqb-true (part_of assigned e) part here) (home_inside assigned e in_e) in
          let high : (home_at assigned e).1 ≡ n + k = sym (chosen (is_part part (part_of assigned e)) (home_at assigned e).1 (n + place_in assigned channels part one.c) here) ∙ box in
          absurd (omega (arith, past_home (home_at assigned e).1 n k low high))
      | inr away ↦
          let there : n + place_in assigned channels part one.c ≡ n + k = sym (other_one (is_part part (part_of assigned e)) (home_at assigned e).1 (n + place_in assigned channels part one.c) away) ∙ box in
          let place_same : place_in assigned channels part one.c ≡ k = same_sums n (place_in assigned channels part one.c) k there in
          let c_same : one.c ≡ of.c = place_apart assigned channels part one.c of.c one.channel of.channel one.at of.at one.touches (inl of.crosses) (place_same ∙ sym of.place_is) in
          let channel_same : one.channel ≡ of.channel =
          sym (get_or_from_slice_get channels one.c one.channel absent_channel one.at) ∙ (ap (λ (m : ℕ). get_or channels m absent_channel) c_same ∙ get_or_from_slice_get channels of.c of.channel absent_channel of.at) in
          let side : s % 2 ≡ far_side_of port.starts_here =
          side_is assigned part (s % 2) of.channel port.starts_here (side_low s) of.starts of.crosses (ap (λ (x : ChannelState). is_part part (part_of assigned (end_on (s % 2) x))) (sym channel_same) ∙ away) in
          ap₂ (λ (a b : ℕ). 2 * a + b) (one.channel_is ∙ place_same) side
    ]

pub all_go_out : (assigned : List ℕ) (channels : List ChannelState) (part k : ℕ) (port : Port) → AreWhole assigned channels → IsPortOf assigned channels part k port
    → AllGoOut (tables_by (channels_in assigned channels part)) k port
all_go_out assigned channels part k port whole of = record {
  held = λ tunnel below. held assigned channels part k tunnel port whole of below;
  alone = λ slot inside at_holder. alone assigned channels part k slot port whole of inside at_holder;
}
