-- The places of slots, where a channel more gives its slots theirs.
use Rattle.std.proofs.Common.{◌≡◌, ◌≢◌, ◌<◌, ◌≤◌, ◌+◌, ◌*◌, ◌/◌, ◌%◌, ◌==◌, inl, inr, if◌then◌else◌, ℕ, Some, List, [], ◌∷◌, ◌++◌, length, take, ap, sym, ◌∙◌, subst, arith}
use Rattle.std.proofs.Math.ListN.{get_or}
use Rattle.std.proofs.lemmas.Bool.{cases_eq, cases_lt}
use Rattle.std.specs.List.{slice_get}
use Rattle.mc_box.specs.Boxes.{BoxState, no_box}
use Rattle.mc_laws.proofs.Numbers.{some_same}
use Rattle.mc_team.specs.Layouts.{AreSlotsApart, AreBare, AreSlotsInside, ArePlaced, IsPlacedAt, at_end}
use Rattle.mc_team.proofs.SlotsLonger.{IsNewSlot, SlotStands, earlier_stands, new_slot, old_place, old_tunnel, place_by, this_stands}
use Rattle.mc_model.specs.Sound.{IsNumbered}
use Rattle.mc_model.specs.Worlds.{ChannelState, TunnelPlace, first_world, no_tunnel, number, places_among, places_within, slot_count, tunnels_from}
use Rattle.mc_model.specs.declared.channel.Tunnel.{Tunnel}

-- ---- slots of boxes that are numbered

-- different slots have different boxes or local numbers
pub slots_apart : (boxes : List BoxState) (channels : List ChannelState) (s t : ℕ) (place : ℕ × ℕ) → IsNumbered (first_world boxes channels) → SlotStands channels s place → SlotStands channels t place → s ≡ t
slots_apart boxes channels s t place numbered one two =
    let same : get_or (places_among channels) s (0, 0) ≡ get_or (places_among channels) t (0, 0) = one.is ∙ sym two.is in
    some_same s t
    (sym (numbered.once s one.inside)
    ∙ (ap (λ (p : ℕ × ℕ). number (first_world boxes channels) p.0 p.1) same ∙ numbered.once t two.inside))

-- the slots of a channel are all different
pub channel_apart : (boxes : List BoxState) (channels : List ChannelState) (n : ℕ) (channel : ChannelState) → IsNumbered (first_world boxes channels)
    → n < length channels → channel ≡ get_or channels n channel → AreSlotsApart channel
channel_apart boxes channels n channel numbered below is = λ i j place one two.
    let same : length (places_among (take n channels)) + i ≡ length (places_among (take n channels)) + j =
    slots_apart boxes channels (length (places_among (take n channels)) + i) (length (places_among (take n channels)) + j) place numbered
    (this_stands channels n channel i place below is one) (this_stands channels n channel j place below is two) in
    omega arith

-- none of them is one of an earlier channel
pub earlier_other : (boxes : List BoxState) (channels : List ChannelState) (n : ℕ) (channel : ChannelState) (s : ℕ) (place : ℕ × ℕ) → IsNumbered (first_world boxes channels)
    → n < length channels → channel ≡ get_or channels n channel → s < length (places_among (take n channels)) → get_or (places_among (take n channels)) s (0, 0) ≡ place
    → (i : ℕ) → slice_get (places_within channel) i ≢ Some place
earlier_other boxes channels n channel s place numbered below is before here i there =
    let first : SlotStands channels s (get_or (places_among (take n channels)) s (0, 0)) = earlier_stands channels n channel s below is before in
    let same : s ≡ length (places_among (take n channels)) + i =
    slots_apart boxes channels s (length (places_among (take n channels)) + i) place numbered
    (subst (λ (p : ℕ × ℕ). SlotStands channels s p) here first) (this_stands channels n channel i place below is there) in
    omega arith

-- each of them has an entry
pub channel_inside : (boxes : List BoxState) (channels : List ChannelState) (n : ℕ) (channel : ChannelState) (places : List (List (ℕ × ℕ))) → IsNumbered (first_world boxes channels)
    → AreBare boxes places → n < length channels → channel ≡ get_or channels n channel → AreSlotsInside channel places
channel_inside boxes channels n channel places numbered bare below is = λ i place here.
    let s : ℕ = length (places_among (take n channels)) + i in
    let at : SlotStands channels s place = this_stands channels n channel i place below is here in
    let box : place.0 < length boxes = subst (λ (p : ℕ × ℕ). p.0 < length boxes) at.is (numbered.placed s at.inside) in
    let slot : place.1 < length (get_or boxes place.0 no_box).slots = subst (λ (p : ℕ × ℕ). p.1 < length (get_or boxes p.0 no_box).slots) at.is (numbered.slots s at.inside) in
    (subst (λ (m : ℕ). place.0 < m) (sym bare.count) box, subst (λ (m : ℕ). place.1 < m) (sym (bare.long place.0)) slot)

-- ---- a slot's place, by its box and local number and by its tunnel

record IsPlacedBy (ends : List (List ℕ)) (places : List (List (ℕ × ℕ))) (at : ℕ × ℕ) (tunnel : TunnelPlace) (side : ℕ) : Type 0 where
  end : ℕ
  has : at_end places at.0 at.1 ≡ Some (end, tunnel.within)
  lane : at_end ends at.0 end ≡ Some (2 * tunnel.channel + side)

placed_by : (boxes : List BoxState) (channels : List ChannelState) (ends : List (List ℕ)) (places : List (List (ℕ × ℕ))) (s : ℕ) → IsPlacedAt boxes channels ends places s
    → IsPlacedBy ends places (get_or (places_among channels) s (0, 0)) (get_or (tunnels_from 0 channels) (s / 2) no_tunnel) (s % 2)
placed_by boxes channels ends places s placed = record { end = placed.end; has = placed.at; lane = placed.lane }

placed_at : (boxes : List BoxState) (channels : List ChannelState) (ends : List (List ℕ)) (places : List (List (ℕ × ℕ))) (s : ℕ)
    → IsPlacedBy ends places (get_or (places_among channels) s (0, 0)) (get_or (tunnels_from 0 channels) (s / 2) no_tunnel) (s % 2) → IsPlacedAt boxes channels ends places s
placed_at boxes channels ends places s placed = record { end = placed.end; at = placed.has; lane = placed.lane }

-- ---- one channel more

-- what it leaves and reads at channel ends
pub record EndsMore (n : ℕ) (channel : ChannelState) (from_end to_end : ℕ) (old new : List (List ℕ)) : Type 0 where
  pub stays : (who end lane : ℕ) → at_end old who end ≡ Some lane → at_end new who end ≡ Some lane
  pub from : at_end new channel.from from_end ≡ Some (2 * n)
  pub to : at_end new channel.to to_end ≡ Some (2 * n + 1)

old_placed : (boxes : List BoxState) (channels : List ChannelState) (channel : ChannelState) (from_end to_end : ℕ) (ends all : List (List ℕ)) (places new : List (List (ℕ × ℕ))) (s : ℕ)
    → EndsMore (length channels) channel from_end to_end ends all → ArePlaced channel from_end to_end places new
    → ((i : ℕ) → slice_get (places_within channel) i ≢ Some (get_or (places_among channels) s (0, 0)))
    → s < length (places_among channels) → IsPlacedAt boxes channels ends places s → IsPlacedAt boxes (channels ++ channel ∷ []) all new s
old_placed boxes channels channel from_end to_end ends all places new s more placed other below old =
    let before = placed_by boxes channels ends places s old in
    placed_at boxes (channels ++ channel ∷ []) all new s
    (subst (λ (t : TunnelPlace). IsPlacedBy all new (get_or (places_among (channels ++ channel ∷ [])) s (0, 0)) t (s % 2)) (sym (old_tunnel channels channel s below))
    (subst (λ (p : ℕ × ℕ). IsPlacedBy all new p (get_or (tunnels_from 0 channels) (s / 2) no_tunnel) (s % 2)) (sym (old_place channels channel s below))
    (record {
      end = old.end;
      has = placed.others (get_or (places_among channels) s (0, 0)).0 (get_or (places_among channels) s (0, 0)).1 other ∙ old.at;
      lane = more.stays _ old.end _ old.lane;
    })))

new_by : (channel : ChannelState) (n from_end to_end within s : ℕ) (tunnel : Tunnel) (place : TunnelPlace) (ends all : List (List ℕ)) (places new : List (List (ℕ × ℕ)))
    → EndsMore n channel from_end to_end ends all → ArePlaced channel from_end to_end places new → slice_get channel.tunnels within ≡ Some tunnel
    → place.channel ≡ n → place.within ≡ within → IsPlacedBy all new (place_by channel tunnel s) place (s % 2)
new_by channel n from_end to_end within s tunnel place ends all places new more placed is channel_is within_is = elim (cases_eq (s % 2) 0) [
  | inl even ↦
      subst (λ (k : ℕ). IsPlacedBy all new (if k == 0 then (channel.from, tunnel.from) else (channel.to, tunnel.to)) place k) (sym even)
      (record {
        end = from_end;
        has = placed.from within tunnel is ∙ ap (λ (k : ℕ). Some (from_end, k)) (sym within_is);
        lane = more.from ∙ ap (λ (k : ℕ). Some k) (let lane : 2 * n ≡ 2 * place.channel + 0 = omega arith in lane);
      })
  | inr off ↦
      let odd : s % 2 ≡ 1 = omega arith in
      subst (λ (k : ℕ). IsPlacedBy all new (if k == 0 then (channel.from, tunnel.from) else (channel.to, tunnel.to)) place k) (sym odd)
      (record {
        end = to_end;
        has = placed.to within tunnel is ∙ ap (λ (k : ℕ). Some (to_end, k)) (sym within_is);
        lane = more.to ∙ ap (λ (k : ℕ). Some k) (let lane : 2 * n + 1 ≡ 2 * place.channel + 1 = omega arith in lane);
      })
]

new_placed : (boxes : List BoxState) (channels : List ChannelState) (channel : ChannelState) (from_end to_end : ℕ) (ends all : List (List ℕ)) (places new : List (List (ℕ × ℕ))) (s : ℕ)
    → EndsMore (length channels) channel from_end to_end ends all → ArePlaced channel from_end to_end places new
    → length (places_among channels) ≤ s → s < length (places_among (channels ++ channel ∷ [])) → IsPlacedAt boxes (channels ++ channel ∷ []) all new s
new_placed boxes channels channel from_end to_end ends all places new s more placed above below =
    let slot : IsNewSlot channels channel s = new_slot channels channel s above below in
    let tunnel : TunnelPlace = get_or (tunnels_from 0 (channels ++ channel ∷ [])) (s / 2) no_tunnel in
    placed_at boxes (channels ++ channel ∷ []) all new s
    (subst (λ (p : ℕ × ℕ). IsPlacedBy all new p tunnel (s % 2)) (sym slot.place)
    (new_by channel (length channels) from_end to_end slot.within s slot.tunnel tunnel ends all places new more placed slot.at slot.tunnel_is.channel_is slot.tunnel_is.within_is))

-- so each slot of the channels so far has its place
pub places_joined : (boxes : List BoxState) (channels : List ChannelState) (channel : ChannelState) (from_end to_end : ℕ) (ends all : List (List ℕ)) (places new : List (List (ℕ × ℕ)))
    → EndsMore (length channels) channel from_end to_end ends all → ArePlaced channel from_end to_end places new
    → ((s : ℕ) → s < length (places_among channels) → (i : ℕ) → slice_get (places_within channel) i ≢ Some (get_or (places_among channels) s (0, 0)))
    → ((s : ℕ) → s < slot_count (first_world boxes channels) → IsPlacedAt boxes channels ends places s)
    → (s : ℕ) → s < slot_count (first_world boxes (channels ++ channel ∷ [])) → IsPlacedAt boxes (channels ++ channel ∷ []) all new s
places_joined boxes channels channel from_end to_end ends all places new more placed other old s below = elim (cases_lt s (length (places_among channels))) [
  | inl before ↦ old_placed boxes channels channel from_end to_end ends all places new s more placed (other s before) before (old s before)
  | inr above ↦ new_placed boxes channels channel from_end to_end ends all places new s more placed above below
]

-- and each slot of each box still has an entry
pub still_bare : (boxes : List BoxState) (channel : ChannelState) (from_end to_end : ℕ) (places new : List (List (ℕ × ℕ))) → ArePlaced channel from_end to_end places new → AreBare boxes places → AreBare boxes new
still_bare boxes channel from_end to_end places new placed bare = record { count = placed.count ∙ bare.count; long = λ who. placed.long who ∙ bare.long who }
