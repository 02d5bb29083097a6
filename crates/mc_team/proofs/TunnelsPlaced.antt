-- The places of a channel's slots, tunnel by tunnel.
use Rattle.std.proofs.Common.{◌≡◌, ◌≢◌, ◌<◌, ◌+◌, ◌*◌, inl, inr, ℕ, zero, suc, Some, List, [], ◌∷◌, ◌++◌, length, take, drop, refl, ap, sym, ◌∙◌, subst, arith}
use Rattle.std.proofs.Math.ListN.{get_or, set}
use Rattle.std.proofs.lemmas.Bool.{cases_eq}
use Rattle.std.proofs.lemmas.Grind.{flat_map-append}
use Rattle.std.proofs.lemmas.List.{get_or-set_other, get_or-set_same, length-set, length-take-le, take-append-drop, take_more}
use Rattle.std.proofs.lemmas.Option.{slice_get_within}
use Rattle.std.specs.List.{flat_map, slice_get}
use Rattle.mc_team.specs.Layouts.{AreSlotsApart, AreSlotsInside, ArePlaced, at_end, of_box}
use Rattle.mc_team.proofs.TeamAdded.{get_before, get_either, get_last}
use Rattle.mc_model.specs.Worlds.{ChannelState, places_of, places_within}
use Rattle.mc_model.specs.declared.channel.Tunnel.{Tunnel}

-- ---- one entry is set

pub get_set_same : {A : Type 0} → (xs : List A) (i : ℕ) (y : A) → i < length xs → slice_get (set xs i y) i ≡ Some y
get_set_same [] i y below = absurd (omega arith)
get_set_same (x ∷ xs) zero y below = refl
get_set_same (x ∷ xs) (suc i) y below = get_set_same xs i y (omega arith)

pub get_set_other : {A : Type 0} → (xs : List A) (i j : ℕ) (y : A) → j ≢ i → slice_get (set xs i y) j ≡ slice_get xs j
get_set_other [] i j y off = refl
get_set_other (x ∷ xs) zero zero y off = absurd (off refl)
get_set_other (x ∷ xs) zero (suc j) y off = refl
get_set_other (x ∷ xs) (suc i) zero y off = refl
get_set_other (x ∷ xs) (suc i) (suc j) y off = get_set_other xs i j y (λ same. off (ap suc same))

-- two places of slots are different
abbrev pub AreOther : ℕ × ℕ → ℕ × ℕ → Type 0
AreOther p q = p ≢ q

abbrev pub with_entry : {A : Type 0} → List (List A) → ℕ → ℕ → A → List (List A)
with_entry lists who local x = set lists who (set (of_box lists who) local x)

set_box : {A : Type 0} → (lists : List (List A)) (who local : ℕ) (x : A) → who < length lists → of_box (with_entry lists who local x) who ≡ set (of_box lists who) local x
set_box lists who local x here = get_or-set_same lists who (set (of_box lists who) local x) [] here

unset_box : {A : Type 0} → (lists : List (List A)) (who local other : ℕ) (x : A) → other ≢ who → of_box (with_entry lists who local x) other ≡ of_box lists other
unset_box lists who local other x off = get_or-set_other lists who other (set (of_box lists who) local x) [] off

pub entry_set : {A : Type 0} → (lists : List (List A)) (who local : ℕ) (x : A) → who < length lists → local < length (of_box lists who) → at_end (with_entry lists who local x) who local ≡ Some x
entry_set {A} lists who local x here inside = ap (λ (l : List A). slice_get l local) (set_box lists who local x here) ∙ get_set_same (of_box lists who) local x inside

pub entry_else : {A : Type 0} → (lists : List (List A)) (who local other at : ℕ) (x : A) → who < length lists → AreOther (other, at) (who, local) → at_end (with_entry lists who local x) other at ≡ at_end lists other at
entry_else {A} lists who local other at x here off = elim (cases_eq other who) [
  | inl is ↦
      subst (λ (n : ℕ). at_end (with_entry lists who local x) n at ≡ at_end lists n at) (sym is)
      (ap (λ (l : List A). slice_get l at) (set_box lists who local x here)
      ∙ get_set_other (of_box lists who) local at x (λ same. off (ap (λ (n : ℕ). (n, at)) is ∙ ap (λ (n : ℕ). (who, n)) same)))
  | inr apart ↦ ap (λ (l : List A). slice_get l at) (unset_box lists who local other x apart)
]

pub boxes_set : {A : Type 0} → (lists : List (List A)) (who local : ℕ) (x : A) → length (with_entry lists who local x) ≡ length lists
boxes_set lists who local x = length-set lists who (set (of_box lists who) local x)

pub counts_set : {A : Type 0} → (lists : List (List A)) (who local other : ℕ) (x : A) → who < length lists → length (of_box (with_entry lists who local x) other) ≡ length (of_box lists other)
counts_set lists who local other x here = elim (cases_eq other who) [
  | inl is ↦
      subst (λ (n : ℕ). length (of_box (with_entry lists who local x) n) ≡ length (of_box lists n)) (sym is)
      (ap length (set_box lists who local x here) ∙ length-set (of_box lists who) local x)
  | inr apart ↦ ap length (unset_box lists who local other x apart)
]

-- ---- the slots of a tunnel

-- where the slots of a tunnel stand among those of its channel
pub record HasBothPlaces (places : List (ℕ × ℕ)) (channel : ChannelState) (tunnel : Tunnel) (i : ℕ) : Type 0 where
  pub from : slice_get places i ≡ Some (channel.from, tunnel.from)
  pub to : slice_get places (suc i) ≡ Some (channel.to, tunnel.to)

pub tunnel_places : (channel : ChannelState) (tunnels : List Tunnel) (within i : ℕ) (tunnel : Tunnel) → i ≡ 2 * within → slice_get tunnels within ≡ Some tunnel → HasBothPlaces (flat_map (places_of channel) tunnels) channel tunnel i
tunnel_places channel [] within i tunnel is at = absurd (let inside = slice_get_within [] within tunnel at in omega arith)
tunnel_places channel (one ∷ tunnels) zero zero tunnel is at =
    let same : one ≡ tunnel = cc in
    record { from = ap (λ (t : Tunnel). Some (channel.from, t.from)) same; to = ap (λ (t : Tunnel). Some (channel.to, t.to)) same }
tunnel_places channel (one ∷ tunnels) zero (suc i) tunnel is at = absurd (omega arith)
tunnel_places channel (one ∷ tunnels) (suc within) zero tunnel is at = absurd (omega arith)
tunnel_places channel (one ∷ tunnels) (suc within) (suc zero) tunnel is at = absurd (omega arith)
tunnel_places channel (one ∷ tunnels) (suc within) (suc (suc i)) tunnel is at =
    let rest = tunnel_places channel tunnels within i tunnel (omega arith) at in
    record { from = rest.from; to = rest.to }

-- ---- one tunnel more

abbrev pub with_tunnels : ChannelState → List Tunnel → ChannelState
with_tunnels channel tunnels = record { from = channel.from; to = channel.to; tunnels = tunnels }

abbrev pub one_placed : ChannelState → Tunnel → ℕ → ℕ → ℕ → List (List (ℕ × ℕ)) → List (List (ℕ × ℕ))
one_placed channel tunnel within from_end to_end places =
    with_entry (with_entry places channel.from tunnel.from (from_end, within)) channel.to tunnel.to (to_end, within)

-- what is known of a tunnel that gets its places
pub record IsNextTunnel (channel : ChannelState) (before : List Tunnel) (tunnel : Tunnel) (places : List (List (ℕ × ℕ))) : Type 0 where
  pub apart : AreSlotsApart (with_tunnels channel (before ++ tunnel ∷ []))
  pub inside : AreSlotsInside (with_tunnels channel (before ++ tunnel ∷ [])) places

-- each of its slots has its entry, and different ones
pub record IsRoomy (channel : ChannelState) (tunnel : Tunnel) (places : List (List (ℕ × ℕ))) : Type 0 where
  pub from_box : channel.from < length places
  pub from_slot : tunnel.from < length (of_box places channel.from)
  pub to_box : channel.to < length places
  pub to_slot : tunnel.to < length (of_box places channel.to)
  pub apart : AreOther (channel.from, tunnel.from) (channel.to, tunnel.to)

roomy : (channel : ChannelState) (before : List Tunnel) (tunnel : Tunnel) (old now : List (List (ℕ × ℕ))) (from_end to_end : ℕ) → IsNextTunnel channel before tunnel old → ArePlaced (with_tunnels channel before) from_end to_end old now → IsRoomy channel tunnel now
roomy channel before tunnel old now from_end to_end next placed =
    let i : ℕ = 2 * length before in
    let at : HasBothPlaces (flat_map (places_of channel) (before ++ tunnel ∷ [])) channel tunnel (2 * length before) = tunnel_places channel (before ++ tunnel ∷ []) (length before) i tunnel refl (get_last before tunnel (length before) refl) in
    let from = next.inside i (channel.from, tunnel.from) at.from in
    let to = next.inside (suc i) (channel.to, tunnel.to) at.to in
    record {
      from_box = omega (arith, from.0, placed.count);
      from_slot = omega (arith, from.1, placed.long channel.from);
      to_box = omega (arith, to.0, placed.count);
      to_slot = omega (arith, to.1, placed.long channel.to);
      apart = λ same.
          let one : 2 * length before ≡ suc (2 * length before) = next.apart i (suc i) (channel.to, tunnel.to) (at.from ∙ ap (λ (p : ℕ × ℕ). Some p) same) at.to in
          omega arith;
    }

-- the other places stay
stays : (channel : ChannelState) (tunnel : Tunnel) (within from_end to_end who local : ℕ) (places : List (List (ℕ × ℕ))) → IsRoomy channel tunnel places → AreOther (who, local) (channel.from, tunnel.from) → AreOther (who, local) (channel.to, tunnel.to)
    → at_end (one_placed channel tunnel within from_end to_end places) who local ≡ at_end places who local
stays channel tunnel within from_end to_end who local places room off_from off_to =
    let first : List (List (ℕ × ℕ)) = with_entry places channel.from tunnel.from (from_end, within) in
    entry_else first channel.to tunnel.to who local (to_end, within) (omega (arith, boxes_set places channel.from tunnel.from (from_end, within), room.to_box)) off_to
    ∙ entry_else places channel.from tunnel.from who local (from_end, within) room.from_box off_from

first_set : (channel : ChannelState) (tunnel : Tunnel) (within from_end to_end : ℕ) (places : List (List (ℕ × ℕ))) → IsRoomy channel tunnel places
    → at_end (one_placed channel tunnel within from_end to_end places) channel.from tunnel.from ≡ Some (from_end, within)
first_set channel tunnel within from_end to_end places room =
    let first : List (List (ℕ × ℕ)) = with_entry places channel.from tunnel.from (from_end, within) in
    entry_else first channel.to tunnel.to channel.from tunnel.from (to_end, within) (omega (arith, boxes_set places channel.from tunnel.from (from_end, within), room.to_box)) room.apart
    ∙ entry_set places channel.from tunnel.from (from_end, within) room.from_box room.from_slot

second_set : (channel : ChannelState) (tunnel : Tunnel) (within from_end to_end : ℕ) (places : List (List (ℕ × ℕ))) → IsRoomy channel tunnel places
    → at_end (one_placed channel tunnel within from_end to_end places) channel.to tunnel.to ≡ Some (to_end, within)
second_set channel tunnel within from_end to_end places room =
    let first : List (List (ℕ × ℕ)) = with_entry places channel.from tunnel.from (from_end, within) in
    entry_set first channel.to tunnel.to (to_end, within) (omega (arith, boxes_set places channel.from tunnel.from (from_end, within), room.to_box))
    (omega (arith, counts_set places channel.from tunnel.from channel.to (from_end, within) room.from_box, room.to_slot))

-- a slot of an earlier tunnel isn't one of this one
earlier : (channel : ChannelState) (before : List Tunnel) (tunnel : Tunnel) (places : List (List (ℕ × ℕ))) (i j : ℕ) (one two : ℕ × ℕ) → IsNextTunnel channel before tunnel places
    → slice_get (flat_map (places_of channel) (before ++ tunnel ∷ [])) i ≡ Some one → slice_get (flat_map (places_of channel) (before ++ tunnel ∷ [])) j ≡ Some two → i < j → AreOther one two
earlier channel before tunnel places i j one two next first second less same =
    let is : i ≡ j = next.apart i j two (first ∙ ap (λ (p : ℕ × ℕ). Some p) same) second in
    omega arith

-- what stands among the slots of the tunnels so far stands among those of one tunnel more
still_among : (channel : ChannelState) (before : List Tunnel) (tunnel : Tunnel) (i : ℕ) (place : ℕ × ℕ) → slice_get (flat_map (places_of channel) before) i ≡ Some place → slice_get (flat_map (places_of channel) (before ++ tunnel ∷ [])) i ≡ Some place
still_among channel before tunnel i place is =
    let ps : List (ℕ × ℕ) = flat_map (places_of channel) before in
    ap (λ (l : List (ℕ × ℕ)). slice_get l i) (flat_map-append (places_of channel) before (tunnel ∷ []))
    ∙ (get_before ps (flat_map (places_of channel) (tunnel ∷ [])) i (slice_get_within ps i place is) ∙ is)

each_from : (channel : ChannelState) (before : List Tunnel) (tunnel one : Tunnel) (from_end to_end within : ℕ) (old now : List (List (ℕ × ℕ))) → IsNextTunnel channel before tunnel old → ArePlaced (with_tunnels channel before) from_end to_end old now
    → slice_get (before ++ tunnel ∷ []) within ≡ Some one → at_end (one_placed channel tunnel (length before) from_end to_end now) channel.from one.from ≡ Some (from_end, within)
each_from channel before tunnel one from_end to_end within old now next placed is =
    let room : IsRoomy channel tunnel now = roomy channel before tunnel old now from_end to_end next placed in
    let last : HasBothPlaces (flat_map (places_of channel) (before ++ tunnel ∷ [])) channel tunnel (2 * length before) = tunnel_places channel (before ++ tunnel ∷ []) (length before) (2 * length before) tunnel refl (get_last before tunnel (length before) refl) in
    let at : HasBothPlaces (flat_map (places_of channel) (before ++ tunnel ∷ [])) channel one (2 * within) = tunnel_places channel (before ++ tunnel ∷ []) within (2 * within) one refl is in
    elim (get_either before tunnel within one is) [
      | inl there ↦
          let low : within < length before = slice_get_within before within one there in
          stays channel tunnel (length before) from_end to_end channel.from one.from now room
          (earlier channel before tunnel old (2 * within) (2 * length before) _ _ next at.from last.from (omega arith))
          (earlier channel before tunnel old (2 * within) (suc (2 * length before)) _ _ next at.from last.to (omega arith))
          ∙ placed.from within one there
      | inr new ↦
          ap (λ (t : Tunnel). at_end (one_placed channel tunnel (length before) from_end to_end now) channel.from t.from) (sym new.1)
          ∙ (first_set channel tunnel (length before) from_end to_end now room ∙ ap (λ (n : ℕ). Some (from_end, n)) (sym new.0))
    ]

each_to : (channel : ChannelState) (before : List Tunnel) (tunnel one : Tunnel) (from_end to_end within : ℕ) (old now : List (List (ℕ × ℕ))) → IsNextTunnel channel before tunnel old → ArePlaced (with_tunnels channel before) from_end to_end old now
    → slice_get (before ++ tunnel ∷ []) within ≡ Some one → at_end (one_placed channel tunnel (length before) from_end to_end now) channel.to one.to ≡ Some (to_end, within)
each_to channel before tunnel one from_end to_end within old now next placed is =
    let room : IsRoomy channel tunnel now = roomy channel before tunnel old now from_end to_end next placed in
    let last : HasBothPlaces (flat_map (places_of channel) (before ++ tunnel ∷ [])) channel tunnel (2 * length before) = tunnel_places channel (before ++ tunnel ∷ []) (length before) (2 * length before) tunnel refl (get_last before tunnel (length before) refl) in
    let at : HasBothPlaces (flat_map (places_of channel) (before ++ tunnel ∷ [])) channel one (2 * within) = tunnel_places channel (before ++ tunnel ∷ []) within (2 * within) one refl is in
    elim (get_either before tunnel within one is) [
      | inl there ↦
          let low : within < length before = slice_get_within before within one there in
          stays channel tunnel (length before) from_end to_end channel.to one.to now room
          (earlier channel before tunnel old (suc (2 * within)) (2 * length before) _ _ next at.to last.from (omega arith))
          (earlier channel before tunnel old (suc (2 * within)) (suc (2 * length before)) _ _ next at.to last.to (omega arith))
          ∙ placed.to within one there
      | inr new ↦
          ap (λ (t : Tunnel). at_end (one_placed channel tunnel (length before) from_end to_end now) channel.to t.to) (sym new.1)
          ∙ (second_set channel tunnel (length before) from_end to_end now room ∙ ap (λ (n : ℕ). Some (to_end, n)) (sym new.0))
    ]

-- so the slots of one tunnel more have their places
pub one_more_placed : (channel : ChannelState) (before : List Tunnel) (tunnel : Tunnel) (from_end to_end : ℕ) (old now : List (List (ℕ × ℕ))) → IsNextTunnel channel before tunnel old → ArePlaced (with_tunnels channel before) from_end to_end old now
    → ArePlaced (with_tunnels channel (before ++ tunnel ∷ [])) from_end to_end old (one_placed channel tunnel (length before) from_end to_end now)
one_more_placed channel before tunnel from_end to_end old now next placed =
    let room : IsRoomy channel tunnel now = roomy channel before tunnel old now from_end to_end next placed in
    let last : HasBothPlaces (flat_map (places_of channel) (before ++ tunnel ∷ [])) channel tunnel (2 * length before) = tunnel_places channel (before ++ tunnel ∷ []) (length before) (2 * length before) tunnel refl (get_last before tunnel (length before) refl) in
    let first : List (List (ℕ × ℕ)) = with_entry now channel.from tunnel.from (from_end, length before) in
    record {
      from = λ within one is. each_from channel before tunnel one from_end to_end within old now next placed is;
      to = λ within one is. each_to channel before tunnel one from_end to_end within old now next placed is;
      others = λ who local off.
          stays channel tunnel (length before) from_end to_end who local now room
          (λ same. off (2 * length before) (last.from ∙ ap (λ (p : ℕ × ℕ). Some p) (sym same)))
          (λ same. off (suc (2 * length before)) (last.to ∙ ap (λ (p : ℕ × ℕ). Some p) (sym same)))
          ∙ placed.others who local (λ i is. off i (still_among channel before tunnel i (who, local) is));
      count = boxes_set first channel.to tunnel.to (to_end, length before) ∙ (boxes_set now channel.from tunnel.from (from_end, length before) ∙ placed.count);
      long = λ who.
          counts_set first channel.to tunnel.to who (to_end, length before) (omega (arith, boxes_set now channel.from tunnel.from (from_end, length before), room.to_box))
          ∙ (counts_set now channel.from tunnel.from who (from_end, length before) room.from_box ∙ placed.long who);
    }

-- ---- the tunnels of a channel

-- of the first tunnels of a channel all is known that is of the channel
pub next_tunnel : (channel : ChannelState) (within : ℕ) (tunnel : Tunnel) (places : List (List (ℕ × ℕ))) → AreSlotsApart channel → AreSlotsInside channel places → within < length channel.tunnels → tunnel ≡ get_or channel.tunnels within tunnel
    → IsNextTunnel channel (take within channel.tunnels) tunnel places
next_tunnel channel within tunnel places apart inside below is =
    let more : take (within + 1) channel.tunnels ≡ take within channel.tunnels ++ tunnel ∷ [] = take_more channel.tunnels within tunnel below ∙ ap (λ (t : Tunnel). take within channel.tunnels ++ t ∷ []) (sym is) in
    let among : (i : ℕ) (place : ℕ × ℕ) → slice_get (flat_map (places_of channel) (take within channel.tunnels ++ tunnel ∷ [])) i ≡ Some place → slice_get (places_within channel) i ≡ Some place =
    λ i place at.
    let at_first : slice_get (flat_map (places_of channel) (take (within + 1) channel.tunnels)) i ≡ Some place = ap (λ (l : List Tunnel). slice_get (flat_map (places_of channel) l) i) more ∙ at in
    ap (λ (l : List Tunnel). slice_get (flat_map (places_of channel) l) i) (sym (take-append-drop (within + 1) channel.tunnels))
    ∙ (ap (λ (l : List (ℕ × ℕ)). slice_get l i) (flat_map-append (places_of channel) (take (within + 1) channel.tunnels) (drop (within + 1) channel.tunnels))
    ∙ (get_before (flat_map (places_of channel) (take (within + 1) channel.tunnels)) (flat_map (places_of channel) (drop (within + 1) channel.tunnels)) i
    (slice_get_within (flat_map (places_of channel) (take (within + 1) channel.tunnels)) i place at_first) ∙ at_first)) in
    record {
      apart = λ i j place one two. apart i j place (among i place one) (among j place two);
      inside = λ i place at. inside i place (among i place at);
    }

-- what the loop over tunnels knows when a tunnel is next
pub record IsPlacing (channel : ChannelState) (within : ℕ) (tunnel : Tunnel) (from_end to_end : ℕ) (old now : List (List (ℕ × ℕ))) : Type 0 where
  pub apart : AreSlotsApart channel
  pub inside : AreSlotsInside channel old
  pub below : within < length channel.tunnels
  pub is : tunnel ≡ get_or channel.tunnels within tunnel
  pub placed : ArePlaced (with_tunnels channel (take within channel.tunnels)) from_end to_end old now

-- the same of a channel as code sees it
pub placing_view : (channel view : ChannelState) (within count : ℕ) (tunnel : Tunnel) (from_end to_end : ℕ) (old now : List (List (ℕ × ℕ))) → view ≡ channel → AreSlotsApart channel → AreSlotsInside channel old
    → within < count → count ≡ length view.tunnels → tunnel ≡ get_or view.tunnels within tunnel → ArePlaced (with_tunnels channel (take within channel.tunnels)) from_end to_end old now
    → IsPlacing view within tunnel from_end to_end old now
placing_view channel view within count tunnel from_end to_end old now same apart inside test long is placed =
    subst (λ (c : ChannelState). IsPlacing c within tunnel from_end to_end old now) (sym same)
    (record {
      apart = apart;
      inside = inside;
      below = subst (λ (c : ChannelState). within < length c.tunnels) same (subst (λ (n : ℕ). within < n) long test);
      is = subst (λ (c : ChannelState). tunnel ≡ get_or c.tunnels within tunnel) same is;
      placed = placed;
    })

pub placing_room : (channel : ChannelState) (within : ℕ) (tunnel : Tunnel) (from_end to_end : ℕ) (old now : List (List (ℕ × ℕ))) → IsPlacing channel within tunnel from_end to_end old now → IsRoomy channel tunnel now
placing_room channel within tunnel from_end to_end old now k =
    roomy channel (take within channel.tunnels) tunnel old now from_end to_end (next_tunnel channel within tunnel old k.apart k.inside k.below k.is) k.placed

-- after one of the two slots there is room for the other
pub second_room : (channel : ChannelState) (tunnel : Tunnel) (now next : List (List (ℕ × ℕ))) (place : ℕ × ℕ) → IsRoomy channel tunnel now → next ≡ with_entry now channel.from tunnel.from place
    → (channel.to < length next) × (tunnel.to < length (of_box next channel.to))
second_room channel tunnel now next place room is = (
  omega (arith, ap length is, boxes_set now channel.from tunnel.from place, room.to_box),
  omega (arith, ap (λ (l : List (List (ℕ × ℕ))). length (of_box l channel.to)) is, counts_set now channel.from tunnel.from channel.to place room.from_box, room.to_slot),
)

pub placed_next : (channel : ChannelState) (within : ℕ) (tunnel : Tunnel) (from_end to_end : ℕ) (old now : List (List (ℕ × ℕ))) → IsPlacing channel within tunnel from_end to_end old now
    → ArePlaced (with_tunnels channel (take (within + 1) channel.tunnels)) from_end to_end old (one_placed channel tunnel within from_end to_end now)
placed_next channel within tunnel from_end to_end old now k =
    let before : List Tunnel = take within channel.tunnels in
    let more : take (within + 1) channel.tunnels ≡ take within channel.tunnels ++ tunnel ∷ [] = take_more channel.tunnels within tunnel k.below ∙ ap (λ (t : Tunnel). take within channel.tunnels ++ t ∷ []) (sym k.is) in
    let count : length (take within channel.tunnels) ≡ within = length-take-le within channel.tunnels (omega (arith, k.below)) in
    subst (λ (l : List Tunnel). ArePlaced (with_tunnels channel l) from_end to_end old (one_placed channel tunnel within from_end to_end now)) (sym more)
    (subst (λ (n : ℕ). ArePlaced (with_tunnels channel (before ++ tunnel ∷ [])) from_end to_end old (one_placed channel tunnel n from_end to_end now)) count
    (one_more_placed channel before tunnel from_end to_end old now (next_tunnel channel within tunnel old k.apart k.inside k.below k.is) k.placed))
