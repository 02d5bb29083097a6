-- The slots of channels: each is at an end of its channel's tunnels, and no other channel has it.
use Rattle.std.proofs.Common.{◌≡◌, ◌⊎◌, inl, inr, ℕ, zero, suc, ◌+◌, ◌-◌, ◌*◌, ◌/◌, ◌<◌, ◌==◌, ◌&&◌, ◌||◌, Bool, true, false, List, [], ◌∷◌, flat_map, length, length-append, position, slice_index_or, Some, refl, sym, ap, ◌∙◌, subst, arith}
use Rattle.std.proofs.Math.ListN.{get_or}
use Rattle.std.proofs.lemmas.Bool.{cases_lt}
use Rattle.std.proofs.lemmas.Grind.{common_steps}
use Rattle.std.proofs.lemmas.List.{get_or_append_left, get_or-append_right}
use Rattle.std.specs.List.{list_any}
use Rattle.mc_growth.proofs.Lists.{not_true, position_is}
use Rattle.mc_laws.proofs.Numbers.{some_same}
use Rattle.mc_laws.proofs.TunnelPlaces.{within_slots}
use Rattle.mc_model.specs.Worlds.{ChannelState, TunnelPlace, is_place, no_tunnel, places, places_among, places_of, places_within, tunnels_from, tunnels_within}
use Rattle.mc_model.specs.declared.channel.Tunnel.{Tunnel}
use Rattle.mc_plan.proofs.Places.{found_once}
use Rattle.mc_plan.specs.LaidOut.{AreInOrder, place_at}
use Rattle.mc_plan.specs.Plans.{no_channel}
use Rattle.mc_tail.specs.SoFar.{channel_of, has_end}

-- ---- the slots of one channel

abbrev test : (from to who local : ℕ) → Tunnel → Bool
test from to who local tunnel = (from == who && tunnel.from == local) || (to == who && tunnel.to == local)

or_right : (a b : Bool) → b ≡ true → (a || b) ≡ true
or_right true b is = refl
or_right false b is = is

or_left : (a b : Bool) → a ≡ true → (a || b) ≡ true
or_left true b is = refl
or_left false b is = absurd (cc)

same_two : (a b : ℕ) → (a == a && b == b) ≡ true
same_two a b = grind (arith, common_steps)

-- each is at an end of one of its tunnels
end_within : (ends : ChannelState) (tunnels : List Tunnel) (s : ℕ) → s < length (flat_map (places_of ends) tunnels)
    → list_any (test ends.from ends.to (place_at (flat_map (places_of ends) tunnels) s).0 (place_at (flat_map (places_of ends) tunnels) s).1) tunnels ≡ true
end_within ends [] s inside = absurd (omega arith)
end_within ends (tunnel ∷ tunnels) zero inside =
    or_left (test ends.from ends.to ends.from tunnel.from tunnel) (list_any (test ends.from ends.to ends.from tunnel.from) tunnels)
    (or_left (ends.from == ends.from && tunnel.from == tunnel.from) (ends.to == ends.from && tunnel.to == tunnel.from) (same_two ends.from tunnel.from))
end_within ends (tunnel ∷ tunnels) (suc zero) inside =
    or_left (test ends.from ends.to ends.to tunnel.to tunnel) (list_any (test ends.from ends.to ends.to tunnel.to) tunnels)
    (or_right (ends.from == ends.to && tunnel.from == tunnel.to) (ends.to == ends.to && tunnel.to == tunnel.to) (same_two ends.to tunnel.to))
end_within ends (tunnel ∷ tunnels) (suc (suc s)) inside =
    let at = place_at (flat_map (places_of ends) tunnels) s in
    or_right (test ends.from ends.to at.0 at.1 tunnel) (list_any (test ends.from ends.to at.0 at.1) tunnels) (end_within ends tunnels s (omega arith))

-- a slot at a place
record SlotAt (places : List (ℕ × ℕ)) (who local : ℕ) : Type 0 where
  at : ℕ
  inside : at < length places
  box : (place_at places at).0 ≡ who
  number : (place_at places at).1 ≡ local

both_same : (a b c d : ℕ) → (a == b && c == d) ≡ true → (a ≡ b) × (c ≡ d)
both_same a b c d is = (grind (arith, common_steps), grind (arith, common_steps))

-- what is at an end of a tunnel is a slot
slot_within : (ends : ChannelState) (tunnels : List Tunnel) (who local : ℕ) → list_any (test ends.from ends.to who local) tunnels ≡ true → SlotAt (flat_map (places_of ends) tunnels) who local
slot_within ends [] who local is = absurd cc
slot_within ends (tunnel ∷ tunnels) who local is = by (ends.from == who && tunnel.from == local) refl (ends.to == who && tunnel.to == local) refl (slot_within ends tunnels who local)
  where
    by : (near : Bool) → (ends.from == who && tunnel.from == local) ≡ near → (far : Bool) → (ends.to == who && tunnel.to == local) ≡ far
        → (list_any (test ends.from ends.to who local) tunnels ≡ true → SlotAt (flat_map (places_of ends) tunnels) who local) → SlotAt (flat_map (places_of ends) (tunnel ∷ tunnels)) who local
    by true a far b more = let both = both_same ends.from who tunnel.from local a in record { at = 0; inside = omega arith; box = both.0; number = both.1 }
    by false a true b more = let both = both_same ends.to who tunnel.to local b in record { at = 1; inside = omega arith; box = both.0; number = both.1 }
    by false a false b more =
        let rest = more (rw (a, b) at is) in
        record { at = suc (suc rest.at); inside = let within = rest.inside in omega arith; box = rest.box; number = rest.number }

-- ---- the slots of all channels

numbers : (tunnels : List Tunnel) (channel within i : ℕ) → i < length tunnels → (get_or (tunnels_within channel within tunnels) i no_tunnel).channel ≡ channel
numbers [] channel within i below = absurd (omega arith)
numbers (tunnel ∷ tunnels) channel within zero below = refl
numbers (tunnel ∷ tunnels) channel within (suc i) below = numbers tunnels channel (within + 1) i (omega arith)

count_within : (tunnels : List Tunnel) (channel within : ℕ) → length (tunnels_within channel within tunnels) ≡ length tunnels
count_within [] channel within = refl
count_within (tunnel ∷ tunnels) channel within = ap suc (count_within tunnels channel (within + 1))

-- the channel of a slot, where channels are numbered from a number on
abbrev number_at : ℕ → List ChannelState → ℕ → ℕ
number_at first channels s = (get_or (tunnels_from first channels) (s / 2) no_tunnel).channel

half_of : (n s : ℕ) → s < 2 * n → s / 2 < n
half_of n s below = omega arith

half_more : (n r : ℕ) → (2 * n + r) / 2 ≡ n + r / 2
half_more n r = omega arith

-- a slot of the first channel
number_first : (ends : ChannelState) (channels : List ChannelState) (first s : ℕ) → s < 2 * length ends.tunnels → number_at first (ends ∷ channels) s ≡ first
number_first ends channels first s below =
    let half : s / 2 < length ends.tunnels = half_of (length ends.tunnels) s below in
    ap (λ (t : TunnelPlace). t.channel) (get_or_append_left (tunnels_within first 0 ends.tunnels) (tunnels_from (first + 1) channels) no_tunnel (s / 2) (omega (arith, count_within ends.tunnels first 0)))
    ∙ numbers ends.tunnels first 0 (s / 2) half

place_first : (ends : ChannelState) (channels : List ChannelState) (s : ℕ) → s < 2 * length ends.tunnels → place_at (places_among (ends ∷ channels)) s ≡ place_at (places_within ends) s
place_first ends channels s below = get_or_append_left (places_within ends) (places_among channels) (0, 0) s (omega (arith, within_slots ends ends.tunnels))

-- a slot of a later one
number_later : (ends : ChannelState) (channels : List ChannelState) (first r : ℕ) → number_at first (ends ∷ channels) (2 * length ends.tunnels + r) ≡ number_at (first + 1) channels r
number_later ends channels first r =
    ap (λ (n : ℕ). (get_or (tunnels_from first (ends ∷ channels)) n no_tunnel).channel) (half_more (length ends.tunnels) r)
    ∙ ap (λ (t : TunnelPlace). t.channel)
    (get_or-append_right (tunnels_within first 0 ends.tunnels) (tunnels_from (first + 1) channels) (length ends.tunnels) (length ends.tunnels + r / 2) no_tunnel (count_within ends.tunnels first 0) (omega arith))
    ∙ ap (λ (n : ℕ). (get_or (tunnels_from (first + 1) channels) n no_tunnel).channel) (less_back (length ends.tunnels) (r / 2))
  where
    less_back : (n k : ℕ) → n + k - n ≡ k
    less_back n k = omega arith

place_later : (ends : ChannelState) (channels : List ChannelState) (r : ℕ) → place_at (places_among (ends ∷ channels)) (2 * length ends.tunnels + r) ≡ place_at (places_among channels) r
place_later ends channels r =
    get_or-append_right (places_within ends) (places_among channels) (2 * length ends.tunnels) (2 * length ends.tunnels + r) (0, 0) (within_slots ends ends.tunnels) (omega arith)
    ∙ ap (λ (n : ℕ). place_at (places_among channels) n) (less_back (2 * length ends.tunnels) r)
  where
    less_back : (n k : ℕ) → n + k - n ≡ k
    less_back n k = omega arith

-- a slot is at an end of its channel
record EndOf (channels : List ChannelState) (first s : ℕ) : Type 0 where
  at : ℕ
  is : number_at first channels s ≡ first + at
  below : at < length channels
  end : has_end (place_at (places_among channels) s).0 (place_at (places_among channels) s).1 (slice_index_or channels at no_channel) ≡ true

end_of : (channels : List ChannelState) (first s : ℕ) → s < length (places_among channels) → EndOf channels first s
end_of [] first s inside = absurd (omega arith)
end_of (ends ∷ channels) first s inside = elim (cases_lt s (2 * length ends.tunnels)) [
  | inl here ↦ record {
    at = 0;
    is = number_first ends channels first s here ∙ sym (plus_none first);
    below = omega arith;
    end = subst (λ (p : ℕ × ℕ). has_end p.0 p.1 ends ≡ true) (sym (place_first ends channels s here)) (end_within ends ends.tunnels s (omega (arith, within_slots ends ends.tunnels)));
  }
  | inr later ↦
      let r : ℕ = s - 2 * length ends.tunnels in
      let sum : 2 * length ends.tunnels + (s - 2 * length ends.tunnels) ≡ s = omega arith in
      let within : s - 2 * length ends.tunnels < length (places_among channels) = omega (arith, within_slots ends ends.tunnels, length-append (places_within ends) (places_among channels)) in
      let rest = end_of channels (first + 1) (s - 2 * length ends.tunnels) within in
      subst (λ (n : ℕ). EndOf (ends ∷ channels) first n) sum (record {
        at = suc rest.at;
        is = number_later ends channels first r ∙ (rest.is ∙ next_one first rest.at);
        below = let less = rest.below in omega arith;
        end = subst (λ (p : ℕ × ℕ). has_end p.0 p.1 (slice_index_or channels rest.at no_channel) ≡ true) (sym (place_later ends channels r)) rest.end;
      })
]
  where
    plus_none : (n : ℕ) → n + 0 ≡ n
    plus_none n = omega arith

    next_one : (n k : ℕ) → n + 1 + k ≡ n + suc k
    next_one n k = omega arith

-- what is at an end of a channel is a slot of it
record SlotOf (channels : List ChannelState) (first at who local : ℕ) : Type 0 where
  slot : SlotAt (places_among channels) who local
  is : number_at first channels slot.at ≡ first + at

slot_of_end : (channels : List ChannelState) (first at who local : ℕ) → at < length channels → has_end who local (slice_index_or channels at no_channel) ≡ true → SlotOf channels first at who local
slot_of_end [] first at who local below end = absurd (omega arith)
slot_of_end (ends ∷ channels) first zero who local below end =
    let here = slot_within ends ends.tunnels who local end in
    let inside : here.at < 2 * length ends.tunnels = let within = here.inside in omega (arith, within_slots ends ends.tunnels) in
    record {
      slot = record {
        at = here.at;
        inside = omega (arith, within_slots ends ends.tunnels, length-append (places_within ends) (places_among channels));
        box = ap (λ (p : ℕ × ℕ). p.0) (place_first ends channels here.at inside) ∙ here.box;
        number = ap (λ (p : ℕ × ℕ). p.1) (place_first ends channels here.at inside) ∙ here.number;
      };
      is = number_first ends channels first here.at inside ∙ sym (plus_none first);
    }
  where
    plus_none : (n : ℕ) → n + 0 ≡ n
    plus_none n = omega arith
slot_of_end (ends ∷ channels) first (suc at) who local below end =
    let rest = slot_of_end channels (first + 1) at who local (omega arith) end in
    let r = rest.slot.at in
    let inside : rest.slot.at < length (places_among channels) = rest.slot.inside in
    record {
      slot = record {
        at = 2 * length ends.tunnels + rest.slot.at;
        inside = omega (arith, within_slots ends ends.tunnels, length-append (places_within ends) (places_among channels));
        box = ap (λ (p : ℕ × ℕ). p.0) (place_later ends channels r) ∙ rest.slot.box;
        number = ap (λ (p : ℕ × ℕ). p.1) (place_later ends channels r) ∙ rest.slot.number;
      };
      is = number_later ends channels first r ∙ (rest.is ∙ next_one first at);
    }
  where
    next_one : (n k : ℕ) → n + 1 + k ≡ n + suc k
    next_one n k = omega arith

-- ---- each slot is found by its channel

same_slot : (places : List (ℕ × ℕ)) (s t : ℕ) → AreInOrder places → s < length places → t < length places → (place_at places s).0 ≡ (place_at places t).0 → (place_at places s).1 ≡ (place_at places t).1 → s ≡ t
same_slot places s t ordered one two box number =
    some_same s t (sym (found_once places s ordered one)
    ∙ (ap (λ (n : ℕ). position (is_place (n, (place_at places s).1)) places) box
    ∙ (ap (λ (n : ℕ). position (is_place ((place_at places t).0, n)) places) number
    ∙ found_once places t ordered two)))

plus_zero : (n : ℕ) → 0 + n ≡ n
plus_zero n = omega arith

-- the channel of a slot has it at an end
pub end_there : (channels : List ChannelState) (s : ℕ) → s < length (places_among channels)
    → (number_at 0 channels s < length channels) × (has_end (place_at (places_among channels) s).0 (place_at (places_among channels) s).1 (slice_index_or channels (number_at 0 channels s) no_channel) ≡ true)
end_there channels s inside =
    let end = end_of channels 0 s inside in
    let at : number_at 0 channels s ≡ end.at = end.is ∙ plus_zero end.at in (
      subst (λ (n : ℕ). n < length channels) (sym at) end.below,
      subst (λ (n : ℕ). has_end (place_at (places_among channels) s).0 (place_at (places_among channels) s).1 (slice_index_or channels n no_channel) ≡ true) (sym at) end.end,
    )

-- and it is the only one
pub channel_found : (channels : List ChannelState) (s : ℕ) → AreInOrder (places_among channels) → s < length (places_among channels)
    → channel_of channels (place_at (places_among channels) s).0 (place_at (places_among channels) s).1 ≡ Some (number_at 0 channels s)
channel_found channels s ordered inside =
    let there = end_there channels s inside in
    position_is (has_end (place_at (places_among channels) s).0 (place_at (places_among channels) s).1) channels (number_at 0 channels s) no_channel there.0
    (λ k before. not_true (has_end (place_at (places_among channels) s).0 (place_at (places_among channels) s).1 (slice_index_or channels k no_channel)) (λ end.
    let below = there.0 in
    let other = slot_of_end channels 0 k (place_at (places_among channels) s).0 (place_at (places_among channels) s).1 (omega arith) end in
    let same : other.slot.at ≡ s = same_slot (places_among channels) other.slot.at s ordered other.slot.inside inside other.slot.box other.slot.number in
    let number : number_at 0 channels s ≡ 0 + k = ap (λ (n : ℕ). number_at 0 channels n) (sym same) ∙ other.is in
    absurd (omega arith)))
    there.1

-- the box of such a slot is one of the channel's two
pub box_of_end : (who local : ℕ) (ends : ChannelState) → has_end who local ends ≡ true → (ends.from ≡ who) ⊎ (ends.to ≡ who)
box_of_end who local ends end = go ends.tunnels end
  where
    go : (tunnels : List Tunnel) → list_any (test ends.from ends.to who local) tunnels ≡ true → (ends.from ≡ who) ⊎ (ends.to ≡ who)
    go [] is = absurd cc
    go (tunnel ∷ tunnels) is = by (ends.from == who && tunnel.from == local) refl (ends.to == who && tunnel.to == local) refl (go tunnels)
      where
        by : (near : Bool) → (ends.from == who && tunnel.from == local) ≡ near → (far : Bool) → (ends.to == who && tunnel.to == local) ≡ far
            → (list_any (test ends.from ends.to who local) tunnels ≡ true → (ends.from ≡ who) ⊎ (ends.to ≡ who)) → (ends.from ≡ who) ⊎ (ends.to ≡ who)
        by true a far b more = inl (both_same ends.from who tunnel.from local a).0
        by false a true b more = inr (both_same ends.to who tunnel.to local b).0
        by false a false b more = more (rw (a, b) at is)
