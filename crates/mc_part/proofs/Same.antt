-- A box has the same slots in its part as in the world.
use Rattle.std.proofs.Common.{◌≡◌, ◌<◌, ◌+◌, ◌/◌, ◌%◌, ◌&&◌, ◌⊎◌, inl, inr, not, if◌then◌else◌, Bool, true, false, ℕ, zero, suc, Option, Some, None, List, length, get_or, position, refl, ap, ap₂, sym, ◌∙◌, subst, arith, true≢false, eq-eqb, eqb-true}
use Rattle.std.proofs.lemmas.Option.{none-some, same_Some}
use Rattle.std.specs.List.{slice_get}
use Rattle.mc_model.specs.Worlds.{ChannelState, is_place, no_tunnel, places_among, tunnels_from}
use Rattle.mc_model.specs.declared.channel.Tunnel.{Tunnel}
use Rattle.mc_part.specs.Divisions.{channels_in, home_at, is_part, members, part_of, place_in}
use Rattle.mc_part.proofs.Members.{home_apart, home_inside}
use Rattle.mc_part.proofs.Numbers.{AreWhole, HasSlot, IsHere, box_on, end_inside, found_place, has_slot, is_here, local_on, one_slot, position_is, same_place, side_low, slot_placed, world_number}
use Rattle.mc_part.proofs.Placed.{Touches, place_apart, touch_on}
use Rattle.mc_part.proofs.Slots.{Standing, end_on, slot_on, standing}

-- ---- an end that is here, and one that isn't

pub either : (b : Bool) → (b ≡ true) ⊎ (b ≡ false)
either true = inl refl
either false = inr refl

pub chosen : (b : Bool) (x y : ℕ) → b ≡ true → (if b then x else y) ≡ x
chosen true x y is = refl
chosen false x y is = absurd (true≢false (sym is))

pub other_one : (b : Bool) (x y : ℕ) → b ≡ false → (if b then x else y) ≡ y
other_one true x y is = absurd (true≢false is)
other_one false x y is = refl

-- the home of a box of the part
home_of : (assigned : List ℕ) (part who : ℕ) → who < length assigned → part_of assigned who ≡ part → (home_at assigned who).1 < length (members assigned part)
home_of assigned part who inside is = subst (λ (p : ℕ). (home_at assigned who).1 < length (members assigned p)) is (home_inside assigned who inside)

below_past : (a n m : ℕ) → a < n → a ≡ n + m → n < n
below_past a n m below is = absurd (omega arith)

touch_none : (x y : Bool) → ((if x then not y else y) ≡ true) ⊎ ((x && y) ≡ true) → x ≡ false → y ≡ false → true ≡ false
touch_none true y touches one two = one
touch_none false true touches one two = two
touch_none false false (inl is) one two = sym is
touch_none false false (inr is) one two = sym is

-- one end alone of a channel that touches the part isn't there
one_away : (assigned : List ℕ) (part a b : ℕ) (channel : ChannelState) → Touches assigned part channel → a < 2 → b < 2
    → is_part part (part_of assigned (end_on a channel)) ≡ false → is_part part (part_of assigned (end_on b channel)) ≡ false → a ≡ b
one_away assigned part zero zero channel touches low_a low_b one two = refl
one_away assigned part zero (suc zero) channel touches low_a low_b one two = absurd (true≢false (touch_none (is_part part (part_of assigned channel.from)) (is_part part (part_of assigned channel.to)) touches one two))
one_away assigned part zero (suc (suc b)) channel touches low_a low_b one two = absurd (omega arith)
one_away assigned part (suc zero) zero channel touches low_a low_b one two = absurd (true≢false (touch_none (is_part part (part_of assigned channel.from)) (is_part part (part_of assigned channel.to)) touches two one))
one_away assigned part (suc zero) (suc zero) channel touches low_a low_b one two = refl
one_away assigned part (suc zero) (suc (suc b)) channel touches low_a low_b one two = absurd (omega arith)
one_away assigned part (suc (suc a)) b channel touches low_a low_b one two = absurd (omega arith)

-- ---- slots of a part are all different

same_sums : (n a b : ℕ) → n + a ≡ n + b → a ≡ b
same_sums n a b same = omega arith

-- two boxes of a part with one number there
same_box : (assigned : List ℕ) (part who other : ℕ) → who < length assigned → other < length assigned → part_of assigned who ≡ part → part_of assigned other ≡ part
    → (home_at assigned who).1 ≡ (home_at assigned other).1 → who ≡ other
same_box assigned part who other one two first second same =
    home_apart assigned who other one two (same_place (home_at assigned who) (home_at assigned other) (first ∙ sym second) same)

-- two slots of the world at one place
record AreOne (c d t u a b : ℕ) : Type 0 where
  channel : c ≡ d
  within : t ≡ u
  side : a ≡ b

are_one : (assigned : List ℕ) (channels : List ChannelState) (c d t u a b : ℕ) (channel other : ChannelState) (tunnel next : Tunnel) → AreWhole assigned channels → a < 2 → b < 2
    → slice_get channels c ≡ Some channel → slice_get channel.tunnels t ≡ Some tunnel → slice_get channels d ≡ Some other → slice_get other.tunnels u ≡ Some next
    → end_on a channel ≡ end_on b other → slot_on a tunnel ≡ slot_on b next → AreOne c d t u a b
are_one assigned channels c d t u a b channel other tunnel next whole low_a low_b at has at_2 has_2 box slot =
    let one : HasSlot channels c t a (end_on a channel, slot_on a tunnel) = has_slot channels c t a channel tunnel low_a at has in
    let two : HasSlot channels d u b (end_on b other, slot_on b next) = has_slot channels d u b other next low_b at_2 has_2 in
    let place : (end_on b other, slot_on b next) ≡ (end_on a channel, slot_on a tunnel) = ap₂ (λ (p q : ℕ). (p, q)) (sym box) (sym slot) in
    let same : one.s ≡ two.s = same_Some one.s two.s
    (sym (world_number assigned channels one.s (end_on a channel, slot_on a tunnel) whole one.inside one.place)
    ∙ world_number assigned channels two.s (end_on a channel, slot_on a tunnel) whole two.inside (two.place ∙ place)) in
    record {
      channel = sym one.channel ∙ (ap (λ (n : ℕ). (get_or (tunnels_from 0 channels) (n / 2) no_tunnel).channel) same ∙ two.channel);
      within = sym one.within ∙ (ap (λ (n : ℕ). (get_or (tunnels_from 0 channels) (n / 2) no_tunnel).within) same ∙ two.within);
      side = sym one.side_is ∙ (ap (λ (n : ℕ). n % 2) same ∙ two.side_is);
    }

pub slots_apart : (assigned : List ℕ) (channels : List ChannelState) (part s r : ℕ) → AreWhole assigned channels
    → s < length (places_among (channels_in assigned channels part)) → r < length (places_among (channels_in assigned channels part))
    → get_or (places_among (channels_in assigned channels part)) s (0, 0) ≡ get_or (places_among (channels_in assigned channels part)) r (0, 0) → s ≡ r
slots_apart assigned channels part s r whole in_s in_r same =
    let one : IsHere assigned channels part s = is_here assigned channels part s in_s in
    let two : IsHere assigned channels part r = is_here assigned channels part r in_r in
    let n : ℕ = length (members assigned part) in
    let box : box_on assigned part (n + place_in assigned channels part one.c) (s % 2) one.channel ≡ box_on assigned part (n + place_in assigned channels part two.c) (r % 2) two.channel =
    sym one.box_is ∙ (ap (λ (p : ℕ × ℕ). p.0) same ∙ two.box_is) in
    let local : local_on assigned part (s % 2) one.channel one.t one.tunnel ≡ local_on assigned part (r % 2) two.channel two.t two.tunnel =
    sym one.local_is ∙ (ap (λ (p : ℕ × ℕ). p.1) same ∙ two.local_is) in
    let e : ℕ = end_on (s % 2) one.channel in
    let f : ℕ = end_on (r % 2) two.channel in
    let in_e : e < length assigned = end_inside assigned channels one.c one.t (s % 2) one.channel one.tunnel whole (side_low s) one.at one.has in
    let in_f : f < length assigned = end_inside assigned channels two.c two.t (r % 2) two.channel two.tunnel whole (side_low r) two.at two.has in
    let ends : AreOne one.c two.c one.t two.t (s % 2) (r % 2) → s ≡ r =
    (λ (are : AreOne one.c two.c one.t two.t (s % 2) (r % 2)). one_slot (channels_in assigned channels part) s r in_s in_r
    (one.channel_is ∙ (ap (place_in assigned channels part) are.channel ∙ sym two.channel_is)) (one.within_is ∙ (are.within ∙ sym two.within_is)) are.side) in
    elim (either (is_part part (part_of assigned e))) [
      | inl here ↦ elim (either (is_part part (part_of assigned f))) [
        | inl there ↦
            let part_e : part_of assigned e ≡ part = eqb-true (part_of assigned e) part here in
            let part_f : part_of assigned f ≡ part = eqb-true (part_of assigned f) part there in
            let homes : (home_at assigned e).1 ≡ (home_at assigned f).1 =
            sym (chosen (is_part part (part_of assigned e)) (home_at assigned e).1 (n + place_in assigned channels part one.c) here)
            ∙ (box ∙ chosen (is_part part (part_of assigned f)) (home_at assigned f).1 (n + place_in assigned channels part two.c) there) in
            let slots : slot_on (s % 2) one.tunnel ≡ slot_on (r % 2) two.tunnel =
            sym (chosen (is_part part (part_of assigned e)) (slot_on (s % 2) one.tunnel) one.t here)
            ∙ (local ∙ chosen (is_part part (part_of assigned f)) (slot_on (r % 2) two.tunnel) two.t there) in
            ends (are_one assigned channels one.c two.c one.t two.t (s % 2) (r % 2) one.channel two.channel one.tunnel two.tunnel whole (side_low s) (side_low r) one.at one.has two.at two.has
            (same_box assigned part e f in_e in_f part_e part_f homes) slots)
        | inr there ↦
            let part_e : part_of assigned e ≡ part = eqb-true (part_of assigned e) part here in
            let low = home_of assigned part e in_e part_e in
            let high : (home_at assigned e).1 ≡ n + place_in assigned channels part two.c =
            sym (chosen (is_part part (part_of assigned e)) (home_at assigned e).1 (n + place_in assigned channels part one.c) here)
            ∙ (box ∙ other_one (is_part part (part_of assigned f)) (home_at assigned f).1 (n + place_in assigned channels part two.c) there) in
            absurd (omega (arith, below_past (home_at assigned e).1 n (place_in assigned channels part two.c) low high))
      ]
      | inr here ↦ elim (either (is_part part (part_of assigned f))) [
        | inl there ↦
            let part_f : part_of assigned f ≡ part = eqb-true (part_of assigned f) part there in
            let low = home_of assigned part f in_f part_f in
            let high : (home_at assigned f).1 ≡ n + place_in assigned channels part one.c =
            sym (chosen (is_part part (part_of assigned f)) (home_at assigned f).1 (n + place_in assigned channels part two.c) there)
            ∙ (sym box ∙ other_one (is_part part (part_of assigned e)) (home_at assigned e).1 (n + place_in assigned channels part one.c) here) in
            absurd (omega (arith, below_past (home_at assigned f).1 n (place_in assigned channels part one.c) low high))
        | inr there ↦
            let holders : place_in assigned channels part one.c ≡ place_in assigned channels part two.c = same_sums n (place_in assigned channels part one.c) (place_in assigned channels part two.c)
            (sym (other_one (is_part part (part_of assigned e)) (home_at assigned e).1 (n + place_in assigned channels part one.c) here)
            ∙ (box ∙ other_one (is_part part (part_of assigned f)) (home_at assigned f).1 (n + place_in assigned channels part two.c) there)) in
            let channel : one.c ≡ two.c = place_apart assigned channels part one.c two.c one.channel two.channel one.at two.at one.touches two.touches holders in
            let is : two.channel ≡ one.channel = same_Some two.channel one.channel (sym two.at ∙ (ap (λ (k : ℕ). slice_get channels k) (sym channel) ∙ one.at)) in
            let within : one.t ≡ two.t =
            sym (other_one (is_part part (part_of assigned e)) (slot_on (s % 2) one.tunnel) one.t here)
            ∙ (local ∙ other_one (is_part part (part_of assigned f)) (slot_on (r % 2) two.tunnel) two.t there) in
            let away : is_part part (part_of assigned (end_on (r % 2) one.channel)) ≡ false = subst (λ (x : ChannelState). is_part part (part_of assigned (end_on (r % 2) x)) ≡ false) is there in
            ends (record { channel = channel; within = within; side = one_away assigned part (s % 2) (r % 2) one.channel one.touches (side_low s) (side_low r) here away })
      ]
    ]

-- so a slot is found by its place
pub here_number : (assigned : List ℕ) (channels : List ChannelState) (part s : ℕ) (at : ℕ × ℕ) → AreWhole assigned channels
    → s < length (places_among (channels_in assigned channels part)) → get_or (places_among (channels_in assigned channels part)) s (0, 0) ≡ at
    → position (is_place at) (places_among (channels_in assigned channels part)) ≡ Some s
here_number assigned channels part s at whole inside is =
    position_is (places_among (channels_in assigned channels part)) at s inside is (λ r below there. slots_apart assigned channels part r s whole below inside (there ∙ sym is))

-- ---- a box's slots

-- a slot of the world, and the same slot in the part
pub record AreSame (assigned : List ℕ) (channels : List ChannelState) (part who local : ℕ) : Type 0 where
  pub s : ℕ
  pub r : ℕ
  pub is : position (is_place (who, local)) (places_among channels) ≡ Some s
  pub there : position (is_place ((home_at assigned who).1, local)) (places_among (channels_in assigned channels part)) ≡ Some r
  pub c : ℕ
  pub channel : ChannelState
  pub at : slice_get channels c ≡ Some channel
  pub touches : Touches assigned part channel
  pub channel_is : (get_or (tunnels_from 0 channels) (s / 2) no_tunnel).channel ≡ c
  pub channel_there : (get_or (tunnels_from 0 (channels_in assigned channels part)) (r / 2) no_tunnel).channel ≡ place_in assigned channels part c
  pub within : (get_or (tunnels_from 0 (channels_in assigned channels part)) (r / 2) no_tunnel).within ≡ (get_or (tunnels_from 0 channels) (s / 2) no_tunnel).within
  pub side : r % 2 ≡ s % 2

-- or none in either
pub record AreNone (assigned : List ℕ) (channels : List ChannelState) (part who local : ℕ) : Type 0 where
  pub is : position (is_place (who, local)) (places_among channels) ≡ None
  pub there : position (is_place ((home_at assigned who).1, local)) (places_among (channels_in assigned channels part)) ≡ None

no_less : (c : ℕ) → 0 + c ≡ c
no_less c = omega arith

are_same : (assigned : List ℕ) (channels : List ChannelState) (part who local s : ℕ) → AreWhole assigned channels → part_of assigned who ≡ part
    → position (is_place (who, local)) (places_among channels) ≡ Some s → AreSame assigned channels part who local
are_same assigned channels part who local s whole of is =
    let found = found_place (places_among channels) (who, local) s is in
    let on : Standing channels 0 s = standing channels 0 s found.0 in
    let place : (end_on (s % 2) on.stands.channel, slot_on (s % 2) on.stands.tunnel) ≡ (who, local) = sym on.stands.place ∙ found.1 in
    let box : end_on (s % 2) on.stands.channel ≡ who = ap (λ (p : ℕ × ℕ). p.0) place in
    let slot : slot_on (s % 2) on.stands.tunnel ≡ local = ap (λ (p : ℕ × ℕ). p.1) place in
    let here : part_of assigned (end_on (s % 2) on.stands.channel) ≡ part = ap (part_of assigned) box ∙ of in
    let touches : Touches assigned part on.stands.channel = touch_on assigned part (s % 2) on.stands.channel here in
    let test : is_part part (part_of assigned (end_on (s % 2) on.stands.channel)) ≡ true = eq-eqb (part_of assigned (end_on (s % 2) on.stands.channel)) part here in
    let holder : ℕ = length (members assigned part) + place_in assigned channels part on.c in
    let placed : HasSlot (channels_in assigned channels part) (place_in assigned channels part on.c) on.t (s % 2)
    (box_on assigned part holder (s % 2) on.stands.channel, local_on assigned part (s % 2) on.stands.channel on.t on.stands.tunnel) =
    slot_placed assigned channels part on.c on.t (s % 2) on.stands.channel on.stands.tunnel (side_low s) on.stands.at touches on.stands.has in
    let at : (box_on assigned part holder (s % 2) on.stands.channel, local_on assigned part (s % 2) on.stands.channel on.t on.stands.tunnel) ≡ ((home_at assigned who).1, local) =
    same_place (box_on assigned part holder (s % 2) on.stands.channel, local_on assigned part (s % 2) on.stands.channel on.t on.stands.tunnel) ((home_at assigned who).1, local)
    (chosen (is_part part (part_of assigned (end_on (s % 2) on.stands.channel))) (home_at assigned (end_on (s % 2) on.stands.channel)).1 holder test ∙ ap (λ (w : ℕ). (home_at assigned w).1) box)
    (chosen (is_part part (part_of assigned (end_on (s % 2) on.stands.channel))) (slot_on (s % 2) on.stands.tunnel) on.t test ∙ slot) in
    record {
      s = s;
      r = placed.s;
      is = is;
      there = here_number assigned channels part placed.s ((home_at assigned who).1, local) whole placed.inside (placed.place ∙ at);
      c = on.c;
      channel = on.stands.channel;
      at = on.stands.at;
      touches = touches;
      channel_is = on.stands.channel_is ∙ no_less on.c;
      channel_there = placed.channel;
      within = placed.within ∙ sym on.stands.within_is;
      side = placed.side_is;
    }

-- what is a slot in the part is one in the world
is_some_slot : (assigned : List ℕ) (channels : List ChannelState) (part who local r : ℕ) → AreWhole assigned channels → who < length assigned → part_of assigned who ≡ part
    → position (is_place ((home_at assigned who).1, local)) (places_among (channels_in assigned channels part)) ≡ Some r
    → (s : ℕ) × (position (is_place (who, local)) (places_among channels) ≡ Some s)
is_some_slot assigned channels part who local r whole inside of is =
    let found = found_place (places_among (channels_in assigned channels part)) ((home_at assigned who).1, local) r is in
    let one : IsHere assigned channels part r = is_here assigned channels part r found.0 in
    let n : ℕ = length (members assigned part) in
    let e : ℕ = end_on (r % 2) one.channel in
    let in_e : e < length assigned = end_inside assigned channels one.c one.t (r % 2) one.channel one.tunnel whole (side_low r) one.at one.has in
    let box : (home_at assigned who).1 ≡ box_on assigned part (n + place_in assigned channels part one.c) (r % 2) one.channel = sym (ap (λ (p : ℕ × ℕ). p.0) found.1) ∙ one.box_is in
    let slot : local ≡ local_on assigned part (r % 2) one.channel one.t one.tunnel = sym (ap (λ (p : ℕ × ℕ). p.1) found.1) ∙ one.local_is in
    elim (either (is_part part (part_of assigned e))) [
      | inl here ↦
          let part_e : part_of assigned e ≡ part = eqb-true (part_of assigned e) part here in
          let same : e ≡ who = same_box assigned part e who in_e inside part_e of
          (sym (box ∙ chosen (is_part part (part_of assigned e)) (home_at assigned e).1 (n + place_in assigned channels part one.c) here)) in
          let slot_is : slot_on (r % 2) one.tunnel ≡ local = sym (slot ∙ chosen (is_part part (part_of assigned e)) (slot_on (r % 2) one.tunnel) one.t here) in
          let base : HasSlot channels one.c one.t (r % 2) (end_on (r % 2) one.channel, slot_on (r % 2) one.tunnel) = has_slot channels one.c one.t (r % 2) one.channel one.tunnel (side_low r) one.at one.has in
          (base.s, world_number assigned channels base.s (who, local) whole base.inside (base.place ∙ ap₂ (λ (p q : ℕ). (p, q)) same slot_is))
      | inr here ↦
          let low = home_of assigned part who inside of in
          let high = box ∙ other_one (is_part part (part_of assigned e)) (home_at assigned e).1 (n + place_in assigned channels part one.c) here in
          absurd (omega (arith, below_past (home_at assigned who).1 n (place_in assigned channels part one.c) low high))
    ]

none_or : (o : Option ℕ) → (o ≡ None) ⊎ ((s : ℕ) × (o ≡ Some s))
none_or None = inl refl
none_or (Some s) = inr (s, refl)

pub same_slots : (assigned : List ℕ) (channels : List ChannelState) (part who local : ℕ) → AreWhole assigned channels → who < length assigned → part_of assigned who ≡ part
    → AreNone assigned channels part who local ⊎ AreSame assigned channels part who local
same_slots assigned channels part who local whole inside of = elim (none_or (position (is_place (who, local)) (places_among channels))) [
  | inl none ↦ elim (none_or (position (is_place ((home_at assigned who).1, local)) (places_among (channels_in assigned channels part)))) [
    | inl there ↦ inl (record { is = none; there = there })
    | inr some ↦
        let slot = is_some_slot assigned channels part who local some.0 whole inside of some.1 in
        absurd (none-some slot.0 (sym none ∙ slot.1))
  ]
  | inr some ↦ inr (are_same assigned channels part who local some.0 whole of some.1)
]
