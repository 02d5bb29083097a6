-- In a part each slot of a box, and of a place holder, has one number.
use Rattle.std.proofs.Common.{◌≡◌, ◌<◌, ◌≤◌, ◌+◌, ◌-◌, ◌%◌, ◌==◌, ◌&&◌, ◌⊎◌, inl, inr, not, if◌then◌else◌, Bool, true, false, filter, ℕ, Some, List, length, get_or, nat_lt, position, lt-ltb, le-ltb, refl, ap, ap₂, sym, ◌∙◌, subst, arith, true≢false, eqb-true}
use Rattle.std.proofs.lemmas.Bool.{cases_lt}
use Rattle.std.proofs.lemmas.List.{get_or-map}
use Rattle.std.proofs.lemmas.Option.{get_or_from_slice_get, none-some, slice_get-get_or, slice_get_within}
use Rattle.std.specs.List.{slice_get}
use Rattle.mc_merge.specs.Lanes.{absent_channel}
use Rattle.mc_signal.specs.declared.Medium.TheVariants.{Audio}
use Rattle.mc_box.specs.Boxes.{BoxState, no_box}
use Rattle.mc_box.specs.declared.limit.TheConstants.{SLOT_LIMIT}
use Rattle.mc_model.specs.Sound.{IsNumbered}
use Rattle.mc_model.specs.Worlds.{AreChannels, ChannelState, WorldState, box_at, is_place, places_among}
use Rattle.mc_model.specs.declared.channel.Tunnel.{Tunnel}
use Rattle.mc_merge.specs.Account.{PartState, part_box}
use Rattle.mc_part.specs.DivisionLaws.{AreFull, DivisionsHaveNumbers, homes_in, slots_at}
use Rattle.mc_part.specs.Divisions.{IsDivided, channels_in, is_crossing, home_at, is_part, members, part_of, place_in, rank, touching}
use Rattle.mc_part.proofs.Layouts.{box_count}
use Rattle.mc_part.proofs.Leads.{IsCrossing, far_is_away, far_side_of, crossing_at, tunnels_of_channel}
use Rattle.mc_part.proofs.Members.{IsMember, home_inside, member_at, member_here}
use Rattle.mc_part.proofs.Numbers.{AreWhole, HasSlot, IsHere, are_whole, box_on, end_inside, found_place, has_slot, is_here, local_on, side_low, slot_placed, world_number}
use Rattle.mc_part.proofs.Placed.{Touches, crossing_below, place_found, place_of_crossing}
use Rattle.mc_part.proofs.Same.{chosen, either, here_number, other_one, same_slots}
use Rattle.mc_part.proofs.Slots.{end_on, slot_on}

-- ---- how many slots a box or a place holder has

minus_sum : (n k : ℕ) → (n + k) - n ≡ k
minus_sum n k = omega arith

pub slots_here : (world : WorldState) (assigned : List ℕ) (part at : ℕ) → at < length (members assigned part) → slots_at world assigned part at ≡ length (box_at world (get_or (members assigned part) at 0)).slots
slots_here world assigned part at below =
    chosen (nat_lt at (length (members assigned part))) (length (box_at world (get_or (members assigned part) at 0)).slots)
    (length (get_or (touching assigned world.channels part) (at - length (members assigned part)) absent_channel).tunnels) (lt-ltb at (length (members assigned part)) below)

pub slots_away : (world : WorldState) (assigned : List ℕ) (part at k : ℕ) (channel : ChannelState) → at ≡ length (members assigned part) + k → slice_get (touching assigned world.channels part) k ≡ Some channel
    → slots_at world assigned part at ≡ length channel.tunnels
slots_away world assigned part at k channel is there =
    let n : ℕ = length (members assigned part) in
    other_one (nat_lt at n) (length (box_at world (get_or (members assigned part) at 0)).slots) (length (get_or (touching assigned world.channels part) (at - n) absent_channel).tunnels)
    (le-ltb at n (omega (arith, is)))
    ∙ (ap (λ (m : ℕ). length (get_or (touching assigned world.channels part) (m - n) absent_channel).tunnels) is
    ∙ (ap (λ (m : ℕ). length (get_or (touching assigned world.channels part) m absent_channel).tunnels) (minus_sum n k)
    ∙ ap (λ (e : ChannelState). length e.tunnels) (get_or_from_slice_get (touching assigned world.channels part) k channel absent_channel there)))

-- ---- where a slot stands

-- a channel of which one end isn't in the part crosses
crosses_by : (x y b : Bool) → ((if x then not y else y) ≡ true) ⊎ ((x && y) ≡ true) → (if b then x else y) ≡ false → (if x then not y else y) ≡ true
crosses_by x y b (inl is) away = is
crosses_by true true true (inr is) away = absurd (true≢false away)
crosses_by true true false (inr is) away = absurd (true≢false away)
crosses_by true false b (inr is) away = absurd (true≢false (sym is))
crosses_by false true b (inr is) away = absurd (true≢false (sym is))
crosses_by false false b (inr is) away = absurd (true≢false (sym is))

away_crosses : (assigned : List ℕ) (part side : ℕ) (channel : ChannelState) → Touches assigned part channel → is_part part (part_of assigned (end_on side channel)) ≡ false → is_crossing assigned part channel ≡ true
away_crosses assigned part side channel touches away = away_on (side == 0) away where
  away_on : (b : Bool) → is_part part (part_of assigned (if b then channel.from else channel.to)) ≡ false → is_crossing assigned part channel ≡ true
  away_on true is = crosses_by (is_part part (part_of assigned channel.from)) (is_part part (part_of assigned channel.to)) true touches is
  away_on false is = crosses_by (is_part part (part_of assigned channel.from)) (is_part part (part_of assigned channel.to)) false touches is

record IsInside (world : WorldState) (assigned : List ℕ) (part at local : ℕ) : Type 0 where
  home : at < homes_in world assigned part
  slot : local < slots_at world assigned part at

less_more : (a n m : ℕ) → a < n → a < n + m
less_more a n m below = omega arith

sum_less : (n k m : ℕ) → k < m → n + k < n + m
sum_less n k m below = omega arith

is_inside : (world : WorldState) (assigned : List ℕ) (part s : ℕ) → IsNumbered world → length assigned ≡ length world.boxes → s < length (places_among (channels_in assigned world.channels part))
    → IsInside world assigned part (get_or (places_among (channels_in assigned world.channels part)) s (0, 0)).0 (get_or (places_among (channels_in assigned world.channels part)) s (0, 0)).1
is_inside world assigned part s numbered each inside =
    let channels : List ChannelState = world.channels in
    let whole : AreWhole assigned channels = are_whole world assigned numbered each in
    let one : IsHere assigned channels part s = is_here assigned channels part s inside in
    let n : ℕ = length (members assigned part) in
    let e : ℕ = end_on (s % 2) one.channel in
    let in_e : e < length assigned = end_inside assigned channels one.c one.t (s % 2) one.channel one.tunnel whole (side_low s) one.at one.has in
    elim (either (is_part part (part_of assigned e))) [
      | inl here ↦
          let of : part_of assigned e ≡ part = eqb-true (part_of assigned e) part here in
          let box : (get_or (places_among (channels_in assigned channels part)) s (0, 0)).0 ≡ (home_at assigned e).1 =
          one.box_is ∙ chosen (is_part part (part_of assigned e)) (home_at assigned e).1 (n + place_in assigned channels part one.c) here in
          let local : (get_or (places_among (channels_in assigned channels part)) s (0, 0)).1 ≡ slot_on (s % 2) one.tunnel =
          one.local_is ∙ chosen (is_part part (part_of assigned e)) (slot_on (s % 2) one.tunnel) one.t here in
          let low : (home_at assigned e).1 < n = subst (λ (p : ℕ). (home_at assigned e).1 < length (members assigned p)) of (home_inside assigned e in_e) in
          let base : HasSlot channels one.c one.t (s % 2) (e, slot_on (s % 2) one.tunnel) = has_slot channels one.c one.t (s % 2) one.channel one.tunnel (side_low s) one.at one.has in
          let slot : slot_on (s % 2) one.tunnel < length (box_at world e).slots = subst (λ (p : ℕ × ℕ). p.1 < length (box_at world p.0).slots) base.place (numbered.slots base.s base.inside) in
          let found : slice_get (members assigned part) (home_at assigned e).1 ≡ Some e =
          ap (λ (p : ℕ). slice_get (members assigned part) (rank (is_part p) e assigned)) of ∙ member_at assigned part e in_e of in
          let member : get_or (members assigned part) (home_at assigned e).1 0 ≡ e = get_or_from_slice_get (members assigned part) (home_at assigned e).1 e 0 found in
          let count : slots_at world assigned part (home_at assigned e).1 ≡ length (box_at world e).slots = slots_here world assigned part (home_at assigned e).1 low ∙ ap (λ (w : ℕ). length (box_at world w).slots) member in
          record {
            home = subst (λ (m : ℕ). m < homes_in world assigned part) (sym box) (less_more (home_at assigned e).1 n (length (filter (is_crossing assigned part) channels)) low);
            slot = subst (λ (m : ℕ). (get_or (places_among (channels_in assigned channels part)) s (0, 0)).1 < slots_at world assigned part m) (sym box)
                (subst (λ (m : ℕ). m < slots_at world assigned part (home_at assigned e).1) (sym local)
                (subst (λ (m : ℕ). slot_on (s % 2) one.tunnel < m) (sym count) slot));
          }
      | inr here ↦
          let passes : is_crossing assigned part one.channel ≡ true = away_crosses assigned part (s % 2) one.channel one.touches here in
          let k : ℕ = place_in assigned channels part one.c in
          let box : (get_or (places_among (channels_in assigned channels part)) s (0, 0)).0 ≡ n + k =
          one.box_is ∙ other_one (is_part part (part_of assigned e)) (home_at assigned e).1 (n + place_in assigned channels part one.c) here in
          let local : (get_or (places_among (channels_in assigned channels part)) s (0, 0)).1 ≡ one.t =
          one.local_is ∙ other_one (is_part part (part_of assigned e)) (slot_on (s % 2) one.tunnel) one.t here in
          let low : k < length (filter (is_crossing assigned part) channels) =
          subst (λ (m : ℕ). m < length (filter (is_crossing assigned part) channels)) (sym (place_of_crossing assigned channels part one.c one.channel one.at passes)) (crossing_below assigned channels part one.c one.channel one.at passes) in
          let count : slots_at world assigned part (n + k) ≡ length one.channel.tunnels =
          slots_away world assigned part (n + k) k one.channel refl (place_found assigned channels part one.c one.channel one.at one.touches) in
          record {
            home = subst (λ (m : ℕ). m < homes_in world assigned part) (sym box) (sum_less n k (length (filter (is_crossing assigned part) channels)) low);
            slot = subst (λ (m : ℕ). (get_or (places_among (channels_in assigned channels part)) s (0, 0)).1 < slots_at world assigned part m) (sym box)
                (subst (λ (m : ℕ). m < slots_at world assigned part (n + k)) (sym local)
                (subst (λ (m : ℕ). one.t < m) (sym count) (slice_get_within one.channel.tunnels one.t one.tunnel one.has)));
          }
    ]

-- ---- each has its slot

-- what stands where no tunnel is
abbrev no_tunnel_there : Tunnel
no_tunnel_there = record { medium = Audio; from = 0; to = 0 }

-- the slot of a place
record StandsAt (assigned : List ℕ) (channels : List ChannelState) (part at local : ℕ) : Type 0 where
  s : ℕ
  inside : s < length (places_among (channels_in assigned channels part))
  is : get_or (places_among (channels_in assigned channels part)) s (0, 0) ≡ (at, local)

box_slot : (world : WorldState) (assigned : List ℕ) (part at local : ℕ) → IsNumbered world → length assigned ≡ length world.boxes → at < length (members assigned part)
    → local < slots_at world assigned part at → StandsAt assigned world.channels part at local
box_slot world assigned part at local numbered each below slot =
    let channels : List ChannelState = world.channels in
    let whole : AreWhole assigned channels = are_whole world assigned numbered each in
    let who : ℕ = get_or (members assigned part) at 0 in
    let member : IsMember assigned part at who = member_here assigned part at below in
    let in_box : local < length (box_at world who).slots = subst (λ (m : ℕ). local < m) (slots_here world assigned part at below) slot in
    let base = numbered.all who local (subst (λ (n : ℕ). who < n) each member.inside) in_box in
    let number : position (is_place (who, local)) (places_among channels) ≡ Some base.0 = world_number assigned channels base.0 (who, local) whole base.1 base.2 in
    elim (same_slots assigned channels part who local whole member.inside member.part_is) [
      | inl none ↦ absurd (none-some base.0 (sym none.is ∙ number))
      | inr same ↦
          let found = found_place (places_among (channels_in assigned channels part)) ((home_at assigned who).1, local) same.r same.there in
          record { s = same.r; inside = found.0; is = found.1 ∙ ap (λ (p : ℕ × ℕ). (p.1, local)) member.home }
    ]

side_of : (starts : Bool) → far_side_of starts < 2
side_of true = omega arith
side_of false = omega arith

holder_slot : (world : WorldState) (assigned : List ℕ) (part at k local : ℕ) → at ≡ length (members assigned part) + k → k < length (filter (is_crossing assigned part) world.channels)
    → local < slots_at world assigned part at → StandsAt assigned world.channels part at local
holder_slot world assigned part at k local is below slot =
    let channels : List ChannelState = world.channels in
    let n : ℕ = length (members assigned part) in
    let one : IsCrossing assigned channels part k = crossing_at assigned channels part k below in
    let starts : Bool = is_part part (part_of assigned one.channel.from) in
    let side : ℕ = far_side_of starts in
    let inside : local < length one.channel.tunnels = subst (λ (m : ℕ). local < m) (slots_away world assigned part at k one.channel is one.touching_is) slot in
    let tunnel : Tunnel = get_or one.channel.tunnels local no_tunnel_there in
    let has : slice_get one.channel.tunnels local ≡ Some tunnel = slice_get-get_or one.channel.tunnels local no_tunnel_there inside in
    let away : is_part part (part_of assigned (end_on side one.channel)) ≡ false = far_is_away assigned part one.channel starts refl one.passes in
    let found : HasSlot (channels_in assigned channels part) (place_in assigned channels part one.of.c) local side
    (box_on assigned part (n + place_in assigned channels part one.of.c) side one.channel, local_on assigned part side one.channel local tunnel) =
    slot_placed assigned channels part one.of.c local side one.channel tunnel (side_of starts) one.of.at one.of.touches has in
    record {
      s = found.s;
      inside = found.inside;
      is = found.place ∙ ap₂ (λ (p q : ℕ). (p, q))
          (other_one (is_part part (part_of assigned (end_on side one.channel))) (home_at assigned (end_on side one.channel)).1 (n + place_in assigned channels part one.of.c) away
          ∙ (ap (λ (m : ℕ). n + m) one.of.place_is ∙ sym is))
          (other_one (is_part part (part_of assigned (end_on side one.channel))) (slot_on side tunnel) local away);
    }

each_stands : (world : WorldState) (assigned : List ℕ) (part at local : ℕ) → IsNumbered world → length assigned ≡ length world.boxes → at < homes_in world assigned part
    → local < slots_at world assigned part at → StandsAt assigned world.channels part at local
each_stands world assigned part at local numbered each below slot =
    let n : ℕ = length (members assigned part) in
    elim (cases_lt at n) [
      | inl here ↦ box_slot world assigned part at local numbered each here slot
      | inr away ↦
          let is : at ≡ n + (at - n) = omega arith in
          holder_slot world assigned part at (at - n) local is (omega arith) slot
    ]

-- ---- there are few

few_slots : (world : WorldState) (assigned : List ℕ) (part at : ℕ) → AreChannels world.channels → length assigned ≡ length world.boxes
    → ((who : ℕ) → who < length world.boxes → length (box_at world who).slots ≤ SLOT_LIMIT) → at < homes_in world assigned part → slots_at world assigned part at ≤ SLOT_LIMIT
few_slots world assigned part at are each few below =
    let n : ℕ = length (members assigned part) in
    elim (cases_lt at n) [
      | inl here ↦
          let member : IsMember assigned part at (get_or (members assigned part) at 0) = member_here assigned part at here in
          subst (λ (m : ℕ). m ≤ SLOT_LIMIT) (sym (slots_here world assigned part at here))
          (few (get_or (members assigned part) at 0) (subst (λ (m : ℕ). get_or (members assigned part) at 0 < m) each member.inside))
      | inr away ↦
          let is : at ≡ n + (at - n) = omega arith in
          let one : IsCrossing assigned world.channels part (at - n) = crossing_at assigned world.channels part (at - n) (omega arith) in
          let eight : length one.channel.tunnels ≤ 8 = (tunnels_of_channel world.channels one.of.c one.channel are one.of.at).few in
          let most : length one.channel.tunnels ≤ SLOT_LIMIT = omega arith in
          subst (λ (m : ℕ). m ≤ SLOT_LIMIT) (sym (slots_away world assigned part at (at - n) one.channel is one.touching_is)) most
    ]

-- ---- the law

full_there : (world : WorldState) (assigned : List ℕ) (part : ℕ) → IsNumbered world → AreChannels world.channels
    → ((who : ℕ) → who < length world.boxes → length (box_at world who).slots ≤ SLOT_LIMIT) → length assigned ≡ length world.boxes
    → AreFull (places_among (channels_in assigned world.channels part)) (homes_in world assigned part) (slots_at world assigned part)
full_there world assigned part numbered are few each = record {
  placed = λ s inside. (is_inside world assigned part s numbered each inside).home;
  slots = λ s inside. (is_inside world assigned part s numbered each inside).slot;
  once = λ s inside. here_number assigned world.channels part s (get_or (places_among (channels_in assigned world.channels part)) s (0, 0)) (are_whole world assigned numbered each) inside refl;
  all = λ at local below slot.
      let stands : StandsAt assigned world.channels part at local = each_stands world assigned part at local numbered each below slot in
      (stands.s, stands.inside, stands.is);
  few = λ at below. few_slots world assigned part at are each few below;
}

box_slots : (world : WorldState) (assigned : List ℕ) (tables : ℕ → WorldState) (states : ℕ → PartState) (part at : ℕ) → IsDivided world assigned tables states → at < length (states part).boxes
    → length (part_box (states part) at).slots ≡ slots_at world assigned part at
box_slots world assigned tables states part at divided below =
    let inside : at < length (members assigned part) = subst (λ (n : ℕ). at < n) (box_count world assigned tables states part divided) below in
    ap (λ (l : List BoxState). length (get_or l at no_box).slots) (divided.boxes part)
    ∙ (ap (λ (box : BoxState). length box.slots) (get_or-map (box_at world) (members assigned part) at 0 no_box inside)
    ∙ sym (slots_here world assigned part at inside))

pub divisions_have_numbers : DivisionsHaveNumbers
divisions_have_numbers world assigned tables states numbered are few divided part = record {
  full = subst (λ (l : List ChannelState). AreFull (places_among l) (homes_in world assigned part) (slots_at world assigned part)) (sym (divided.channels part))
      (full_there world assigned part numbered are few divided.each);
  boxes = λ at below. box_slots world assigned tables states part at divided below;
}
