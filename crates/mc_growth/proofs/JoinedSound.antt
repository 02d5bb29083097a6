-- A world that a channel has joined is sound.
use Rattle.std.proofs.Common.{◌≡◌, ◌≢◌, ◌<◌, ◌≤◌, ◌+◌, ◌*◌, ◌%◌, ◌==◌, inl, inr, ℕ, true, false, Some, List, [], ◌∷◌, length, position, refl, ap, sym, ◌∙◌, subst, arith}
use Rattle.std.proofs.Math.ListN.{get_or}
use Rattle.std.proofs.lemmas.Bool.{cases_eq, cases_lt}
use Rattle.std.proofs.lemmas.Grind.{common_steps}
use Rattle.std.proofs.lemmas.List.{get_or_past}
use Rattle.mc_signal.specs.declared.Medium.{Medium}
use Rattle.mc_signal.specs.declared.Signal.{Signal}
use Rattle.mc_signal.specs.declared.Tagged.{Tagged}
use Rattle.mc_slot.specs.Tunnel.{TunnelSound}
use Rattle.mc_slot.specs.Moves.{closed_slot}
use Rattle.mc_slot.specs.declared.Slot.{Slot}
use Rattle.mc_box.specs.Boxes.{BoxState, IsBox, first_media, first_slot, media_at, no_media, no_slot, slot_at, with_new_slot}
use Rattle.mc_box.specs.declared.setup.SlotMedia.{SlotMedia}
use Rattle.mc_box.specs.declared.setup.SlotSetup.{SlotSetup}
use Rattle.mc_model.specs.Served.{AllServed}
use Rattle.mc_model.specs.Sound.{IsNumbered, IsSound}
use Rattle.mc_model.specs.Worlds.{TunnelPlace, WorldState, box_at, far, for_tunnel, is_place, list_to, number, place, places, slot_count, slot_of, tunnel_of}
use Rattle.mc_laws.proofs.ActedWorlds.{far_inside}
use Rattle.mc_laws.proofs.NewWorlds.{closed_tunnel}
use Rattle.mc_growth.specs.GrowthLaws.{JoinKeepsSound}
use Rattle.mc_growth.specs.Joins.{MayJoin, away_slot, joined, joining, near_slot}
use Rattle.mc_growth.proofs.Joined.{GrowsTo, SlotKind, away, before, box_away, box_else, box_grows, box_near, count_even, count_joined, grown_sound, kind_of, lane_same, length_boxes, near, number_same, place_away, place_before, place_near, places_joined, same_slot, slots_more, tunnel_away, tunnel_near}
use Rattle.mc_growth.proofs.Lists.{length_one, length_two, not_true, one_added, place_parts, place_same, position_before, position_is}

-- ---- the two new slots

-- a new slot is closed, keeps nothing, and stands where it should
pub record IsNewSlot (next : WorldState) (s : ℕ) (setup : SlotSetup) (who local : ℕ) : Type 0 where
  pub place : place next s ≡ (who, local)
  pub slot : slot_of next s ≡ first_slot setup
  pub inside : local < length (box_at next who).slots
  pub origin : (media_at (box_at next who) local).origin ≡ setup.origin
  pub list : list_to next s ≡ []
  pub medium : (tunnel_of next s).medium ≡ setup.medium

new_by : (next : WorldState) (s : ℕ) (setup : SlotSetup) (old : BoxState) (who local : ℕ) → place next s ≡ (who, local) → box_at next who ≡ with_new_slot old setup → local ≡ length old.slots
    → IsBox old → list_to next s ≡ [] → (tunnel_of next s).medium ≡ setup.medium → IsNewSlot next s setup who local
new_by next s setup old who local at box is whole list medium = record {
  place = at;
  slot = ap (λ (p : ℕ × ℕ). slot_at (box_at next p.0) p.1) at ∙ (ap (λ (b : BoxState). slot_at b local) box ∙ one_added old.slots (first_slot setup) no_slot local is);
  inside = let more = ap (λ (b : BoxState). length b.slots) box ∙ length_one old.slots (first_slot setup) in omega (arith, more, is);
  origin = ap (λ (b : BoxState). (media_at b local).origin) box
      ∙ ap (λ (m : SlotMedia). m.origin) (one_added old.media (first_media old.first_version setup) no_media local (is ∙ sym whole.media));
  list = list;
  medium = medium;
}

-- nothing comes to it
late_lane : (world : WorldState) (medium : Medium) (from to lane : ℕ) → length world.lanes ≤ lane → get_or (joined world medium from to).lanes lane [] ≡ []
late_lane world medium from to lane late = lane_same world medium from to lane ∙ get_or_past world.lanes lane [] late

late_list : (world : WorldState) (medium : Medium) (from to s : ℕ) → IsNumbered world → tunnel_of (joined world medium from to) s ≡ record { channel = length world.channels; within = 0; medium = medium }
    → list_to (joined world medium from to) s ≡ []
late_list world medium from to s numbered tunnel =
    ap (λ (t : TunnelPlace). for_tunnel t.within (get_or (joined world medium from to).lanes (2 * t.channel + s % 2) [])) tunnel
    ∙ ap (for_tunnel 0) (late_lane world medium from to (2 * length world.channels + s % 2) (omega (arith, numbered.lanes)))

pub new_near : (world : WorldState) (medium : Medium) (from to : ℕ) → IsNumbered world → MayJoin world from to
    → IsNewSlot (joined world medium from to) (slot_count world) (near_slot world medium) from (length (box_at world from).slots)
new_near world medium from to numbered may =
    let tunnel = tunnel_near world medium from to in
    new_by (joined world medium from to) (slot_count world) (near_slot world medium) (box_at world from) from (length (box_at world from).slots)
    (place_near world medium from to) (box_near world medium from to may) refl (numbered.whole from may.near) (late_list world medium from to (slot_count world) numbered tunnel)
    (ap (λ (t : TunnelPlace). t.medium) tunnel)

pub new_away : (world : WorldState) (medium : Medium) (from to : ℕ) → IsNumbered world → MayJoin world from to
    → IsNewSlot (joined world medium from to) (slot_count world + 1) (away_slot world medium) to (length (box_at world to).slots)
new_away world medium from to numbered may =
    let tunnel = tunnel_away world medium from to in
    new_by (joined world medium from to) (slot_count world + 1) (away_slot world medium) (box_at world to) to (length (box_at world to).slots)
    (place_away world medium from to) (box_away world medium from to may) refl (numbered.whole to may.away) (late_list world medium from to (slot_count world + 1) numbered tunnel)
    (ap (λ (t : TunnelPlace). t.medium) tunnel)

-- ---- tunnels

far_even : (n : ℕ) → n % 2 ≡ 0 → far n ≡ n + 1
far_even n even = grind (arith, common_steps)

far_odd : (n : ℕ) → n % 2 ≡ 0 → far (n + 1) ≡ n
far_odd n even = grind (arith, common_steps)

-- two slots of one tunnel, and what is under way to them, where they are those of a sound one
tunnel_by : (a b c d : Slot) (to_a to_b to_c to_d : List Signal) → c ≡ a → d ≡ b → to_c ≡ to_a → to_d ≡ to_b → TunnelSound a to_a b to_b → TunnelSound c to_c d to_d
tunnel_by a b c d to_a to_b to_c to_d one two three four sound = rw (one, two, three, four) sound

tunnel_joined : (world : WorldState) (medium : Medium) (from to s : ℕ) → IsSound world → MayJoin world from to → SlotKind (slot_count world) s
    → TunnelSound (slot_of (joined world medium from to) s) (list_to (joined world medium from to) s) (slot_of (joined world medium from to) (far s)) (list_to (joined world medium from to) (far s))
tunnel_joined world medium from to s sound may (before below) =
    let one = same_slot world medium from to s sound.numbered may below in
    let two = same_slot world medium from to (far s) sound.numbered may (far_inside world s below) in
    tunnel_by (slot_of world s) (slot_of world (far s)) _ _ (list_to world s) (list_to world (far s)) _ _ one.slot two.slot one.list two.list (sound.tunnels s below)
tunnel_joined world medium from to s sound may (near is) =
    let next = joined world medium from to in
    let one = new_near world medium from to sound.numbered may in
    let two = new_away world medium from to sound.numbered may in
    let other : far s ≡ slot_count world + 1 = ap far is ∙ far_even (slot_count world) (count_even world) in
    tunnel_by (closed_slot medium true) (closed_slot medium false) _ _ [] [] _ _
    (ap (slot_of next) is ∙ one.slot) (ap (slot_of next) other ∙ two.slot) (ap (list_to next) is ∙ one.list) (ap (list_to next) other ∙ two.list)
    (closed_tunnel (closed_slot medium true) (closed_slot medium false) refl refl refl refl)
tunnel_joined world medium from to s sound may (away is) =
    let next = joined world medium from to in
    let one = new_near world medium from to sound.numbered may in
    let two = new_away world medium from to sound.numbered may in
    let other : far s ≡ slot_count world = ap far is ∙ far_odd (slot_count world) (count_even world) in
    tunnel_by (closed_slot medium false) (closed_slot medium true) _ _ [] [] _ _
    (ap (slot_of next) is ∙ two.slot) (ap (slot_of next) other ∙ one.slot) (ap (list_to next) is ∙ two.list) (ap (list_to next) other ∙ one.list)
    (closed_tunnel (closed_slot medium false) (closed_slot medium true) refl refl refl refl)

-- ---- signals under way

served_joined : (world : WorldState) (medium : Medium) (from to lane : ℕ) (signals : List Tagged) → IsNumbered world → MayJoin world from to → AllServed world lane signals
    → AllServed (joined world medium from to) lane signals
served_joined world medium from to lane [] numbered may served = tt
served_joined world medium from to lane (tagged ∷ rest) numbered may served =
    let same = same_slot world medium from to served.0.0 numbered may served.0.1.inside in (
      (
        served.0.0,
        record {
          inside = omega (arith, count_joined world medium from to, served.0.1.inside);
          leads = ap (λ (t : TunnelPlace). 2 * t.channel + served.0.0 % 2) same.tunnel ∙ served.0.1.leads;
          within = ap (λ (t : TunnelPlace). t.within) same.tunnel ∙ served.0.1.within;
        },
      ),
      served_joined world medium from to lane rest numbered may served.1,
    )

-- ---- numbers

-- no slot that was there has the place of a new one
none_before : (world : WorldState) (who k : ℕ) → IsNumbered world → k < slot_count world → is_place (who, length (box_at world who).slots) (place world k) ≡ false
none_before world who k numbered below =
    not_true (is_place (who, length (box_at world who).slots) (place world k)) (λ is.
    let parts = place_parts who (length (box_at world who).slots) (place world k) is in
    let inside = numbered.slots k below in
    let same = ap (λ (n : ℕ). length (box_at world n).slots) parts.0 in
    absurd (omega (arith, inside, parts.1, same)))

apart_place : (a b c d : ℕ) → a ≢ c → is_place (a, b) (c, d) ≡ false
apart_place a b c d apart = grind (arith, common_steps)

once_near : (world : WorldState) (medium : Medium) (from to : ℕ) → IsNumbered world → MayJoin world from to
    → number (joined world medium from to) from (length (box_at world from).slots) ≡ Some (slot_count world)
once_near world medium from to numbered may =
    let next = joined world medium from to in
    let here = length (box_at world from).slots in
    position_is (is_place (from, here)) (places next) (slot_count world) (0, 0) (omega (arith, count_joined world medium from to))
    (λ k below. ap (is_place (from, here)) (place_before world medium from to k below) ∙ none_before world from k numbered below)
    (ap (is_place (from, here)) (place_near world medium from to) ∙ place_same from here)

once_away : (world : WorldState) (medium : Medium) (from to : ℕ) → IsNumbered world → MayJoin world from to
    → number (joined world medium from to) to (length (box_at world to).slots) ≡ Some (slot_count world + 1)
once_away world medium from to numbered may =
    let next = joined world medium from to in
    let here = length (box_at world to).slots in
    position_is (is_place (to, here)) (places next) (slot_count world + 1) (0, 0) (omega (arith, count_joined world medium from to))
    (λ k below. elim (cases_lt k (slot_count world)) [
      | inl old ↦ ap (is_place (to, here)) (place_before world medium from to k old) ∙ none_before world to k numbered old
      | inr late ↦
          let is : k ≡ slot_count world = omega (arith, below, late) in
          ap (λ (n : ℕ). is_place (to, here) (place next n)) is ∙ (ap (is_place (to, here)) (place_near world medium from to) ∙ apart_place to here from (length (box_at world from).slots) (λ same. may.apart (sym same)))
    ])
    (ap (is_place (to, here)) (place_away world medium from to) ∙ place_same to here)

-- what a numbered world asks of one slot
pub record SlotFits (next : WorldState) (s : ℕ) : Type 0 where
  pub placed : (place next s).0 < length next.boxes
  pub inside : (place next s).1 < length (box_at next (place next s).0).slots
  pub once : number next (place next s).0 (place next s).1 ≡ Some s
  pub origin : (media_at (box_at next (place next s).0) (place next s).1).origin ≡ s
  pub medium : (slot_of next s).medium ≡ (tunnel_of next s).medium
  pub side : (slot_of next s).initiator ≡ (s % 2 == 0)

-- of a new slot
fits_new : (next : WorldState) (s who local : ℕ) (setup : SlotSetup) → IsNewSlot next s setup who local → who < length next.boxes → number next who local ≡ Some s → setup.origin ≡ s
    → setup.initiator ≡ (s % 2 == 0) → SlotFits next s
fits_new next s who local setup new there once origin side = record {
  placed = subst (λ (p : ℕ × ℕ). p.0 < length next.boxes) (sym new.place) there;
  inside = subst (λ (p : ℕ × ℕ). p.1 < length (box_at next p.0).slots) (sym new.place) new.inside;
  once = subst (λ (p : ℕ × ℕ). number next p.0 p.1 ≡ Some s) (sym new.place) once;
  origin = subst (λ (p : ℕ × ℕ). (media_at (box_at next p.0) p.1).origin ≡ s) (sym new.place) (new.origin ∙ origin);
  medium = ap (λ (slot : Slot). slot.medium) new.slot ∙ sym new.medium;
  side = ap (λ (slot : Slot). slot.initiator) new.slot ∙ side;
}

even_side : (n s : ℕ) → n % 2 ≡ 0 → s ≡ n → true ≡ (s % 2 == 0)
even_side n s even is = grind (arith, common_steps)

odd_side : (n s : ℕ) → n % 2 ≡ 0 → s ≡ n + 1 → false ≡ (s % 2 == 0)
odd_side n s even is = grind (arith, common_steps)

fits_joined : (world : WorldState) (medium : Medium) (from to s : ℕ) → IsNumbered world → MayJoin world from to → SlotKind (slot_count world) s → SlotFits (joined world medium from to) s
fits_joined world medium from to s numbered may (before below) =
    let next = joined world medium from to in
    let same = same_slot world medium from to s numbered may below in
    let placed = numbered.placed s below in
    let inside = numbered.slots s below in
    let more = slots_more world medium from to (place world s).0 may in
    record {
      placed = subst (λ (p : ℕ × ℕ). p.0 < length next.boxes) (sym same.at) (omega (arith, placed, length_boxes world medium from to));
      inside = subst (λ (p : ℕ × ℕ). p.1 < length (box_at next p.0).slots) (sym same.at) (omega (arith, inside, more));
      once = subst (λ (p : ℕ × ℕ). number next p.0 p.1 ≡ Some s) (sym same.at)
          (subst (λ (l : List (ℕ × ℕ)). position (is_place ((place world s).0, (place world s).1)) l ≡ Some s) (sym (places_joined world medium from to))
          (position_before (is_place ((place world s).0, (place world s).1)) (places world) _ s (0, 0) (numbered.once s below)));
      origin = subst (λ (p : ℕ × ℕ). (media_at (box_at next p.0) p.1).origin ≡ s) (sym same.at) (ap (λ (m : SlotMedia). m.origin) same.media ∙ numbered.origins s below);
      medium = ap (λ (slot : Slot). slot.medium) same.slot ∙ (numbered.media s below ∙ sym (ap (λ (t : TunnelPlace). t.medium) same.tunnel));
      side = ap (λ (slot : Slot). slot.initiator) same.slot ∙ numbered.sides s below;
    }
fits_joined world medium from to s numbered may (near is) =
    subst (λ (n : ℕ). SlotFits (joined world medium from to) n) (sym is)
    (fits_new (joined world medium from to) (slot_count world) from (length (box_at world from).slots) (near_slot world medium) (new_near world medium from to numbered may)
    (let there = may.near in omega (arith, there, length_boxes world medium from to)) (once_near world medium from to numbered may) refl (even_side (slot_count world) (slot_count world) (count_even world) refl))
fits_joined world medium from to s numbered may (away is) =
    subst (λ (n : ℕ). SlotFits (joined world medium from to) n) (sym is)
    (fits_new (joined world medium from to) (slot_count world + 1) to (length (box_at world to).slots) (away_slot world medium) (new_away world medium from to numbered may)
    (let there = may.away in omega (arith, there, length_boxes world medium from to)) (once_away world medium from to numbered may) refl (odd_side (slot_count world) (slot_count world + 1) (count_even world) refl))

-- each slot of a box is one of the world's
pub record Found (next : WorldState) (who local : ℕ) : Type 0 where
  pub s : ℕ
  pub inside : s < slot_count next
  pub is : place next s ≡ (who, local)

found_before : (world : WorldState) (medium : Medium) (from to who local : ℕ) → IsNumbered world → MayJoin world from to → who < length world.boxes → local < length (box_at world who).slots
    → Found (joined world medium from to) who local
found_before world medium from to who local numbered may there inside =
    let found = numbered.all who local there inside in
    record { s = found.0; inside = omega (arith, found.1, count_joined world medium from to); is = place_before world medium from to found.0 found.1 ∙ found.2 }

found_by : (world : WorldState) (medium : Medium) (from to who local : ℕ) → IsNumbered world → MayJoin world from to → who < length world.boxes
    → GrowsTo (box_at world who) (box_at (joined world medium from to) who) → local < length (box_at (joined world medium from to) who).slots → Found (joined world medium from to) who local
found_by world medium from to who local numbered may there grown inside = elim (cases_lt local (length (box_at world who).slots)) [
  | inl below ↦ found_before world medium from to who local numbered may there below
  | inr late ↦ elim (cases_eq who from) [
    | inl same ↦
        let more : length (box_at (joined world medium from to) from).slots ≡ length (box_at world from).slots + 1 =
        ap (λ (b : BoxState). length b.slots) (box_near world medium from to may) ∙ length_one (box_at world from).slots (first_slot (near_slot world medium)) in
        let one = ap (λ (n : ℕ). length (box_at world n).slots) same in
        let two = ap (λ (n : ℕ). length (box_at (joined world medium from to) n).slots) same in
        let is : local ≡ length (box_at world from).slots = omega (arith, more, one, two, inside, late) in
        record {
          s = slot_count world;
          inside = omega (arith, count_joined world medium from to);
          is = place_near world medium from to ∙ (ap (λ (n : ℕ). (n, length (box_at world from).slots)) (sym same) ∙ ap (λ (n : ℕ). (who, n)) (sym is));
        }
    | inr other ↦ elim (cases_eq who to) [
      | inl same ↦
          let more : length (box_at (joined world medium from to) to).slots ≡ length (box_at world to).slots + 1 =
          ap (λ (b : BoxState). length b.slots) (box_away world medium from to may) ∙ length_one (box_at world to).slots (first_slot (away_slot world medium)) in
          let one = ap (λ (n : ℕ). length (box_at world n).slots) same in
          let two = ap (λ (n : ℕ). length (box_at (joined world medium from to) n).slots) same in
          let is : local ≡ length (box_at world to).slots = omega (arith, more, one, two, inside, late) in
          record {
            s = slot_count world + 1;
            inside = omega (arith, count_joined world medium from to);
            is = place_away world medium from to ∙ (ap (λ (n : ℕ). (n, length (box_at world to).slots)) (sym same) ∙ ap (λ (n : ℕ). (who, n)) (sym is));
          }
      | inr neither ↦
          let same = ap (λ (b : BoxState). length b.slots) (box_else world medium from to who other neither) in
          absurd (omega (arith, same, inside, late))
    ]
  ]
]

numbered_joined : (world : WorldState) (medium : Medium) (from to : ℕ) → IsSound world → MayJoin world from to → IsNumbered (joined world medium from to)
numbered_joined world medium from to sound may =
    let next = joined world medium from to in
    let numbered = sound.numbered in
    let fits : (s : ℕ) → s < slot_count next → SlotFits next s = λ s inside. fits_joined world medium from to s numbered may (kind_of world medium from to s inside) in
    record {
      boxes = λ who below. number_same (box_at world who) (box_at next who) (box_grows world medium from to who may) ∙ numbered.boxes who (subst (λ (n : ℕ). who < n) (length_boxes world medium from to) below);
      whole = λ who below.
          (grown_sound (box_at world who) (box_at next who) (box_grows world medium from to who may) (sound.boxes who (subst (λ (n : ℕ). who < n) (length_boxes world medium from to) below))).wired.whole;
      lanes = let one = length_two world.lanes [] [] in let two = length_one world.channels (joining world medium from to) in omega (arith, one, two, numbered.lanes);
      placed = λ s inside. (fits s inside).placed;
      slots = λ s inside. (fits s inside).inside;
      once = λ s inside. (fits s inside).once;
      all = λ who local below inside.
          let found = found_by world medium from to who local numbered may (subst (λ (n : ℕ). who < n) (length_boxes world medium from to) below) (box_grows world medium from to who may) inside in
          (found.s, found.inside, found.is);
      origins = λ s inside. (fits s inside).origin;
      media = λ s inside. (fits s inside).medium;
      sides = λ s inside. (fits s inside).side;
    }

-- ---- all of it

pub join_keeps_sound : JoinKeepsSound
join_keeps_sound world medium from to sound may =
    let next = joined world medium from to in
    record {
      tunnels = λ s inside. tunnel_joined world medium from to s sound may (kind_of world medium from to s inside);
      boxes = λ who below.
          grown_sound (box_at world who) (box_at next who) (box_grows world medium from to who may) (sound.boxes who (subst (λ (n : ℕ). who < n) (length_boxes world medium from to) below));
      numbered = numbered_joined world medium from to sound may;
      served = λ lane. subst (λ (l : List Tagged). AllServed next lane l) (sym (lane_same world medium from to lane))
          (served_joined world medium from to lane (get_or world.lanes lane []) sound.numbered may (sound.served lane));
    }
