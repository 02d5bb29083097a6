-- Partners in a world that a channel has joined: the slots that were there have theirs, and the two new ones have none. So there is no new ring.
use Rattle.std.proofs.Common.{◌≡◌, ◌<◌, ◌+◌, ℕ, zero, suc, Option, Some, None, List, length, position, refl, ap, sym, ◌∙◌, subst, arith}
use Rattle.std.specs.Option.{option_and_then}
use Rattle.std.proofs.lemmas.List.{get_or_past}
use Rattle.mc_signal.specs.declared.Medium.{Medium}
use Rattle.mc_slot.specs.declared.Goal.TheVariants.{Close as ToClose}
use Rattle.mc_slot.specs.declared.SlotGoal.{SlotGoal}
use Rattle.mc_slot.specs.declared.SlotGoal.TheVariants.{End, Link}
use Rattle.mc_box.specs.Boxes.{BoxState, IsBox, goal_at, with_new_slot}
use Rattle.mc_box.specs.declared.setup.SlotSetup.{SlotSetup}
use Rattle.mc_box.proofs.AddedSlots.{goal_added}
use Rattle.mc_box.proofs.Options.{then_some}
use Rattle.mc_model.specs.Paths.{next_slot, partner_of, slot_after}
use Rattle.mc_model.specs.Rings.{IsLeastOnRing, IsOnRing}
use Rattle.mc_model.specs.Sound.{IsSound}
use Rattle.mc_model.specs.Worlds.{WorldState, box_at, far, goal_of, is_place, number, place, places, slot_count}
use Rattle.mc_laws.proofs.ActedWorlds.{far_inside}
use Rattle.mc_laws.proofs.Partners.{by_goal, has_partner, next_is}
use Rattle.mc_laws.proofs.RingWalks.{ring_partner}
use Rattle.mc_laws.proofs.Walks.{after_more}
use Rattle.mc_growth.specs.Joins.{MayJoin, away_slot, joined, near_slot}
use Rattle.mc_growth.proofs.Joined.{SlotKind, away, before, box_away, box_near, kind_of, near, place_away, place_near, places_joined, same_slot}
use Rattle.mc_growth.proofs.JoinedSound.{join_keeps_sound}
use Rattle.mc_growth.proofs.Lists.{position_before}

-- ---- slots that were there

-- a number that a slot had stays
pub number_before : (world : WorldState) (medium : Medium) (from to who local s : ℕ) → number world who local ≡ Some s → number (joined world medium from to) who local ≡ Some s
number_before world medium from to who local s is =
    subst (λ (l : List (ℕ × ℕ)). position (is_place (who, local)) l ≡ Some s) (sym (places_joined world medium from to))
    (position_before (is_place (who, local)) (places world) _ s (0, 0) is)

before_by : (world : WorldState) (medium : Medium) (from to s : ℕ) (goal : SlotGoal) → IsSound world → MayJoin world from to → s < slot_count world → goal_of world s ≡ goal
    → partner_of (joined world medium from to) s ≡ partner_of world s
before_by world medium from to s (End goal) sound may below is =
    let same = same_slot world medium from to s sound.numbered may below in
    by_goal (joined world medium from to) s (End goal) (same.goal ∙ is) ∙ sym (by_goal world s (End goal) is)
before_by world medium from to s (Link partner) sound may below is =
    let next = joined world medium from to in
    let same = same_slot world medium from to s sound.numbered may below in
    let there = has_partner world s partner sound below is in
    by_goal next s (Link partner) (same.goal ∙ is)
    ∙ (ap (λ (p : ℕ × ℕ). number next p.0 partner) same.at
    ∙ (number_before world medium from to (place world s).0 partner there.0 there.1 ∙ sym (by_goal world s (Link partner) is ∙ there.1)))

-- and so does its partner
pub partner_before : (world : WorldState) (medium : Medium) (from to s : ℕ) → IsSound world → MayJoin world from to → s < slot_count world → partner_of (joined world medium from to) s ≡ partner_of world s
partner_before world medium from to s sound may below = before_by world medium from to s (goal_of world s) sound may below refl

pub next_before : (world : WorldState) (medium : Medium) (from to s : ℕ) → IsSound world → MayJoin world from to → s < slot_count world → next_slot (joined world medium from to) s ≡ next_slot world s
next_before world medium from to s sound may below = partner_before world medium from to (far s) sound may (far_inside world s below)

-- ---- new slots

new_goal : (box : BoxState) (setup : SlotSetup) → IsBox box → goal_at (with_new_slot box setup) (length box.slots) ≡ End ToClose
new_goal box setup whole = goal_added box setup (length box.slots) ∙ get_or_past box.goals (length box.slots) (End ToClose) (omega (arith, whole.goals))

-- they are to close
pub goal_near : (world : WorldState) (medium : Medium) (from to : ℕ) → IsSound world → MayJoin world from to → goal_of (joined world medium from to) (slot_count world) ≡ End ToClose
goal_near world medium from to sound may =
    ap (λ (p : ℕ × ℕ). goal_at (box_at (joined world medium from to) p.0) p.1) (place_near world medium from to)
    ∙ (ap (λ (b : BoxState). goal_at b (length (box_at world from).slots)) (box_near world medium from to may)
    ∙ new_goal (box_at world from) (near_slot world medium) (sound.numbered.whole from may.near))

pub goal_away : (world : WorldState) (medium : Medium) (from to : ℕ) → IsSound world → MayJoin world from to → goal_of (joined world medium from to) (slot_count world + 1) ≡ End ToClose
goal_away world medium from to sound may =
    ap (λ (p : ℕ × ℕ). goal_at (box_at (joined world medium from to) p.0) p.1) (place_away world medium from to)
    ∙ (ap (λ (b : BoxState). goal_at b (length (box_at world to).slots)) (box_away world medium from to may)
    ∙ new_goal (box_at world to) (away_slot world medium) (sound.numbered.whole to may.away))

-- ---- rings

-- a chain from a slot that was there went the same way
record WentOn (world : WorldState) (count s t : ℕ) : Type 0 where
  inside : t < slot_count world
  is : slot_after world count s ≡ Some t

chain_was : (count : ℕ) (world : WorldState) (medium : Medium) (from to s t : ℕ) → IsSound world → MayJoin world from to → s < slot_count world → slot_after (joined world medium from to) count s ≡ Some t
    → WentOn world count s t
chain_was zero world medium from to s t sound may below is =
    let same : s ≡ t = cc in
    record { inside = subst (λ (n : ℕ). n < slot_count world) same below; is = is }
chain_was (suc count) world medium from to s t sound may below is =
    let next = joined world medium from to in
    let last = then_some (next_slot next) (slot_after next count s) t (sym (after_more next count s) ∙ is) in
    let was = chain_was count world medium from to s last.0 sound may below last.1 in
    let step : next_slot world last.0 ≡ Some t = sym (next_before world medium from to last.0 sound may was.inside) ∙ last.2 in
    record {
      inside = (next_is world last.0 t sound was.inside step).inside;
      is = after_more world count s ∙ (ap (λ (o : Option ℕ). option_and_then (next_slot world) o) was.is ∙ step);
    }

-- a slot that is to close is on no ring
closes_off : (world : WorldState) (s : ℕ) → IsSound world → s < slot_count world → goal_of world s ≡ End ToClose → IsOnRing world s → ⊥
closes_off world s sound inside is ring =
    let link = ring_partner world s sound inside ring in
    let clash : Some link.0 ≡ None = sym link.1 ∙ by_goal world s (End ToClose) is in
    cc

none_by : (world : WorldState) (medium : Medium) (from to s : ℕ) → IsSound world → MayJoin world from to → IsLeastOnRing world None → s < slot_count (joined world medium from to)
    → SlotKind (slot_count world) s → IsOnRing (joined world medium from to) s → ⊥
none_by world medium from to s sound may none inside (before below) ring =
    none s below (record { count = ring.count; some = ring.some; back = (chain_was ring.count world medium from to s s sound may below ring.back).is })
none_by world medium from to s sound may none inside (near is) ring =
    closes_off (joined world medium from to) s (join_keeps_sound world medium from to sound may) inside (ap (goal_of (joined world medium from to)) is ∙ goal_near world medium from to sound may) ring
none_by world medium from to s sound may none inside (away is) ring =
    closes_off (joined world medium from to) s (join_keeps_sound world medium from to sound may) inside (ap (goal_of (joined world medium from to)) is ∙ goal_away world medium from to sound may) ring

-- where there is no ring a join makes none
pub join_makes_no_ring : (world : WorldState) (medium : Medium) (from to : ℕ) → IsSound world → MayJoin world from to → IsLeastOnRing world None → IsLeastOnRing (joined world medium from to) None
join_makes_no_ring world medium from to sound may none s inside ring = none_by world medium from to s sound may none inside (kind_of world medium from to s inside) ring
