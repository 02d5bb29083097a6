-- Walks by their slots: the slot so many tunnels and links on, the end to which a walk comes, and that it goes no further from there.
use Rattle.std.proofs.Common.{◌≡◌, ◌≤◌, ◌<◌, ◌⊎◌, inl, inr, cond, ℕ, zero, suc, Bool, true, false, Option, Some, None, List, ◌∷◌, get_or, length, map, refl, ap, sym, ◌∙◌, arith}
use Rattle.std.specs.List.{find, slice_get}
use Rattle.std.specs.Option.{option_and_then}
use Rattle.mc_slot.specs.EndTurn.{is_end_goal}
use Rattle.mc_slot.specs.declared.SlotGoal.{SlotGoal}
use Rattle.mc_slot.specs.declared.SlotGoal.TheVariants.{End, Link}
use Rattle.mc_model.specs.Paths.{end_after, next_slot, partner_by, partner_of, slot_after, walk}
use Rattle.mc_model.specs.Worlds.{WorldState, far, goal_of}
use Rattle.mc_laws.proofs.Numbers.{some_same}
use Rattle.mc_laws.proofs.Partners.{linked_with}

-- ---- slots so many tunnels and links on

-- the first is one tunnel and one link on
first_after : (world : WorldState) (count : ℕ) (next : Option ℕ) → slice_get (walk world next (suc count)) count ≡ option_and_then (λ t. slot_after world count t) next
first_after world count None = refl
first_after world count (Some t) = refl

pub after_first : (world : WorldState) (count s : ℕ) → slot_after world (suc count) s ≡ option_and_then (λ t. slot_after world count t) (next_slot world s)
after_first world count s = first_after world count (next_slot world s)

-- from where the next slot is known
pub after_next : (world : WorldState) (count s next : ℕ) → next_slot world s ≡ Some next → slot_after world (suc count) s ≡ slot_after world count next
after_next world count s next is = after_first world count s ∙ ap (λ (o : Option ℕ). option_and_then (λ t. slot_after world count t) o) is

-- and so is the last
pub after_more : (world : WorldState) (count s : ℕ) → slot_after world (suc count) s ≡ option_and_then (next_slot world) (slot_after world count s)
after_more world zero s = first_after world zero (next_slot world s) ∙ as_it_is (next_slot world s)
  where
    as_it_is : (o : Option ℕ) → option_and_then (λ t. Some t) o ≡ o
    as_it_is None = refl
    as_it_is (Some t) = refl
after_more world (suc count) s = first_after world (suc count) (next_slot world s) ∙ last_after world count (next_slot world s) (λ t. after_more world count t)
  where
    last_after : (world : WorldState) (count : ℕ) (next : Option ℕ) → ((t : ℕ) → slot_after world (suc count) t ≡ option_and_then (next_slot world) (slot_after world count t))
        → option_and_then (λ t. slot_after world (suc count) t) next ≡ option_and_then (next_slot world) (slice_get (walk world next (suc count)) count)
    last_after world count None more = refl
    last_after world count (Some t) more = more t

-- each slot of a walk is as many on
pub walk_at : (most : ℕ) (world : WorldState) (s k : ℕ) → k < length (walk world (Some s) most) → slot_after world k s ≡ Some (get_or (walk world (Some s) most) k 0)
walk_at zero world s k inside = absurd (omega (arith, inside))
walk_at (suc most) world s zero inside = refl
walk_at (suc most) world s (suc k) inside = by_next (next_slot world s) refl (omega (arith, inside)) (λ t within. walk_at most world t k within)
  where
    by_next : (next : Option ℕ) → next_slot world s ≡ next → k < length (walk world next most)
        → ((t : ℕ) → k < length (walk world (Some t) most) → slot_after world k t ≡ Some (get_or (walk world (Some t) most) k 0))
        → slot_after world (suc k) s ≡ Some (get_or (walk world next most) k 0)
    by_next None is within more = absurd (omega (arith, within))
    by_next (Some t) is within more = after_next world k s t is ∙ more t within

-- ---- ends

-- the end to which a walk comes that has come to this slot on the far side of a tunnel
abbrev pub end_beyond : WorldState → ℕ → ℕ → Option ℕ
end_beyond world most s = find (λ t. is_end_goal (goal_of world t)) (s ∷ map far (walk world (partner_of world s) most))

-- an end ends it
pub end_here : (world : WorldState) (most s : ℕ) → is_end_goal (goal_of world s) ≡ true → end_beyond world most s ≡ Some s
end_here world most s is = ap (λ (b : Bool). cond b (Some s) (end_after world (walk world (partner_of world s) most))) is

-- and has no partner
pub end_alone : (world : WorldState) (s : ℕ) → is_end_goal (goal_of world s) ≡ true → partner_of world s ≡ None
end_alone world s is = by_goal (goal_of world s) is
  where
    by_goal : (goal : SlotGoal) → is_end_goal goal ≡ true → partner_by world goal s ≡ None
    by_goal (End goal) is = refl
    by_goal (Link partner) is = absurd (cc)

-- from a slot with a partner it goes on there
pub end_linked : (world : WorldState) (most s next : ℕ) → partner_of world s ≡ Some next → end_beyond world most s ≡ end_after world (walk world (Some next) most)
end_linked world most s next is =
    let link = linked_with world s next (goal_of world s) is in
    ap (λ (b : Bool). cond b (Some s) (end_after world (walk world (partner_of world s) most))) (ap is_end_goal link.1)
    ∙ ap (λ (o : Option ℕ). end_after world (walk world o most)) is

-- so a walk comes to an end at once, or from a partner
pub end_parts : (world : WorldState) (most s t : ℕ) → end_beyond world most s ≡ Some t
    → ((is_end_goal (goal_of world s) ≡ true) × (s ≡ t)) ⊎ ((next : ℕ) × (partner_of world s ≡ Some next) × (end_after world (walk world (Some next) most) ≡ Some t))
end_parts world most s t comes = parts_by (is_end_goal (goal_of world s)) (partner_of world s) refl refl comes
  where
    parts_by : (end : Bool) (next : Option ℕ) → is_end_goal (goal_of world s) ≡ end → partner_of world s ≡ next → cond end (Some s) (end_after world (walk world next most)) ≡ Some t
        → ((is_end_goal (goal_of world s) ≡ true) × (s ≡ t)) ⊎ ((next : ℕ) × (partner_of world s ≡ Some next) × (end_after world (walk world (Some next) most) ≡ Some t))
    parts_by true next end is comes = inl (end, some_same s t comes)
    parts_by false None end is comes = absurd (cc)
    parts_by false (Some n) end is comes = inr (n, is, comes)

-- ---- how long a walk is

-- no longer than it may be
pub length_most : (most : ℕ) (world : WorldState) (next : Option ℕ) → length (walk world next most) ≤ most
length_most most world None = omega arith
length_most zero world (Some s) = omega arith
length_most (suc most) world (Some s) = omega (arith, length_most most world (next_slot world s))

-- and at least one tunnel
pub length_some : (most : ℕ) (world : WorldState) (s : ℕ) → 0 < most → 1 ≤ length (walk world (Some s) most)
length_some zero world s some = absurd (omega (arith, some))
length_some (suc most) world s some = omega arith

-- one that comes to an end goes no further, though it may
pub walk_stays : (most : ℕ) (world : WorldState) (s t : ℕ) → end_after world (walk world (Some s) most) ≡ Some t → walk world (Some s) (suc most) ≡ walk world (Some s) most
walk_stays zero world s t comes = absurd (cc)
walk_stays (suc most) world s t comes = elim (end_parts world most (far s) t comes) [
  | inl here ↦
      let none : next_slot world s ≡ None = end_alone world (far s) here.0 in
      ap (λ (o : Option ℕ). s ∷ walk world o (suc most)) none ∙ sym (ap (λ (o : Option ℕ). s ∷ walk world o most) none)
  | inr on ↦
      ap (λ (o : Option ℕ). s ∷ walk world o (suc most)) on.1
      ∙ (ap (λ (slots : List ℕ). s ∷ slots) (walk_stays most world on.0 t on.2) ∙ sym (ap (λ (o : Option ℕ). s ∷ walk world o most) on.1))
]
