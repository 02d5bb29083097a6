-- Rings by a table of partners: what stands there is what a world's own slots say.
use Rattle.std.proofs.Common.{◌≡◌, ◌<◌, ◌+◌, ℕ, List, Option, Some, None, get_or, refl, ap, sym, ◌∙◌, subst, arith}
use Rattle.std.specs.Option.{option_and_then, option_map}
use Rattle.mc_slot.specs.declared.Goal.{Goal}
use Rattle.mc_slot.specs.declared.SlotGoal.{SlotGoal}
use Rattle.mc_slot.specs.declared.SlotGoal.TheVariants.{End, Link}
use Rattle.mc_box.specs.Boxes.{goal_at}
use Rattle.mc_model.specs.Paths.{partner_by, partner_of}
use Rattle.mc_model.specs.Rings.{IsFirstOnRing, IsOnRing, NoneBefore}
use Rattle.mc_model.specs.Sound.{IsSound}
use Rattle.mc_model.specs.Worlds.{WorldState, box_at, far, goal_of, number, slot_count}
use Rattle.mc_laws.proofs.ActedWorlds.{far_inside}
use Rattle.mc_laws.proofs.BothWays.{WalkBoth, both_next, none_yet}
use Rattle.mc_laws.proofs.Numbers.{number_is}
use Rattle.mc_laws.proofs.Partners.{are_linked}
use Rattle.mc_laws.proofs.RingWalks.{ring_partner}
use Rattle.mc_world.specs.Rings.{ArePartners}

-- ---- a box's slot, by its goal

-- an end has no partner
pub end_alone : (world : WorldState) (who local slot : ℕ) (goal : Goal) → number world who local ≡ Some slot → goal_at (box_at world who) local ≡ End goal → partner_of world slot ≡ None
end_alone world who local slot goal is aims =
    let at = number_is world who local slot is in
    let goal_is : goal_of world slot ≡ End goal = rw (at.1, at.2) aims in
    ap (λ (g : SlotGoal). partner_by world g slot) goal_is

-- the partner's number, by the goal of the slot
pub linked_is : (world : WorldState) (who local other slot : ℕ) → number world who local ≡ Some slot → goal_at (box_at world who) local ≡ Link other → partner_of world slot ≡ number world who other
linked_is world who local other slot is goal =
    let at = number_is world who local slot is in
    let goal_is : goal_of world slot ≡ Link other = rw (at.1, at.2) goal in
    ap (λ (g : SlotGoal). partner_by world g slot) goal_is ∙ ap (λ (w : ℕ). number world w other) at.1

-- ---- one slot

-- the partner of a slot's partner is the slot itself
pub partner_again : (world : WorldState) (partners : List (Option ℕ)) (s : ℕ) → IsSound world → ArePartners world partners → s < slot_count world
    → option_and_then (λ t. get_or partners t None) (get_or partners s None) ≡ option_map (λ _. s) (partner_of world s)
partner_again world partners s sound are inside =
    ap (λ (o : Option ℕ). option_and_then (λ t. get_or partners t None) o) (are.each s inside) ∙ by_partner (partner_of world s) refl
  where
    by_partner : (o : Option ℕ) → partner_of world s ≡ o → option_and_then (λ t. get_or partners t None) o ≡ option_map (λ _. s) o
    by_partner None is = refl
    by_partner (Some t) is = let link = are_linked world s t sound inside is in are.each t link.inside ∙ link.back

-- so where one is found it is this slot
is_itself : (partner : Option ℕ) (found s : ℕ) → Some found ≡ option_map (λ (_ : ℕ). s) partner → found ≡ s
is_itself None found s is = absurd (cc)
is_itself (Some t) found s is = cc

-- and where none is found it stands on no ring
pub alone_off : (world : WorldState) (s : ℕ) → IsSound world → s < slot_count world → None ≡ option_map (λ (_ : ℕ). s) (partner_of world s) → IsOnRing world s → ⊥
alone_off world s sound inside none ring =
    let link = ring_partner world s sound inside ring in
    let clash : None ≡ Some s = none ∙ ap (λ (o : Option ℕ). option_map (λ (_ : ℕ). s) o) link.1 in
    cc

-- one that is found and stands on a ring is the first that does
pub is_first : (world : WorldState) (s found : ℕ) → s < slot_count world → NoneBefore world s → Some found ≡ option_map (λ (_ : ℕ). s) (partner_of world s)
    → (found < slot_count world → NoneBefore world found → IsOnRing world found) → IsFirstOnRing world found
is_first world s found inside before is on =
    let same : found ≡ s = is_itself (partner_of world s) found s is in
    let there : found < slot_count world = omega (arith, same, inside) in
    let none : NoneBefore world found = subst (NoneBefore world) (sym same) before in
    record { inside = there; on = on there none; least = none }

-- and where it stands on none, nor does any before it
pub not_yet : (world : WorldState) (s found : ℕ) → s < slot_count world → NoneBefore world s → Some found ≡ option_map (λ (_ : ℕ). s) (partner_of world s)
    → (found < slot_count world → NoneBefore world found → IsOnRing world found → ⊥) → NoneBefore world (s + 1)
not_yet world s found inside before is off =
    let same : found ≡ s = is_itself (partner_of world s) found s is in
    none_yet world s before
    (λ on. off (omega (arith, same, inside)) (subst (NoneBefore world) (sym same) before) (subst (IsOnRing world) (sym same) on))

-- ---- two walks

-- one tunnel on, each its way, where both partners stand in the table
pub both_by : (world : WorldState) (partners : List (Option ℕ)) (s done ahead behind other next last before : ℕ) (found found_last : Option ℕ) → IsSound world → ArePartners world partners
    → WalkBoth world s done ahead behind → other ≡ far ahead → found ≡ get_or partners other None → found ≡ Some next → found_last ≡ get_or partners behind None → found_last ≡ Some last → before ≡ far last
    → WalkBoth world s (done + 1) next before
both_by world partners s done ahead behind other next last before found found_last sound are walk is_far is_found to_next is_last to_last is_before =
    let there : other < slot_count world = subst (λ (n : ℕ). n < slot_count world) (sym is_far) (far_inside world ahead walk.ahead_inside) in
    both_next world s done ahead behind other next last before found found_last sound walk is_far (is_found ∙ are.each other there) to_next (is_last ∙ are.each behind walk.behind_inside) to_last is_before
