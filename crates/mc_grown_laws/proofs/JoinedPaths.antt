-- The paths of a world that a channel has joined.
use Rattle.std.proofs.Common.{◌≡◌, ◌<◌, ◌+◌, ◌%◌, ◌++◌, cond, if◌then◌else◌, nat_lt, ℕ, zero, suc, Bool, true, false, Option, Some, None, List, [], ◌∷◌, length, add-one, refl, ap, ◌∙◌, subst, arith}
use Rattle.std.specs.List.{cons_option, enumerate_from, filter_map, slice_get}
use Rattle.std.specs.Option.{option_and_then}
use Rattle.std.proofs.lemmas.Bool.{lt-ltb, ltb-true}
use Rattle.std.proofs.lemmas.Grind.{common_steps}
use Rattle.std.proofs.lemmas.List.Elements.{filter_map-append}
use Rattle.mc_signal.specs.declared.Medium.{Medium}
use Rattle.mc_slot.specs.EndTurn.{is_end_goal}
use Rattle.mc_slot.specs.declared.SlotGoal.{SlotGoal}
use Rattle.mc_model.specs.Paths.{PathEnds, end_after, from_low, next_slot, other_end, path_from, paths, walk}
use Rattle.mc_model.specs.Rings.{IsOnRing}
use Rattle.mc_model.specs.Sound.{IsSound}
use Rattle.mc_model.specs.Worlds.{TunnelPlace, WorldState, all_tunnels, box_at, far, goal_of, places, slot_count}
use Rattle.mc_laws.proofs.ActedWorlds.{far_inside}
use Rattle.mc_laws.proofs.Partners.{next_is}
use Rattle.mc_laws.proofs.RingWalks.{rings_meet_no_end}
use Rattle.mc_laws.proofs.Walks.{walk_stays}
use Rattle.mc_growth.specs.Joins.{MayJoin, joined}
use Rattle.mc_growth.proofs.Joined.{count_even, count_joined, places_joined, same_slot, tunnels_joined}
use Rattle.mc_growth.proofs.JoinedPartners.{goal_away, goal_near, next_before}
use Rattle.mc_growth.proofs.JoinedSound.{join_keeps_sound}
use Rattle.mc_growth.proofs.Lists.{length_one}
use Rattle.mc_grown_laws.specs.GrownLaws.{JoinedPaths}

-- ---- walks from slots that were there

-- the slots of a walk are there, and the walk is the same
walk_same : (most : ℕ) (world : WorldState) (medium : Medium) (from to : ℕ) (o : Option ℕ) → IsSound world → MayJoin world from to → ((s : ℕ) → o ≡ Some s → s < slot_count world)
    → walk (joined world medium from to) o most ≡ walk world o most
walk_same most world medium from to None sound may there = refl
walk_same zero world medium from to (Some s) sound may there = refl
walk_same (suc most) world medium from to (Some s) sound may there =
    let inside = there s refl in
    let next = next_before world medium from to s sound may inside in
    ap (λ (l : List ℕ). s ∷ l)
    (ap (λ (o : Option ℕ). walk (joined world medium from to) o most) next
    ∙ walk_same most world medium from to (next_slot world s) sound may (λ t is. (next_is world s t sound inside is).inside))

-- the goals at its far ends are the same
end_same : (most : ℕ) (world : WorldState) (medium : Medium) (from to : ℕ) (o : Option ℕ) → IsSound world → MayJoin world from to → ((s : ℕ) → o ≡ Some s → s < slot_count world)
    → end_after (joined world medium from to) (walk world o most) ≡ end_after world (walk world o most)
end_same most world medium from to None sound may there = refl
end_same zero world medium from to (Some s) sound may there = refl
end_same (suc most) world medium from to (Some s) sound may there =
    let next = joined world medium from to in
    let inside = there s refl in
    let goal = (same_slot world medium from to (far s) sound.numbered may (far_inside world s inside)).goal in
    ap (λ (g : SlotGoal). cond (is_end_goal g) (Some (far s)) (end_after next (walk world (next_slot world s) most))) goal
    ∙ ap (λ (o : Option ℕ). cond (is_end_goal (goal_of world (far s))) (Some (far s)) o)
    (end_same most world medium from to (next_slot world s) sound may (λ t is. (next_is world s t sound inside is).inside))

is_there : (world : WorldState) (s t : ℕ) → s < slot_count world → Some s ≡ Some t → t < slot_count world
is_there world s t inside is = let same : s ≡ t = cc in subst (λ (n : ℕ). n < slot_count world) same inside

-- so the end of a walk over so many tunnels is
comes_same : (most : ℕ) (world : WorldState) (medium : Medium) (from to s : ℕ) → IsSound world → MayJoin world from to → s < slot_count world
    → end_after (joined world medium from to) (walk (joined world medium from to) (Some s) most) ≡ end_after world (walk world (Some s) most)
comes_same most world medium from to s sound may inside =
    ap (end_after (joined world medium from to)) (walk_same most world medium from to (Some s) sound may (λ t is. is_there world s t inside is))
    ∙ end_same most world medium from to (Some s) sound may (λ t is. is_there world s t inside is)

-- a ring is still one
ring_still : (world : WorldState) (medium : Medium) (from to s : ℕ) → IsSound world → MayJoin world from to → s < slot_count world → IsOnRing world s → IsOnRing (joined world medium from to) s
ring_still world medium from to s sound may inside ring = record {
  count = ring.count;
  some = ring.some;
  back = ap (λ (l : List ℕ). slice_get l ring.count) (walk_same (suc ring.count) world medium from to (Some s) sound may (λ t is. is_there world s t inside is)) ∙ ring.back;
}

tunnel_more : (world : WorldState) (medium : Medium) (from to : ℕ) → length (all_tunnels (joined world medium from to)) ≡ suc (length (all_tunnels world))
tunnel_more world medium from to =
    ap (λ (l : List TunnelPlace). length l) (tunnels_joined world medium from to)
    ∙ (length_one (all_tunnels world) (record { channel = length world.channels; within = 0; medium = medium }) ∙ add-one (length (all_tunnels world)))

-- with one tunnel more to go a walk comes to the end that it came to, or to none
other_by : (world : WorldState) (medium : Medium) (from to s : ℕ) (end : Option ℕ) → IsSound world → MayJoin world from to → s < slot_count world → other_end world s ≡ end
    → other_end (joined world medium from to) s ≡ end
other_by world medium from to s None sound may inside is =
    let next = joined world medium from to in
    let ring : IsOnRing world s = (rings_meet_no_end world s sound inside).0 is in
    (rings_meet_no_end next s (join_keeps_sound world medium from to sound may) (omega (arith, inside, count_joined world medium from to))).1 (ring_still world medium from to s sound may inside ring)
other_by world medium from to s (Some t) sound may inside is =
    let next = joined world medium from to in
    let most : ℕ = length (all_tunnels world) in
    ap (λ (n : ℕ). end_after next (walk next (Some s) n)) (tunnel_more world medium from to)
    ∙ (comes_same (suc most) world medium from to s sound may inside ∙ (ap (end_after world) (walk_stays most world s t is) ∙ is))

path_same : (world : WorldState) (medium : Medium) (from to s : ℕ) → IsSound world → MayJoin world from to → s < slot_count world → path_from (joined world medium from to) s ≡ path_from world s
path_same world medium from to s sound may inside =
    let next = joined world medium from to in
    let goal = (same_slot world medium from to s sound.numbered may inside).goal in
    ap (λ (g : SlotGoal). if is_end_goal g then option_and_then (from_low s) (other_end next s) else None) goal
    ∙ ap (λ (o : Option ℕ). if is_end_goal (goal_of world s) then option_and_then (from_low s) o else None) (other_by world medium from to s (other_end world s) sound may inside refl)

-- ---- the new path

far_even : (n : ℕ) → n % 2 ≡ 0 → far n ≡ n + 1
far_even n even = grind (arith, common_steps)

far_odd : (n : ℕ) → n % 2 ≡ 0 → far (n + 1) ≡ n
far_odd n even = grind (arith, common_steps)

-- a slot whose far slot is an end comes to it at once
at_once : (world : WorldState) (s t most : ℕ) → far s ≡ t → is_end_goal (goal_of world t) ≡ true → length (all_tunnels world) ≡ suc most → other_end world s ≡ Some t
at_once world s t most is end size =
    ap (λ (n : ℕ). end_after world (walk world (Some s) n)) size
    ∙ (ap (λ (n : ℕ). cond (is_end_goal (goal_of world n)) (Some n) (end_after world (walk world (next_slot world s) most))) is
    ∙ ap (λ (b : Bool). cond b (Some t) (end_after world (walk world (next_slot world s) most))) end)

low_first : (n : ℕ) → from_low n (n + 1) ≡ Some (record { low = n; high = n + 1 })
low_first n = ap (λ (b : Bool). if b then Some (record { low = n; high = n + 1 }) else None) (lt-ltb n (n + 1) (omega arith))

low_late : (n : ℕ) → from_low (n + 1) n ≡ None
low_late n = ap (λ (b : Bool). if b then Some (record { low = n + 1; high = n }) else None) (not_true (nat_lt (n + 1) n) (λ is. absurd (omega (arith, ltb-true (n + 1) n is))))
  where
    not_true : (t : Bool) → (t ≡ true → ⊥) → t ≡ false
    not_true true never = absurd (never refl)
    not_true false never = refl

path_near : (world : WorldState) (medium : Medium) (from to : ℕ) → IsSound world → MayJoin world from to
    → path_from (joined world medium from to) (slot_count world) ≡ Some (record { low = slot_count world; high = slot_count world + 1 })
path_near world medium from to sound may =
    let next = joined world medium from to in
    let n : ℕ = slot_count world in
    let here = ap is_end_goal (goal_near world medium from to sound may) in
    let there = ap is_end_goal (goal_away world medium from to sound may) in
    ap (λ (b : Bool). if b then option_and_then (from_low n) (other_end next n) else None) here
    ∙ (ap (λ (o : Option ℕ). option_and_then (from_low n) o) (at_once next n (n + 1) (length (all_tunnels world)) (far_even n (count_even world)) there (tunnel_more world medium from to))
    ∙ low_first n)

path_away : (world : WorldState) (medium : Medium) (from to : ℕ) → IsSound world → MayJoin world from to → path_from (joined world medium from to) (slot_count world + 1) ≡ None
path_away world medium from to sound may =
    let next = joined world medium from to in
    let n : ℕ = slot_count world in
    let here = ap is_end_goal (goal_near world medium from to sound may) in
    let there = ap is_end_goal (goal_away world medium from to sound may) in
    ap (λ (b : Bool). if b then option_and_then (from_low (n + 1)) (other_end next (n + 1)) else None) there
    ∙ (ap (λ (o : Option ℕ). option_and_then (from_low (n + 1)) o) (at_once next (n + 1) n (length (all_tunnels world)) (far_odd n (count_even world)) here (tunnel_more world medium from to))
    ∙ low_late n)

-- ---- all of them

abbrev listed : (ℕ → Option PathEnds) → ℕ → List (ℕ × ℕ) → List PathEnds
listed f first slots = filter_map (λ entry. f entry.0) (enumerate_from first slots)

listed_same : (f g : ℕ → Option PathEnds) (first : ℕ) (slots : List (ℕ × ℕ)) → ((s : ℕ) → s < first + length slots → f s ≡ g s) → listed f first slots ≡ listed g first slots
listed_same f g first [] same = refl
listed_same f g first (slot ∷ slots) same =
    ap (λ (o : Option PathEnds). cons_option o (listed f (first + 1) slots)) (same first (omega arith))
    ∙ ap (cons_option (g first)) (listed_same f g (first + 1) slots (λ s below. same s (omega (arith, below))))

enumerate_append : (first n : ℕ) (xs ys : List (ℕ × ℕ)) → n ≡ first + length xs → enumerate_from first (xs ++ ys) ≡ enumerate_from first xs ++ enumerate_from n ys
enumerate_append first n [] ys is = ap (λ (k : ℕ). enumerate_from k ys) (omega (arith, is))
enumerate_append first n (x ∷ xs) ys is = ap (λ (l : List (ℕ × (ℕ × ℕ))). (first, x) ∷ l) (enumerate_append (first + 1) n xs ys (omega (arith, is)))

listed_append : (f : ℕ → Option PathEnds) (first n : ℕ) (xs ys : List (ℕ × ℕ)) → n ≡ first + length xs → listed f first (xs ++ ys) ≡ listed f first xs ++ listed f n ys
listed_append f first n xs ys is =
    ap (filter_map (λ (entry : ℕ × (ℕ × ℕ)). f entry.0)) (enumerate_append first n xs ys is) ∙ filter_map-append (λ (entry : ℕ × (ℕ × ℕ)). f entry.0) (enumerate_from first xs) (enumerate_from n ys)

two_listed : (f : ℕ → Option PathEnds) (n : ℕ) (p q : ℕ × ℕ) (path : PathEnds) → f n ≡ Some path → f (n + 1) ≡ None → listed f n (p ∷ q ∷ []) ≡ path ∷ []
two_listed f n p q path one two = ap (λ (o : Option PathEnds). cons_option o (cons_option (f (n + 1)) [])) one ∙ ap (λ (o : Option PathEnds). path ∷ cons_option o []) two

pub joined_paths : JoinedPaths
joined_paths world medium from to sound may =
    let next = joined world medium from to in
    let n : ℕ = slot_count world in
    ap (λ (l : List (ℕ × ℕ)). listed (path_from next) 0 l) (places_joined world medium from to)
    ∙ (listed_append (path_from next) 0 n (places world) _ (omega arith)
    ∙ (ap (λ (l : List PathEnds). l ++ listed (path_from next) n ((from, length (box_at world from).slots) ∷ (to, length (box_at world to).slots) ∷ []))
    (listed_same (path_from next) (path_from world) 0 (places world) (λ s below. path_same world medium from to s sound may (omega (arith, below))))
    ∙ ap (λ (l : List PathEnds). paths world ++ l)
    (two_listed (path_from next) n (from, length (box_at world from).slots) (to, length (box_at world to).slots) (record { low = n; high = n + 1 }) (path_near world medium from to sound may) (path_away world medium from to sound may))))
