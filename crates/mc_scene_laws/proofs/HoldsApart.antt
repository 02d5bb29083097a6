-- In a world of chains whose right devices alone hold no path is hold against hold: a walk from a right device ends on the left.
use Rattle.std.proofs.Common.{◌≡◌, ◌⊎◌, inl, inr, ℕ, zero, suc, ◌+◌, ◌-◌, ◌%◌, ◌<◌, Bool, true, false, if◌then◌else◌, List, [], ◌∷◌, ◌++◌, Option, Some, None, IsSome, length, length-append, map, slice_get, slice_index_or, refl, sym, ap, ◌∙◌, subst, append_assoc, arith}
use Rattle.std.proofs.lemmas.List.FromFn.{length-map-range_with_len}
use Rattle.std.specs.List.{AllByRecursion, find, range_with_len}
use Rattle.mc_slot.specs.EndTurn.{is_end_goal}
use Rattle.mc_slot.specs.declared.Goal.{Goal}
use Rattle.mc_slot.specs.declared.Goal.TheVariants.{Open as ToOpen, Close as ToClose, Hold as ToHold}
use Rattle.mc_slot.specs.declared.SlotGoal.{SlotGoal}
use Rattle.mc_slot.specs.declared.SlotGoal.TheVariants.{End, Link}
use Rattle.mc_box.specs.BoxShapes.{BoxShapeState, is_feature}
use Rattle.mc_laws.proofs.Numbers.{number_is}
use Rattle.mc_model.specs.PathTable.{table}
use Rattle.mc_model.specs.Paths.{end_goal, end_goal_of, next_slot, other_end, partner_by, path_from, walk, whole_walk}
use Rattle.mc_model.specs.Worlds.{WorldState, all_tunnels, far, goal_of, place, places, places_among, slot_count}
use Rattle.mc_path_laws.proofs.Quiet.{each_from}
use Rattle.mc_path_laws.proofs.Ends.{parts_of}
use Rattle.mc_settings.specs.Batches.{AreDecided, IsDecided}
use Rattle.mc_scene.specs.declared.chains.Chain.{Chain}
use Rattle.mc_scene_laws.specs.Posts.{Post, at_left, at_right, between, chain_posts, channels_from}
use Rattle.mc_scene_laws.proofs.ChainGoals.{GoalFits, IsRightAt, WorldFits, goal_fits}
use Rattle.mc_scene_laws.proofs.ChainOrder.{features_at}
use Rattle.mc_scene_laws.proofs.OneWay.{AllLeadRight, IsFeatureAt, by_two, far_odd, leads_at, shape_at}

-- ---- the left side of a tunnel

-- the box at the left of a tunnel is no right device
abbrev pub AllComeFromLeft : List Post → List (ℕ × ℕ) → Type 0
AllComeFromLeft all [] = Unit {0}
AllComeFromLeft all (near ∷ []) = ⊥
AllComeFromLeft all (near ∷ beyond ∷ places) = (IsRightAt all near.0 → ⊥) × AllComeFromLeft all places

post_there : (done : List Post) (post : Post) (rest : List Post) (who : ℕ) → length done ≡ who → slice_get (done ++ post ∷ rest) who ≡ Some post
post_there [] post rest zero is = refl
post_there [] post rest (suc who) is = absurd (omega arith)
post_there (first ∷ done) post rest zero is = absurd (omega arith)
post_there (first ∷ done) post rest (suc who) is = post_there done post rest who (omega arith)

left_not_right : (all : List Post) (chain : Chain) (who : ℕ) → slice_get all who ≡ Some (at_left chain) → IsRightAt all who → ⊥
left_not_right all chain who is (other, right) = let clash : Some (at_left chain) ≡ Some (at_right other) = sym is ∙ right in cc

feature_not_right : (all : List Post) (chain : Chain) (at who : ℕ) → slice_get all who ≡ Some (between chain at) → IsRightAt all who → ⊥
feature_not_right all chain at who is (other, right) = let clash : Some (between chain at) ≡ Some (at_right other) = sym is ∙ right in cc

pub channels_come : (all : List Post) (posts done : List Post) (who : ℕ) → all ≡ done ++ posts → length done ≡ who → AllComeFromLeft all (places_among (channels_from who posts))
channels_come all [] done who is counted = tt
channels_come all (at_left chain ∷ posts) done who is counted =
    let seam = append_assoc done (at_left chain ∷ []) posts in (
      left_not_right all chain who (ap (λ (l : List Post). slice_get l who) is ∙ post_there done (at_left chain) posts who counted),
      channels_come all posts (done ++ at_left chain ∷ []) (who + 1) (is ∙ sym seam) (omega (arith, length-append done (at_left chain ∷ []))),
    )
channels_come all (between chain at ∷ posts) done who is counted =
    let seam = append_assoc done (between chain at ∷ []) posts in (
      feature_not_right all chain at who (ap (λ (l : List Post). slice_get l who) is ∙ post_there done (between chain at) posts who counted),
      channels_come all posts (done ++ between chain at ∷ []) (who + 1) (is ∙ sym seam) (omega (arith, length-append done (between chain at ∷ []))),
    )
channels_come all (at_right chain ∷ posts) done who is counted =
    let seam = append_assoc done (at_right chain ∷ []) posts in
    channels_come all posts (done ++ at_right chain ∷ []) (who + 1) (is ∙ sym seam) (omega (arith, length-append done (at_right chain ∷ [])))

comes_at : (all : List Post) (places : List (ℕ × ℕ)) (s : ℕ) → AllComeFromLeft all places → s < length places → s % 2 ≡ 0 → IsRightAt all (slice_index_or places s (0, 0)).0 → ⊥
comes_at all [] s come within even = absurd (omega arith)
comes_at all (near ∷ []) s come within even = absurd come
comes_at all (near ∷ beyond ∷ places) zero come within even = come.0
comes_at all (near ∷ beyond ∷ places) (suc zero) come within even = absurd (omega arith)
comes_at all (near ∷ beyond ∷ places) (suc (suc s)) come within even = comes_at all places s come.1 (omega arith) (omega arith)

-- ---- the boxes of a chain

-- its left device is no feature
pub left_at : (all before : List Post) (chain : Chain) (tail : List Post) (who : ℕ) → all ≡ before ++ (chain_posts chain ++ tail) → length before ≡ who → IsFeatureAt all who → ⊥
left_at all before chain tail who is counted feature =
    let clash : false ≡ true = sym (ap (λ (s : BoxShapeState). is_feature s.kind) (shape_at all before (at_left chain) ((map (between chain) (range_with_len 0 chain.features) ++ at_right chain ∷ []) ++ tail) who is counted)) ∙ feature in
    cc

-- nor is its right device, which stands after its features
pub right_at : (all before : List Post) (chain : Chain) (tail : List Post) (who : ℕ) → all ≡ before ++ (chain_posts chain ++ tail) → length before ≡ who
    → (IsFeatureAt all (who + 1 + chain.features) → ⊥) × IsRightAt all (who + 1 + chain.features)
right_at all before chain tail who is counted =
    let features : List Post = map (between chain) (range_with_len 0 chain.features) in
    let done : List Post = (before ++ at_left chain ∷ []) ++ features in
    let there : all ≡ done ++ at_right chain ∷ tail = features_at all before chain tail is ∙ sym (append_assoc (before ++ at_left chain ∷ []) features (at_right chain ∷ tail)) in
    let place : length done ≡ who + 1 + chain.features =
    omega (arith, counted, length-append (before ++ at_left chain ∷ []) features, length-append before (at_left chain ∷ []), length-map-range_with_len (between chain) 0 chain.features) in (
      λ feature. (let clash : false ≡ true = sym (ap (λ (s : BoxShapeState). is_feature s.kind) (shape_at all done (at_right chain) tail (who + 1 + chain.features) there place)) ∙ feature in cc),
      (chain, ap (λ (l : List Post). slice_get l (who + 1 + chain.features)) there ∙ post_there done (at_right chain) tail (who + 1 + chain.features) place),
    )

-- ---- walks

-- an end slot that some test finds on the far sides
first_or_later : (P : ℕ → Type 0) (Q : ℕ → Type 0) (here : Bool) (s : ℕ) (later : Option ℕ) (t : ℕ) → ((s : ℕ) → P s → Q (far s)) → P s → (later ≡ Some t → Q t) → (if here then Some (far s) else later) ≡ Some t → Q t
first_or_later P Q true s later t beyond first behind is = let same : far s ≡ t = cc in subst Q same (beyond s first)
first_or_later P Q false s later t beyond first behind is = behind is

found_far : (P : ℕ → Type 0) (Q : ℕ → Type 0) (p : ℕ → Bool) (slots : List ℕ) (t : ℕ) → ((s : ℕ) → P s → Q (far s)) → AllByRecursion P slots → find p (map far slots) ≡ Some t → Q t
found_far P Q p [] t beyond all is = absurd (cc)
found_far P Q p (s ∷ slots) t beyond all is = first_or_later P Q (p (far s)) s (find p (map far slots)) t beyond all.0 (found_far P Q p slots t beyond all.1) is

-- a slot on the right side of its tunnel
abbrev IsRightSide : WorldState → ℕ → Type 0
IsRightSide now s = (s % 2 ≡ 1) × (s < slot_count now)

-- and one on the left side
abbrev IsLeftSide : WorldState → ℕ → Type 0
IsLeftSide now s = (s % 2 ≡ 0) × (s < slot_count now)

module _ (all : List Post) (now : WorldState) (fits : WorldFits all now) (lead : AllLeadRight all (places_among now.channels)) (come : AllComeFromLeft all (places_among now.channels)) where
  across : (s : ℕ) → IsRightSide now s → IsLeftSide now (far s)
  across s right =
      let odd = right.0 in
      let inside = right.1 in
      let back : s ≡ suc (s - 1) = omega arith in
      subst (λ (n : ℕ). (n % 2 ≡ 0) × (n < slot_count now)) (sym (far_odd s (s - 1) odd back)) (omega arith, omega arith)

  -- the first slot of a feature is on the right side of its tunnel
  first_right : (u who local : ℕ) → IsFeatureAt all who → local ≡ 0 → (u < slot_count now) × ((place now u).0 ≡ who) × ((place now u).1 ≡ local) → IsRightSide now u
  first_right u who local feature none there = by (by_two u)
    where
      by : (u % 2 ≡ 0) ⊎ (u % 2 ≡ 1) → (u % 2 ≡ 1) × (u < slot_count now)
      by (inr odd) = (odd, there.0)
      by (inl even) =
          let tunnel = leads_at all (places_among now.channels) u lead there.0 even in
          let one : (place now u).1 ≡ 1 = tunnel.2 (subst (λ (n : ℕ). IsFeatureAt all n) (sym there.1) feature) in
          absurd (let clash : 1 ≡ 0 = sym one ∙ (there.2 ∙ none) in omega arith)

  -- the partner of a slot on the left side is on the right side
  goes_by : (v u : ℕ) (goal : SlotGoal) → IsLeftSide now v → GoalFits all (place now v).0 (place now v).1 goal → partner_by now goal v ≡ Some u → IsRightSide now u
  goes_by v u (End goal) left fit is = absurd (cc)
  goes_by v u (Link partner) left fit is =
      let tunnel = leads_at all (places_among now.channels) v lead left.1 left.0 in
      first_right u (place now v).0 partner fit.0 (second_is fit.1 (tunnel.2 fit.0)) (number_is now (place now v).0 partner u is)
    where
      second_is : ((place now v).1 ≡ 0) × (partner ≡ 1) ⊎ ((place now v).1 ≡ 1) × (partner ≡ 0) → (place now v).1 ≡ 1 → partner ≡ 0
      second_is (inl is) one_first = absurd (let none = is.0 in omega arith)
      second_is (inr is) one_first = is.1

  goes_on : (s u : ℕ) → IsRightSide now s → next_slot now s ≡ Some u → IsRightSide now u
  goes_on s u right is = goes_by (far s) u (goal_of now (far s)) (across s right) (goal_fits all now (place now (far s)).0 (place now (far s)).1 fits) is

  walk_right : (most : ℕ) (next : Option ℕ) → ((s : ℕ) → next ≡ Some s → IsRightSide now s) → AllByRecursion (IsRightSide now) (walk now next most)
  walk_right most None right = tt
  walk_right zero (Some s) right = tt
  walk_right (suc most) (Some s) right = (right s refl, walk_right most (next_slot now s) (λ u is. goes_on s u (right s refl) is))

  ends_left : (s t : ℕ) → IsRightSide now s → other_end now s ≡ Some t → IsLeftSide now t
  ends_left s t right is =
      found_far (IsRightSide now) (IsLeftSide now) (λ u. is_end_goal (goal_of now u)) (whole_walk now s) t across
      (walk_right (length (all_tunnels now)) (Some s) (λ u same. subst (IsRightSide now) (let back : s ≡ u = cc in back) right)) is

  -- a slot that holds is on the right side
  held_by : (s : ℕ) (goal : SlotGoal) → GoalFits all (place now s).0 (place now s).1 goal → end_goal_of goal ≡ ToHold → IsRightAt all (place now s).0
  held_by s (End ToHold) fit is = fit
  held_by s (End ToOpen) fit is = absurd (cc)
  held_by s (End ToClose) fit is = absurd (cc)
  held_by s (Link partner) fit is = absurd (cc)

  held : (s : ℕ) → end_goal now s ≡ ToHold → IsRightAt all (place now s).0
  held s is = held_by s (goal_of now s) (goal_fits all now (place now s).0 (place now s).1 fits) is

  held_right : (s : ℕ) → s < slot_count now → end_goal now s ≡ ToHold → IsRightSide now s
  held_right s inside is = by (by_two s)
    where
      by : (s % 2 ≡ 0) ⊎ (s % 2 ≡ 1) → (s % 2 ≡ 1) × (s < slot_count now)
      by (inr odd) = (odd, inside)
      by (inl even) = absurd (comes_at all (places_among now.channels) s come inside even (held s is))

  apart : (s t : ℕ) → s < slot_count now → other_end now s ≡ Some t → end_goal now s ≡ ToHold → end_goal now t ≡ ToHold → ⊥
  apart s t inside leads one two =
      let left = ends_left s t (held_right s inside one) leads in
      comes_at all (places_among now.channels) t come left.1 left.0 (held t two)

  -- the table has an answer
  answered : (goal other : Goal) → (goal ≡ ToHold → other ≡ ToHold → ⊥) → IsSome (table goal other)
  answered ToClose other not = refl
  answered ToOpen ToClose not = refl
  answered ToOpen ToOpen not = refl
  answered ToOpen ToHold not = refl
  answered ToHold ToClose not = refl
  answered ToHold ToOpen not = refl
  answered ToHold ToHold not = absurd (not refl refl)

  pub holds_apart : AreDecided now
  holds_apart =
      each_from (IsDecided now) (path_from now) (places now) 0 (slot_count now) (omega arith)
      (λ s inside path is.
      let parts = parts_of now s path is in
      answered (end_goal now path.low) (end_goal now path.high)
      (λ one two. apart s path.high inside parts.leads (subst (λ (n : ℕ). end_goal now n ≡ ToHold) parts.low_is one) two))
