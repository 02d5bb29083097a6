-- In a text of chains a chain of tunnels and named links goes one way: to the right or to the left.
use Rattle.std.proofs.Common.{◌≡◌, ◌⊎◌, inl, inr, ℕ, zero, suc, ◌+◌, ◌-◌, ◌%◌, ◌<◌, ◌==◌, true, false, List, [], ◌∷◌, ◌++◌, length, length-append, map, slice_index_or, refl, sym, ap, ◌∙◌, subst, append_assoc, arith}
use Rattle.std.proofs.lemmas.Bool.{cases_eq}
use Rattle.std.proofs.lemmas.List.{length-map, map-append}
use Rattle.mc_box.specs.BoxShapes.{BoxShapeState, is_feature, no_shape, shape_of}
use Rattle.mc_model.specs.Worlds.{WorldState, far, place, places_among, slot_count}
use Rattle.mc_box.specs.declared.event.Turn.{Turn}
use Rattle.mc_laws.specs.Chains.{ClosesNoChain, Joins, NamesLink}
use Rattle.mc_laws.proofs.Chains.{Leads, no_way_closes}
use Rattle.mc_laws.proofs.Numbers.{number_is}
use Rattle.mc_scene_laws.specs.Posts.{Post, at_left, at_right, between, channels_from, post_shape}
use Rattle.mc_scene_laws.proofs.Seams.{first_there}

-- ---- features

-- the box with this number is a feature
abbrev pub IsFeatureAt : List Post → ℕ → Type 0
IsFeatureAt all who = is_feature (shape_of (map post_shape all) who).kind ≡ true

pub shape_at : (all done : List Post) (post : Post) (rest : List Post) (who : ℕ) → all ≡ done ++ post ∷ rest → length done ≡ who → shape_of (map post_shape all) who ≡ post_shape post
shape_at all done post rest who is counted =
    ap (λ (posts : List Post). shape_of (map post_shape posts) who) is
    ∙ (ap (λ (l : List BoxShapeState). shape_of l who) (map-append post_shape done (post ∷ rest))
    ∙ first_there (map post_shape done) (map post_shape rest) (post_shape post) no_shape who (sym counted ∙ sym (length-map done post_shape)))

-- ---- the places of slots

-- the two slots of a tunnel: it leads to slot 0 of the next box, and from slot 1 where it comes from a feature
abbrev pub LeadsRight : List Post → ℕ × ℕ → ℕ × ℕ → Type 0
LeadsRight all near beyond = (beyond.0 ≡ near.0 + 1) × (beyond.1 ≡ 0) × (IsFeatureAt all near.0 → near.1 ≡ 1)

abbrev pub AllLeadRight : List Post → List (ℕ × ℕ) → Type 0
AllLeadRight all [] = Unit {0}
AllLeadRight all (near ∷ []) = ⊥
AllLeadRight all (near ∷ beyond ∷ places) = LeadsRight all near beyond × AllLeadRight all places

pub channels_lead : (all : List Post) (posts done : List Post) (who : ℕ) → all ≡ done ++ posts → length done ≡ who → AllLeadRight all (places_among (channels_from who posts))
channels_lead all [] done who is counted = tt
channels_lead all (at_left chain ∷ posts) done who is counted =
    let seam = append_assoc done (at_left chain ∷ []) posts in (
      (refl, refl, λ feature. absurd (let clash : false ≡ true = sym (ap (λ (s : BoxShapeState). is_feature s.kind) (shape_at all done (at_left chain) posts who is counted)) ∙ feature in cc)),
      channels_lead all posts (done ++ at_left chain ∷ []) (who + 1) (is ∙ sym seam) (omega (arith, length-append done (at_left chain ∷ []))),
    )
channels_lead all (between chain at ∷ posts) done who is counted =
    let seam = append_assoc done (between chain at ∷ []) posts in
    ((refl, refl, λ feature. refl), channels_lead all posts (done ++ between chain at ∷ []) (who + 1) (is ∙ sym seam) (omega (arith, length-append done (between chain at ∷ []))))
channels_lead all (at_right chain ∷ posts) done who is counted =
    let seam = append_assoc done (at_right chain ∷ []) posts in
    channels_lead all posts (done ++ at_right chain ∷ []) (who + 1) (is ∙ sym seam) (omega (arith, length-append done (at_right chain ∷ [])))

-- an even slot and the next one are those of a tunnel
pub leads_at : (all : List Post) (places : List (ℕ × ℕ)) (s : ℕ) → AllLeadRight all places → s < length places → s % 2 ≡ 0 → LeadsRight all (slice_index_or places s (0, 0)) (slice_index_or places (suc s) (0, 0))
leads_at all [] s lead within even = absurd (omega arith)
leads_at all (near ∷ []) s lead within even = absurd lead
leads_at all (near ∷ beyond ∷ places) zero lead within even = lead.0
leads_at all (near ∷ beyond ∷ places) (suc zero) lead within even = absurd (omega arith)
leads_at all (near ∷ beyond ∷ places) (suc (suc s)) lead within even = leads_at all places s lead.1 (omega arith) (omega arith)

-- ---- chains

-- a named link joins the two slots of a feature
abbrev pub LinksThrough : List Post → (who first second : ℕ) → Type 0
LinksThrough all who first second = IsFeatureAt all who × (((first ≡ 0) × (second ≡ 1)) ⊎ ((first ≡ 1) × (second ≡ 0)))

far_even : (s : ℕ) → s % 2 ≡ 0 → far s ≡ suc s
far_even s even =
    let is : (s % 2 == 0) ≡ true = grind arith in
    let same : s + 1 ≡ suc s = omega arith in
    rw (is, same) refl

pub far_odd : (s v : ℕ) → s % 2 ≡ 1 → s ≡ suc v → far s ≡ v
far_odd s v odd is =
    let not_even : (s % 2 == 0) ≡ false = grind arith in
    let same : s - 1 ≡ v = omega arith in
    rw (not_even, same) refl

pub by_two : (s : ℕ) → (s % 2 ≡ 0) ⊎ (s % 2 ≡ 1)
by_two s = by (cases_eq (s % 2) 0)
  where
    by : (s % 2 ≡ 0) ⊎ (s % 2 ≡ 0 → ⊥) → (s % 2 ≡ 0) ⊎ (s % 2 ≡ 1)
    by (inl even) = inl even
    by (inr odd) = inr (omega arith)

module _ (all : List Post) (world : WorldState) (batches : List (List Turn)) (lead : AllLeadRight all (places_among world.channels)) (through : (who first second : ℕ) → NamesLink world batches who first second → LinksThrough all who first second) where
  -- from an even slot the next one is even, of the next box
  rises : (s u : ℕ) → s % 2 ≡ 0 → Joins world batches (far s) u → (u % 2 ≡ 0) × ((place world u).0 ≡ (place world s).0 + 1)
  rises s u even joins =
      let near = number_is world joins.who joins.first (far s) joins.near in
      let beyond = number_is world joins.who joins.second u joins.beyond in
      let over : far s ≡ suc s = far_even s even in
      let inside : suc s < slot_count world = subst (λ (n : ℕ). n < slot_count world) over near.0 in
      let tunnel = leads_at all (places_among world.channels) s lead (omega arith) even in
      let box : (place world (suc s)).0 ≡ joins.who = subst (λ (n : ℕ). (place world n).0 ≡ joins.who) over near.1 in
      let first : (place world (suc s)).1 ≡ joins.first = subst (λ (n : ℕ). (place world n).1 ≡ joins.first) over near.2 in
      let link = through joins.who joins.first joins.second joins.named in
      (even_by u (second_is link.1 (sym first ∙ tunnel.1)) beyond, beyond.1 ∙ (sym box ∙ tunnel.0))
    where
      second_is : {first second : ℕ} → ((first ≡ 0) × (second ≡ 1)) ⊎ ((first ≡ 1) × (second ≡ 0)) → first ≡ 0 → second ≡ 1
      second_is (inl is) zero_first = is.1
      second_is (inr is) zero_first = absurd (let one = is.0 in omega arith)

      even_by : (u : ℕ) {second who : ℕ} → second ≡ 1 → (u < slot_count world) × ((place world u).0 ≡ who) × ((place world u).1 ≡ second) → u % 2 ≡ 0
      even_by u is there = by (by_two u)
        where
          by : (u % 2 ≡ 0) ⊎ (u % 2 ≡ 1) → u % 2 ≡ 0
          by (inl e) = e
          by (inr odd) =
              let back : suc (u - 1) ≡ u = omega arith in
              let within = there.0 in
              let tunnel = leads_at all (places_among world.channels) (u - 1) lead (omega arith) (omega arith) in
              let none : (place world u).1 ≡ 0 = subst (λ (n : ℕ). (place world n).1 ≡ 0) back tunnel.1 in
              absurd (let clash : 0 ≡ 1 = sym none ∙ (there.2 ∙ is) in omega arith)

  -- from an odd slot the next one is odd, of the box before
  falls : (s u : ℕ) → s % 2 ≡ 1 → Joins world batches (far s) u → (u % 2 ≡ 1) × ((place world u).0 + 1 ≡ (place world s).0)
  falls s u odd joins =
      let near = number_is world joins.who joins.first (far s) joins.near in
      let beyond = number_is world joins.who joins.second u joins.beyond in
      let back : s ≡ suc (s - 1) = omega arith in
      let over : far s ≡ s - 1 = far_odd s (s - 1) odd back in
      let inside : s - 1 < slot_count world = subst (λ (n : ℕ). n < slot_count world) over near.0 in
      let tunnel = leads_at all (places_among world.channels) (s - 1) lead inside (omega arith) in
      let box : (place world (s - 1)).0 ≡ joins.who = subst (λ (n : ℕ). (place world n).0 ≡ joins.who) over near.1 in
      let first : (place world (s - 1)).1 ≡ joins.first = subst (λ (n : ℕ). (place world n).1 ≡ joins.first) over near.2 in
      let link = through joins.who joins.first joins.second joins.named in
      let feature : IsFeatureAt all (place world (s - 1)).0 = subst (λ (n : ℕ). IsFeatureAt all n) (sym box) link.0 in
      let own : (place world s).0 ≡ (place world (s - 1)).0 + 1 = subst (λ (n : ℕ). (place world n).0 ≡ (place world (s - 1)).0 + 1) (sym back) tunnel.0 in
      (odd_by u link.0 (second_is link.1 (sym first ∙ tunnel.2 feature)) beyond, ap (λ (n : ℕ). n + 1) (beyond.1 ∙ sym box) ∙ sym own)
    where
      second_is : {first second : ℕ} → ((first ≡ 0) × (second ≡ 1)) ⊎ ((first ≡ 1) × (second ≡ 0)) → first ≡ 1 → second ≡ 0
      second_is (inl is) one_first = absurd (let none = is.0 in omega arith)
      second_is (inr is) one_first = is.1

      odd_by : (u : ℕ) {second who : ℕ} → IsFeatureAt all who → second ≡ 0 → (u < slot_count world) × ((place world u).0 ≡ who) × ((place world u).1 ≡ second) → u % 2 ≡ 1
      odd_by u feature is there = by (by_two u)
        where
          by : (u % 2 ≡ 0) ⊎ (u % 2 ≡ 1) → u % 2 ≡ 1
          by (inr o) = o
          by (inl even) =
              let tunnel = leads_at all (places_among world.channels) u lead there.0 even in
              let one : (place world u).1 ≡ 1 = tunnel.2 (subst (λ (n : ℕ). IsFeatureAt all n) (sym there.1) feature) in
              absurd (let clash : 1 ≡ 0 = sym one ∙ (there.2 ∙ is) in omega arith)

  all_rise : (count s t : ℕ) → s % 2 ≡ 0 → Leads world batches count s t → (place world s).0 + count ≡ (place world t).0
  all_rise zero s t even same = let here : (place world s).0 ≡ (place world t).0 = ap (λ (n : ℕ). (place world n).0) same in omega arith
  all_rise (suc count) s t even (u, joins, others) =
      let here = rises s u even joins in
      let one = here.1 in
      let behind = all_rise count u t here.0 others in
      omega arith

  all_fall : (count s t : ℕ) → s % 2 ≡ 1 → Leads world batches count s t → (place world t).0 + count ≡ (place world s).0
  all_fall zero s t odd same = let here : (place world s).0 ≡ (place world t).0 = ap (λ (n : ℕ). (place world n).0) same in omega arith
  all_fall (suc count) s t odd (u, joins, others) =
      let here = falls s u odd joins in
      let one = here.1 in
      let behind = all_fall count u t here.0 others in
      omega arith

  -- so it never comes back
  pub one_way : ClosesNoChain world batches
  one_way = no_way_closes world batches leads_back
    where
      leads_back : (s count : ℕ) → 0 < count → Leads world batches count s s → ⊥
      leads_back s count some leads = by (by_two s)
        where
          by : (s % 2 ≡ 0) ⊎ (s % 2 ≡ 1) → ⊥
          by (inl even) = let rise = all_rise count s s even leads in omega arith
          by (inr odd) = let fall = all_fall count s s odd leads in omega arith
