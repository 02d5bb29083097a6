-- The lines of the commands of chains, chain by chain.
use Rattle.std.proofs.Common.{◌≡◌, ℕ, zero, suc, ◌+◌, Some, List, [], ◌∷◌, ◌++◌, codes, flat_map, length, length-append, map, refl, sym, ◌∙◌, subst, append_assoc, arith}
use Rattle.std.proofs.lemmas.List.FromFn.{length-map-range_with_len}
use Rattle.std.specs.List.{range_with_len}
use Rattle.mc_slot.specs.declared.Goal.{Goal}
use Rattle.mc_slot.specs.declared.Goal.TheVariants.{Open as ToOpen, Close as ToClose, Hold as ToHold}
use Rattle.mc_script.specs.Rules.{spelt_goal}
use Rattle.mc_script.specs.declared.command.Command.{Command}
use Rattle.mc_scene.specs.Groups.{feature_name, first_goal_word, left_name, right_name}
use Rattle.mc_scene.specs.declared.chains.Chain.{Chain}
use Rattle.mc_scene.specs.declared.chains.FirstGoal.{FirstGoal}
use Rattle.mc_scene.specs.declared.chains.FirstGoal.TheVariants.{Open, Hold, Close}
use Rattle.mc_scene_laws.specs.ChainTexts.{chain_calls, chain_closes, chain_holds, first_told, for_chains, links_through}
use Rattle.mc_scene_laws.specs.Posts.{Post, all_posts, at_left, at_right, between, chain_posts}
use Rattle.mc_scene_laws.specs.SceneTexts.{sets_end}
use Rattle.mc_scene_laws.proofs.ChainOrder.{features_at, posts_counted}
use Rattle.mc_scene_laws.proofs.CommandLines.{SpellEach, Spells, link_spelt, set_spelt, spell-append}
use Rattle.mc_scene_laws.proofs.Ordered.{AreOrdered}

-- ---- lines

abbrev pub link_words : Chain → ℕ → List (List ℕ)
link_words chain place = codes "link" ∷ feature_name chain place ∷ codes "w" ∷ codes "e" ∷ []

abbrev pub set_words : List ℕ → List ℕ → List (List ℕ)
set_words name goal = codes "set" ∷ name ∷ codes "s" ∷ goal ∷ []

abbrev pub call_lines : Chain → List (List (List ℕ))
call_lines chain = map (link_words chain) (range_with_len 0 chain.features) ++ set_words (left_name chain) (codes "open") ∷ set_words (right_name chain) (first_goal_word chain.goal) ∷ []

abbrev pub hold_lines : Chain → List (List (List ℕ))
hold_lines chain = set_words (right_name chain) (codes "hold") ∷ []

abbrev pub close_lines : Chain → List (List (List ℕ))
close_lines chain = set_words (left_name chain) (codes "close") ∷ []

first_goal_spelt : (goal : FirstGoal) → spelt_goal (first_goal_word goal) ≡ Some (first_told goal)
first_goal_spelt Open = refl
first_goal_spelt Hold = refl
first_goal_spelt Close = refl

module _ (all : List Post) (ordered : AreOrdered 0 all) where
  links_spelt : (chain : Chain) (n a who : ℕ) (done tail : List Post) → all ≡ done ++ (map (between chain) (range_with_len a n) ++ tail) → length done ≡ who + 1 + a
      → SpellEach all (map (link_words chain) (range_with_len a n)) (map (λ place. links_through (who + 1 + place)) (range_with_len a n))
  links_spelt chain zero a who done tail is counted = tt
  links_spelt chain (suc n) a who done tail is counted =
      let here = link_spelt all done (between chain a) (map (between chain) (range_with_len (a + 1) n) ++ tail) is ordered refl refl refl in
      let seam = append_assoc done (between chain a ∷ []) (map (between chain) (range_with_len (a + 1) n) ++ tail) in (
        subst (λ (k : ℕ). Spells all (link_words chain a) (links_through k)) counted here,
        links_spelt chain n (a + 1) who (done ++ between chain a ∷ []) tail (is ∙ sym seam) (omega (arith, length-append done (between chain a ∷ []))),
      )

  -- ---- a chain at its place

  module _ (chain : Chain) (before tail : List Post) (who : ℕ) (is : all ≡ before ++ (chain_posts chain ++ tail)) (counted : length before ≡ who) where
    at_features : all ≡ (before ++ at_left chain ∷ []) ++ (map (between chain) (range_with_len 0 chain.features) ++ at_right chain ∷ tail)
    at_features = features_at all before chain tail is

    at_end : all ≡ ((before ++ at_left chain ∷ []) ++ map (between chain) (range_with_len 0 chain.features)) ++ at_right chain ∷ tail
    at_end = at_features ∙ sym (append_assoc (before ++ at_left chain ∷ []) (map (between chain) (range_with_len 0 chain.features)) (at_right chain ∷ tail))

    end_counted : length ((before ++ at_left chain ∷ []) ++ map (between chain) (range_with_len 0 chain.features)) ≡ who + 1 + chain.features
    end_counted = omega (arith, length-append (before ++ at_left chain ∷ []) (map (between chain) (range_with_len 0 chain.features)), length-append before (at_left chain ∷ []), length-map-range_with_len (between chain) 0 chain.features)

    left_spelt : (word : List ℕ) (goal : Goal) → spelt_goal word ≡ Some goal → Spells all (set_words (left_name chain) word) (sets_end who goal)
    left_spelt word goal spelt =
        subst (λ (k : ℕ). Spells all (set_words (left_name chain) word) (sets_end k goal)) counted
        (set_spelt all before (at_left chain) ((map (between chain) (range_with_len 0 chain.features) ++ at_right chain ∷ []) ++ tail) is ordered word goal spelt refl)

    right_spelt : (word : List ℕ) (goal : Goal) → spelt_goal word ≡ Some goal → Spells all (set_words (right_name chain) word) (sets_end (who + 1 + chain.features) goal)
    right_spelt word goal spelt =
        subst (λ (k : ℕ). Spells all (set_words (right_name chain) word) (sets_end k goal)) end_counted
        (set_spelt all ((before ++ at_left chain ∷ []) ++ map (between chain) (range_with_len 0 chain.features)) (at_right chain) tail at_end ordered word goal spelt refl)

    pub calls_spelt : SpellEach all (call_lines chain) (chain_calls who chain)
    calls_spelt =
        spell-append all (map (link_words chain) (range_with_len 0 chain.features)) (set_words (left_name chain) (codes "open") ∷ set_words (right_name chain) (first_goal_word chain.goal) ∷ [])
        (map (λ place. links_through (who + 1 + place)) (range_with_len 0 chain.features)) (sets_end who ToOpen ∷ sets_end (who + 1 + chain.features) (first_told chain.goal) ∷ [])
        (links_spelt chain chain.features 0 who (before ++ at_left chain ∷ []) (at_right chain ∷ tail) at_features (omega (arith, counted, length-append before (at_left chain ∷ []))))
        (left_spelt (codes "open") ToOpen refl, (right_spelt (first_goal_word chain.goal) (first_told chain.goal) (first_goal_spelt chain.goal), tt))

    pub holds_spelt : SpellEach all (hold_lines chain) (chain_holds who chain)
    holds_spelt = (right_spelt (codes "hold") ToHold refl, tt)

    pub closes_spelt : SpellEach all (close_lines chain) (chain_closes who chain)
    closes_spelt = (left_spelt (codes "close") ToClose refl, tt)

  -- ---- all chains

  pub each_spelt : (some_lines : Chain → List (List (List ℕ))) (commands : ℕ → Chain → List Command)
      → ((chain : Chain) (before tail : List Post) (who : ℕ) → all ≡ before ++ (chain_posts chain ++ tail) → length before ≡ who → SpellEach all (some_lines chain) (commands who chain))
      → (chains : List Chain) (before : List Post) (who : ℕ) → all ≡ before ++ all_posts chains → length before ≡ who → SpellEach all (flat_map some_lines chains) (for_chains commands who chains)
  each_spelt some_lines commands one [] before who is counted = tt
  each_spelt some_lines commands one (chain ∷ chains) before who is counted =
      let seam = append_assoc before (chain_posts chain) (all_posts chains) in
      spell-append all (some_lines chain) (flat_map some_lines chains) (commands who chain) (for_chains commands (who + (chain.features + 2)) chains)
      (one chain before (all_posts chains) who is counted)
      (each_spelt some_lines commands one chains (before ++ chain_posts chain) (who + (chain.features + 2)) (is ∙ sym seam) (omega (arith, length-append before (chain_posts chain), posts_counted chain)))
