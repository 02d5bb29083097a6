-- The boxes of numbered chains are in order, and each chain goes on from its left device to its right one.
use Rattle.std.proofs.Common.{◌≡◌, ◌∙◌, ℕ, zero, suc, ◌+◌, ◌*◌, ◌<◌, ◌≤◌, false, List, [], ◌∷◌, ◌++◌, length, length-append, map, refl, ap, sym, subst, append_assoc, arith}
use Rattle.std.proofs.lemmas.List.FromFn.{length-map-range_with_len}
use Rattle.std.specs.List.{range_with_len}
use Rattle.mc_scene.specs.declared.chains.Chain.{Chain}
use Rattle.mc_scene_laws.specs.ChainTexts.{AreNumberedChains, IsNumberedChain}
use Rattle.mc_scene_laws.specs.Posts.{Post, all_posts, at_left, at_right, between, chain_posts}
use Rattle.mc_scene_laws.proofs.ChannelLines.{GoesOn, is_right}
use Rattle.mc_scene_laws.proofs.Ordered.{AreOrdered}

-- ---- in order

features_ordered : (chain : Chain) (n a low : ℕ) (rest : List Post) → a + n ≤ 3 → chain.number < 50 → low ≤ 5 * chain.number + (a + 1) → ((next : ℕ) → next ≤ 5 * chain.number + 4 → AreOrdered next rest)
    → AreOrdered low (map (between chain) (range_with_len a n) ++ rest)
features_ordered chain zero a low rest few within least more = more low (omega arith)
features_ordered chain (suc n) a low rest few within least more =
    (least, (within, omega arith), features_ordered chain n (a + 1) (5 * chain.number + (a + 1) + 1) rest (omega arith) within (omega arith) more)

chain_ordered : (number : ℕ) (chain : Chain) (rest : List Post) → IsNumberedChain number chain → number < 50 → AreOrdered (5 * (number + 1)) rest → AreOrdered (5 * number) (chain_posts chain ++ rest)
chain_ordered number chain rest is within behind =
    let numbered = is.numbered in
    let few = is.few in
    let inside : chain.number < 50 = omega arith in
    let next_one : 5 * (number + 1) ≡ 5 * chain.number + 4 + 1 = omega arith in
    let right : (next : ℕ) → next ≤ 5 * chain.number + 4 → AreOrdered next (at_right chain ∷ rest) = λ next low. (low, (inside, is.right), subst (λ (n : ℕ). AreOrdered n rest) next_one behind) in
    let seam = append_assoc (map (between chain) (range_with_len 0 chain.features)) (at_right chain ∷ []) rest in (
      omega arith,
      (inside, is.left),
      subst (λ (posts : List Post). AreOrdered (5 * chain.number + 1) posts) (sym seam) (features_ordered chain chain.features 0 (5 * chain.number + 1) (at_right chain ∷ rest) (omega arith) inside (omega arith) right),
    )

pub chains_ordered : (chains : List Chain) (number : ℕ) → AreNumberedChains number chains → number + length chains ≤ 50 → AreOrdered (5 * number) (all_posts chains)
chains_ordered [] number are few = tt
chains_ordered (chain ∷ chains) number are few = chain_ordered number chain (all_posts chains) are.0 (omega arith) (chains_ordered chains (number + 1) are.1 (omega arith))

-- ---- one after the other

features_go : (chain : Chain) (n a : ℕ) (post : Post) (rest : List Post) → is_right post ≡ false → GoesOn (at_right chain) rest → GoesOn post (map (between chain) (range_with_len a n) ++ at_right chain ∷ rest)
features_go chain zero a post rest goes behind = (sym goes, behind)
features_go chain (suc n) a post rest goes behind = (sym goes, features_go chain n (a + 1) (between chain a) rest refl behind)

-- all but the left device of the first of some chains
abbrev pub posts_behind : Chain → List Chain → List Post
posts_behind chain chains = (map (between chain) (range_with_len 0 chain.features) ++ at_right chain ∷ []) ++ all_posts chains

pub chains_go : (chains : List Chain) (chain : Chain) → GoesOn (at_left chain) (posts_behind chain chains)
chains_go [] chain =
    let seam = append_assoc (map (between chain) (range_with_len 0 chain.features)) (at_right chain ∷ []) [] in
    subst (λ (posts : List Post). GoesOn (at_left chain) posts) (sym seam) (features_go chain chain.features 0 (at_left chain) [] refl refl)
chains_go (next ∷ others) chain =
    let seam = append_assoc (map (between chain) (range_with_len 0 chain.features)) (at_right chain ∷ []) (all_posts (next ∷ others)) in
    subst (λ (posts : List Post). GoesOn (at_left chain) posts) (sym seam) (features_go chain chain.features 0 (at_left chain) (all_posts (next ∷ others)) refl (refl, chains_go others next))

-- ---- a chain among the boxes of all

-- it has two devices
pub posts_counted : (chain : Chain) → length (chain_posts chain) ≡ chain.features + 2
posts_counted chain = omega (arith, length-append (map (between chain) (range_with_len 0 chain.features)) (at_right chain ∷ []), length-map-range_with_len (between chain) 0 chain.features)

-- its features come after its left device, and then its right device
pub features_at : (all before : List Post) (chain : Chain) (tail : List Post) → all ≡ before ++ (chain_posts chain ++ tail)
    → all ≡ (before ++ at_left chain ∷ []) ++ (map (between chain) (range_with_len 0 chain.features) ++ at_right chain ∷ tail)
features_at all before chain tail is =
    is
    ∙ (ap (λ (l : List Post). before ++ at_left chain ∷ l) (append_assoc (map (between chain) (range_with_len 0 chain.features)) (at_right chain ∷ []) tail)
    ∙ sym (append_assoc before (at_left chain ∷ []) (map (between chain) (range_with_len 0 chain.features) ++ at_right chain ∷ tail)))
