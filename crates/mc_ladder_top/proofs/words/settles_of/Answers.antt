use Rattle.std.proofs.Common.{◌≡◌, ◌≤◌, ℕ, Bor, List, [], ◌∷◌, None, arith, length, map, refl}
use Rattle.mc_ladder_top.specs.Words.{settles_of}
use Rattle.mc_ladder_top.proofs.words.settles_of.Goals as goal

-- two words name nothing
two_none : (words : List (Bor (List ℕ))) → 2 ≤ length words → None ≡ settles_of (map (λ word. word.now) words)
two_none [] more = absurd (grind (arith, more))
two_none (word ∷ []) more = absurd (grind (arith, more))
two_none (word ∷ other ∷ words) more = refl

pub returns-in_default : goal.returns-in_default
returns-in_default c = two_none c.args.words.now c.in_default.len_at_least
