-- A chain more, and six draws more.
use Rattle.std.proofs.Common.{◌≡◌, ◌+◌, ◌*◌, ℕ, suc, [], ◌∷◌, ◌++◌, map, ap, arith}
use Rattle.std.specs.List.{range_with_len}
use Rattle.mc_scene.specs.Chains.{chain_drawn_at, state_after_draws}
use Rattle.mc_scene.proofs.Numbered.{map_one_more}

pub six_more : (k state : ℕ) → state_after_draws (6 * (k + 1)) state ≡ state_after_draws 6 (state_after_draws (6 * k) state)
six_more k state = let six : 6 * (k + 1) ≡ suc (suc (suc (suc (suc (suc (6 * k)))))) = omega arith in ap (λ (count : ℕ). state_after_draws count state) six

pub chains_more : (state k : ℕ) → map (chain_drawn_at state) (range_with_len 0 (k + 1)) ≡ map (chain_drawn_at state) (range_with_len 0 k) ++ chain_drawn_at state k ∷ []
chains_more state k = map_one_more (chain_drawn_at state) k
