-- Lanes of new channels.
use Rattle.std.proofs.Common.{◌≡◌, ℕ, ◌+◌, ◌*◌, List, [], ◌∷◌, ◌++◌, map, ◌∙◌, ap, arith}
use Rattle.std.proofs.Math.ListN.{replicate}
use Rattle.std.proofs.lemmas.List.{map_push, replicate_more}
use Rattle.mc_lane.specs.Queue.{Queue}
use Rattle.mc_signal.specs.declared.Tagged.{Tagged}

abbrev items_of : Queue Tagged → List Tagged
items_of lane = lane.items

-- one more empty lane
one_more : (lanes : List (Queue Tagged)) (lane : Queue Tagged) (n : ℕ) → map items_of lanes ≡ replicate n [] → lane.items ≡ []
    → map items_of (lanes ++ lane ∷ []) ≡ replicate (n + 1) []
one_more lanes lane n before empty = rw (map_push items_of lanes lane, before, empty) (replicate_more n [])

-- the two lanes of one more channel
pub two_more : (lanes : List (Queue Tagged)) (first second : Queue Tagged) (n : ℕ) → map items_of lanes ≡ replicate (2 * n) [] → first.items ≡ [] → second.items ≡ []
    → map items_of ((lanes ++ first ∷ []) ++ second ∷ []) ≡ replicate (2 * (n + 1)) []
two_more lanes first second n before one two =
    let count : 2 * n + 1 + 1 ≡ 2 * (n + 1) = omega arith in
    one_more (lanes ++ first ∷ []) second (2 * n + 1) (one_more lanes first (2 * n) before one) two ∙ ap (λ (k : ℕ). replicate k []) count
