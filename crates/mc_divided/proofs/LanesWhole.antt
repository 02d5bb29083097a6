-- The lanes of a network, as they are found in its parts.
use Rattle.std.proofs.Common.{◌≡◌, ◌+◌, ◌++◌, ℕ, suc, List, [], ◌∷◌, ap, ap₂, ◌∙◌, arith}
use Rattle.std.proofs.lemmas.List.{append_assoc, map_push}
use Rattle.mc_lane.specs.Queue.{Queue}
use Rattle.mc_model.specs.Worlds.{ChannelState}
use Rattle.mc_divided.specs.Whole.{lane_by, lanes_upto}
use Rattle.mc_signal.specs.declared.Tagged.{Tagged}
use Rattle.mc_world.specs.Lanes.{signals_of}

-- the two lanes of one channel more
pub lanes_more : (assigned : List ℕ) (channels : List ChannelState) (taken : List (List (List Tagged))) (n : ℕ)
    (before middle after : List (Queue Tagged)) (one two : Queue Tagged)
    → signals_of before ≡ lanes_upto assigned channels taken n → middle ≡ before ++ one ∷ []
    → after ≡ middle ++ two ∷ [] → one.items ≡ lane_by assigned channels taken n 0
    → two.items ≡ lane_by assigned channels taken n 1
    → signals_of after ≡ lanes_upto assigned channels taken (n + 1)
lanes_more assigned channels taken n before middle after one two so_far first second one_is two_is =
    let next : suc n ≡ n + 1 = omega arith in
    let in_first : signals_of middle ≡ signals_of before ++ one.items ∷ [] =
    ap signals_of first ∙ map_push (λ (lane : Queue Tagged). lane.items) before one in
    let in_second : signals_of after ≡ signals_of middle ++ two.items ∷ [] =
    ap signals_of second ∙ map_push (λ (lane : Queue Tagged). lane.items) middle two in
    in_second
    ∙ (ap (λ (l : List (List Tagged)). l ++ two.items ∷ []) in_first
    ∙ (append_assoc (signals_of before) (one.items ∷ []) (two.items ∷ [])
    ∙ (ap₂ (λ (l : List (List Tagged)) (end : List (List Tagged)). l ++ end) so_far
    (ap₂ (λ (x y : List Tagged). x ∷ (y ∷ [])) one_is two_is)
    ∙ ap (λ (m : ℕ). lanes_upto assigned channels taken m) next)))
