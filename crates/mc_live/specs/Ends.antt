-- When a box has taken all that it was asked.
use Rattle.std.specs.Prelude.{◌≡◌, ℕ, ◌<◌, ◌≤◌, List, [], ◌∷◌, ◌++◌, length, map, slice_index_or, None}
use Rattle.std.specs.List.{AllByRecursion}
use Rattle.mc_box.specs.declared.event.Turn.{Turn}
use Rattle.mc_desk.specs.Histories.{IsHistory, requests_of}
use Rattle.mc_desk.specs.declared.request.Request.{Request}
use Rattle.mc_live.specs.Askers.{asks_for}
use Rattle.mc_live.specs.Requests.{ends_asked}

-- the hand of an operator; none past the last one
abbrev pub hand_at : List (List Turn) → ℕ → List Turn
hand_at hands operator = slice_index_or hands operator []

-- these requests are what an operator asks a box for a hand: the box's turns, and then the operator's end
abbrev pub AreAsksFor : ℕ → List Turn → List Request → Type 0
AreAsksFor who hand requests = map (λ (request : Request). request.event) requests ≡ asks_for who hand ++ None ∷ []

-- where each operator has asked a box for its hand and has then ended, and nobody else has asked, a box that has taken
-- as many ends as there are operators has left nothing: of each operator it has taken just those requests
abbrev pub EndsAreAll : Type 0
EndsAreAll = (who : ℕ) (hands : List (List Turn)) (taken rest : List Request) (accepted : ℕ → List Request)
    → IsHistory taken rest accepted
    → ((operator : ℕ) → operator < length hands → AreAsksFor who (hand_at hands operator) (accepted operator))
    → ((operator : ℕ) → length hands ≤ operator → accepted operator ≡ [])
    → AllByRecursion (λ (request : Request). request.operator < length hands) taken
    → length hands ≤ ends_asked taken
    → (rest ≡ []) × ((operator : ℕ) → operator < length hands
    → AreAsksFor who (hand_at hands operator) (requests_of operator taken))
