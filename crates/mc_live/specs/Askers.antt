-- What operators ask of the boxes of a network.
use Rattle.std.specs.Prelude.{◌≡◌, ℕ, ◌==◌, ◌<◌, ◌++◌, All, List, [], ◌∷◌, filter, length, map, slice_get, Option, None, Some}
use Rattle.std.specs.List.{AllZip}
use Rattle.std.specs.declared.alloc.Global.{Global}
use Rattle.std.specs.declared.vec.Vec.{Vec}
use Rattle.mc_box.specs.declared.event.Event.{Event}
use Rattle.mc_box.specs.declared.event.Turn.{Turn}
use Rattle.mc_desk.specs.Desks.{AreSameOperators, IsOperatorOf, accepted_at, number_of}
use Rattle.mc_desk.specs.declared.desk.Desk.{Desk}
use Rattle.mc_desk.specs.declared.desk.Operator.{Operator}
use Rattle.mc_desk.specs.declared.request.Request.{Request}
use Rattle.mc_desk.specs.declared.limit.TheConstants.{REQUEST_LIMIT}
use Rattle.mc_live.specs.Beside.{AllThree}
use Rattle.mc_live.specs.declared.asker.Asker.{Asker}

-- the turns of a box in a hand, in their order
abbrev pub turns_for : ℕ → List Turn → List Turn
turns_for who hand = filter (λ (turn : Turn). turn.who == who) hand

-- what is asked of a box for a hand
abbrev pub asks_for : ℕ → List Turn → List (Option Event)
asks_for who hand = map (λ (turn : Turn). Some turn.event) (turns_for who hand)

-- what an operator has asked of a box
abbrev pub asked_at : Asker → ℕ → List (Option Event)
asked_at asker who = map (λ (request : Request). request.event) (accepted_at asker.passes.items who)

-- it has a pass for each desk, under its own number
pub record HasPasses (desks : List Desk) (asker : Asker) : Type 0 where
  pub count : length asker.passes.items ≡ length desks
  pub each : (who : ℕ) (desk : Desk) (pass : Operator) → slice_get desks who ≡ Some desk
      → slice_get asker.passes.items who ≡ Some pass → IsOperatorOf desk pass
  pub numbers : (who : ℕ) (pass : Operator) → slice_get asker.passes.items who ≡ Some pass
      → number_of pass ≡ asker.number

-- and has asked nothing yet
pub record IsNewAsker (desks : List Desk) (asker : Asker) : Type 0 where
  pub passes : HasPasses desks asker
  pub none : (who : ℕ) → asked_at asker who ≡ []

-- it is the same operator, with the same passes, whatever it asked
pub record IsSameAsker (old new : Asker) : Type 0 where
  pub number : new.number ≡ old.number
  pub count : length new.passes.items ≡ length old.passes.items
  pub passes : AreSameOperators old.passes.items new.passes.items

-- an operator has asked each box for the turns of a hand that are the box's, in their order, and has then ended there
pub record HasAsked (hand : List Turn) (old new : Asker) : Type 0 where
  pub same : IsSameAsker old new
  pub asked : (who : ℕ) → who < length old.passes.items → asked_at new who ≡ asks_for who hand ++ None ∷ []

-- ---- all operators

-- a hand is one that an operator can ask for: its turns are of boxes with a desk, and it hasn't too many
pub record CanBeAsked (desks : List Desk) (hand : Vec Turn Global) : Type 0 where
  pub boxes : All (λ (turn : Turn). turn.who < length desks) hand.items
  pub few : length hand.items < REQUEST_LIMIT

-- each operator is about to ask for the hand of its place
abbrev pub AreNewAskers : List Desk → List (Vec Turn Global) → List Asker → Type 0
AreNewAskers desks hands askers =
    AllZip (λ (hand : Vec Turn Global) (asker : Asker). CanBeAsked desks hand × IsNewAsker desks asker) hands askers

-- each has asked for the hand of its place
abbrev pub HaveAsked : List (Vec Turn Global) → List Asker → List Asker → Type 0
HaveAsked hands old new = AllThree (λ (hand : Vec Turn Global). HasAsked hand.items) hands old new
