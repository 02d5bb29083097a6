-- What operators ask of the boxes of a world in a phase, and what the boxes take.
use Rattle.std.specs.Prelude.{◌≡◌, ◌++◌, ◌<◌, ℕ, List, [], length, map, slice_index_or}
use Rattle.std.specs.List.{AllByRecursion}
use Rattle.std.specs.declared.alloc.Global.{Global}
use Rattle.std.specs.declared.vec.Vec.{Vec}
use Rattle.mc_box.specs.BoxEvents.{turn_of}
use Rattle.mc_box.specs.declared.event.Turn.{Turn}
use Rattle.mc_desk.specs.Histories.{requests_of}
use Rattle.mc_desk.specs.declared.limit.TheConstants.{REQUEST_LIMIT}
use Rattle.mc_desk.specs.declared.request.Request.{Request}
use Rattle.mc_live.specs.Ends.{AreAsksFor, hand_at}
use Rattle.mc_live.specs.Requests.{events_asked}
use Rattle.mc_model.specs.Settles.{commands_of}
use Rattle.mc_model.specs.Shapes.{AreAllowed}
use Rattle.mc_model.specs.Worlds.{WorldState}

-- the hands of operators, and what boxes took
abbrev pub hand_lists : List (Vec Turn Global) → List (List Turn)
hand_lists hands = map (λ (hand : Vec Turn Global). hand.items) hands

abbrev pub request_lists : List (Vec Request Global) → List (List Request)
request_lists taken = map (λ (requests : Vec Request Global). requests.items) taken

-- what a box took; nothing past the last one
abbrev pub taken_at : List (List Request) → ℕ → List Request
taken_at taken who = slice_index_or taken who []

-- an operator may ask for this hand: its turns are commands that the shapes of the world's boxes enable, and it hasn't
-- too many
pub record IsHandFor (world : WorldState) (hand : List Turn) : Type 0 where
  pub allowed : AreAllowed world hand
  pub few : length hand < REQUEST_LIMIT

abbrev pub AreHandsFor : WorldState → List (List Turn) → Type 0
AreHandsFor world hands = AllByRecursion (IsHandFor world) hands

-- each box took of each operator just the turns of its hand that are the box's, in their order, and then its end; and
-- of nobody else
pub record AreTakenFrom (hands : List (List Turn)) (boxes : ℕ) (taken : List (List Request)) : Type 0 where
  pub count : length taken ≡ boxes
  pub known : (who : ℕ) → AllByRecursion (λ (request : Request). request.operator < length hands) (taken_at taken who)
  pub asked : (who operator : ℕ) → who < boxes → operator < length hands
      → AreAsksFor who (hand_at hands operator) (requests_of operator (taken_at taken who))

-- the commands of each box among the turns, and then those that are left, are the events of what it took, in their
-- order and each once
abbrev pub MeetsRequests : List (List Request) → List Turn → List Turn → Type 0
MeetsRequests taken turns left = (who : ℕ) → who < length taken
    → commands_of who turns ++ commands_of who left ≡ map (turn_of who) (events_asked (taken_at taken who))
