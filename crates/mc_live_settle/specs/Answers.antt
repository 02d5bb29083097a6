-- What a phase leaves of a batch; and what the settle behind it answers.
use Rattle.std.specs.Prelude.{◌≡◌, ◌++◌, ℕ, List, length, Result, Ok, Err, Some}
use Rattle.mc_box.specs.declared.event.Turn.{Turn}
use Rattle.mc_live_settle.specs.Orders.{IsOrderOf}
use Rattle.mc_model.specs.Shapes.{AreAllowed}
use Rattle.mc_model.specs.Steps.{run}
use Rattle.mc_model.specs.Worlds.{WorldState, places}
use Rattle.mc_seq.specs.declared.fault.SettleFault.{SettleFault}
use Rattle.mc_seq.specs.declared.fault.SettleFault.TheVariants.{NoMemory, Restless, Ring, VersionEnd}
use Rattle.mc_seq.specs.declared.fault.Stopped.{Stopped}
use Rattle.mc_seq.specs.declared.fault.StoppedBox.{StoppedBox}
use Rattle.mc_world.specs.declared.settled.Settled.{Settled}

-- the commands of a batch were dealt to so many operators, who asked for all of them: the turns lead to a world of as
-- many boxes and of the same slots, which allows what is left, and with it they have an order of the batch
pub record HaveAskedAll (operators : ℕ) (world : WorldState) (batch turns left : List Turn)
    (next : WorldState) : Type 0 where
  pub is_order : IsOrderOf operators batch (turns ++ left)
  pub runs : run world turns ≡ Some next
  pub allowed : AreAllowed next left
  pub boxes : length next.boxes ≡ length world.boxes
  pub same_places : places next ≡ places world

-- ---- answers

-- the same world, behind these turns
pub record SettlesBehind (before : List Turn) (old new : Settled) : Type 0 where
  pub world : new.world ≡ old.world
  pub turns : new.turns.items ≡ before ++ old.turns.items

-- the same slot
pub record StopsBehind (before : List Turn) (old new : Stopped) : Type 0 where
  pub at : new.at ≡ old.at
  pub place : new.place ≡ old.place
  pub turns : new.turns.items ≡ before ++ old.turns.items

-- the same box
pub record StopsAtBoxBehind (before : List Turn) (old new : StoppedBox) : Type 0 where
  pub at : new.at ≡ old.at
  pub turns : new.turns.items ≡ before ++ old.turns.items

-- the answer is the same, behind these turns; or memory was wanting
abbrev pub AnswersBehind : List Turn → (old new : Result Settled SettleFault) → Type 0
AnswersBehind before old (Err (NoMemory e)) = Unit {0}
AnswersBehind before (Ok old) (Ok new) = SettlesBehind before old new
AnswersBehind before (Err (VersionEnd old)) (Err (VersionEnd new)) = StopsBehind before old new
AnswersBehind before (Err (Ring old)) (Err (Ring new)) = StopsBehind before old new
AnswersBehind before (Err (Restless old)) (Err (Restless new)) = StopsAtBoxBehind before old new
AnswersBehind before old new = ⊥
