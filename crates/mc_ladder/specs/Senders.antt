-- Who sent what an arrow carries: the box where the arrow begins.
use Rattle.std.specs.Prelude.{◌≡◌, ◌<◌, ◌⊎◌, ℕ, List, [], ◌∷◌, ◌++◌, Contains, Some, drop}
use Rattle.mc_signal.specs.declared.Signal.{Signal}
use Rattle.mc_box.specs.declared.event.Turn.{Turn}
use Rattle.mc_model.specs.Sound.{IsSound}
use Rattle.mc_model.specs.Steps.{run, step}
use Rattle.mc_model.specs.Worlds.{WorldState, far, list_to, place, slot_count}
use Rattle.mc_ladder.specs.declared.taking.Taking.{Taking}
use Rattle.mc_ladder.specs.Takings.{taking_at}

-- in this turn the box of a slot sent a signal over the slot's tunnel: it came under way to the slot at the other end,
-- after what was left there
pub record Sends (old new : WorldState) (turn : Turn) (s : ℕ) (signal : Signal) : Type 0 where
  pub who : turn.who ≡ (place old (far s)).0
  pub left : List Signal
  pub sent : List Signal
  pub behind : list_to new s ≡ left ++ sent
  pub has : Contains sent signal
  pub rest : (left ≡ list_to old s) ⊎ (left ≡ drop 1 (list_to old s))

-- in one of these turns it did
pub record WasSent (first : WorldState) (turns : List Turn) (s : ℕ) (signal : Signal) : Type 0 where
  pub before : List Turn
  pub turn : Turn
  pub others : List Turn
  pub old : WorldState
  pub new : WorldState
  pub are : turns ≡ before ++ turn ∷ others
  pub runs : run first before ≡ Some old
  pub goes : step old turn ≡ Some new
  pub sends : Sends old new turn s signal

-- After turns of a world in which nothing was under way to a slot, the signal that an arrow carries to the slot was
-- sent in one of them by the box of the far slot, and there the arrow begins
abbrev pub ArrowsBeginAtSenders : Type 0
ArrowsBeginAtSenders =
    (first last : WorldState) (turns : List Turn) (s : ℕ) (taken : Taking) → IsSound first → s < slot_count first
    → list_to first s ≡ [] → run first turns ≡ Some last
    → taking_at last s ≡ Some taken → (taken.slot ≡ s) × (taken.from ≡ far s) × WasSent first turns s taken.signal
