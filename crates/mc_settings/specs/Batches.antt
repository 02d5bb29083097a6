-- What batches leave, one after another.
use Rattle.std.specs.Prelude.{◌≡◌, ◌<◌, ℕ, suc, false, List, [], ◌∷◌, length, take, Some, IsSome}
use Rattle.std.specs.List.{All}
use Rattle.mc_box.specs.declared.event.Turn.{Turn}
use Rattle.mc_model.specs.PathTable.{table}
use Rattle.mc_model.specs.Paths.{PathEnds, end_goal, has_ring, paths}
use Rattle.mc_model.specs.Settles.{IsSettled, commands_of}
use Rattle.mc_model.specs.Steps.{run}
use Rattle.mc_model.specs.Worlds.{WorldState}
use Rattle.mc_settings.specs.Settings.{commanded}

-- turns use a batch up: they have its commands, box by box and in order, and no others
abbrev pub UseUp : (batch turns : List Turn) → Type 0
UseUp batch turns = (who : ℕ) → commands_of who turns ≡ commands_of who batch

-- a run that uses a batch up. A settled segment does, and so do turns that stop at a ring
pub record RunsThrough (world : WorldState) (batch turns : List Turn) (last : WorldState) : Type 0 where
  pub runs : run world turns ≡ Some last
  pub commands : UseUp batch turns

-- one settled segment for each batch, in order
abbrev pub SettleAll : WorldState → List (List Turn) → WorldState → Type 0
SettleAll world [] last = world ≡ last
SettleAll world (batch ∷ batches) last =
    (turns : List Turn) × (next : WorldState) × IsSettled world batch turns next × SettleAll next batches last

-- the world as the commands of all batches make it
abbrev pub commanded_by : WorldState → List (List Turn) → WorldState
commanded_by world [] = world
commanded_by world (batch ∷ batches) = commanded_by (commanded world batch) batches

-- each batch, as they come one after another, leaves such a world: its commands and those of the batches before it make
-- one
abbrev pub EachLeaves : (WorldState → Type 0) → WorldState → List (List Turn) → Type 0
EachLeaves P world batches = (k : ℕ) → k < length batches → P (commanded_by world (take (suc k) batches))

abbrev pub HasNoRing : WorldState → Type 0
HasNoRing world = has_ring world ≡ false

-- no batch leaves a ring
abbrev pub LeavesNoRing : WorldState → List (List Turn) → Type 0
LeavesNoRing world batches = EachLeaves HasNoRing world batches

-- the goals at the ends of a path decide its state: they aren't hold against hold
abbrev pub IsDecided : WorldState → PathEnds → Type 0
IsDecided world path = IsSome (table (end_goal world path.low) (end_goal world path.high))

abbrev pub AreDecided : WorldState → Type 0
AreDecided world = All (IsDecided world) (paths world)

-- no batch leaves a path of hold against hold
abbrev pub LeavesDecided : WorldState → List (List Turn) → Type 0
LeavesDecided world batches = EachLeaves AreDecided world batches
