-- Laws of runs in which a network grows: they are runs of the network of all channels.
use Rattle.std.specs.Prelude.{◌≡◌, ◌+◌, ℕ, Some, List, ◌++◌, ◌∷◌, [], flat_map}
use Rattle.mc_signal.specs.declared.Medium.{Medium}
use Rattle.mc_box.specs.declared.event.Turn.{Turn}
use Rattle.mc_model.specs.Paths.{paths}
use Rattle.mc_model.specs.Settles.{IsSettled}
use Rattle.mc_model.specs.Sound.{IsSound}
use Rattle.mc_model.specs.Steps.{run}
use Rattle.mc_model.specs.Worlds.{WorldState, slot_count}
use Rattle.mc_growth.specs.Growths.{Cut, GrownState, Growth, IsGrownRun, Join, Stage}
use Rattle.mc_growth.specs.Joins.{MayJoin, joined}

-- ---- all channels of a run

-- a channel that joins: its medium, and its two boxes, the initiator's first
pub record Joining : Type 0 where
  pub medium : Medium
  pub from : ℕ
  pub to : ℕ

-- the channels that join, in order
abbrev pub joins_among : List Growth → List Joining
joins_among [] = []
joins_among (Join medium from to ∷ growths) = record { medium = medium; from = from; to = to } ∷ joins_among growths
joins_among (Cut channel ∷ growths) = joins_among growths

-- the channels that join in these stages
abbrev pub joins_of : List Stage → List Joining
joins_of stages = flat_map (λ stage. joins_among stage.growths) stages

-- the turns of these stages, in order
abbrev pub turns_of : List Stage → List Turn
turns_of stages = flat_map (λ stage. stage.turns) stages

-- the world that these channels have joined, one after another
abbrev pub joined_by_all : WorldState → List Joining → WorldState
joined_by_all world [] = world
joined_by_all world (channel ∷ channels) =
    joined_by_all (joined world channel.medium channel.from channel.to) channels

-- ---- laws

-- the turns of a run in which a network grows, one stage after another, are one run of the world that all its channels
-- have joined at the beginning
abbrev pub GrownIsOne : Type 0
GrownIsOne =
    (network last : GrownState) (stages : List Stage) → IsSound network.world → IsGrownRun network stages last
    → run (joined_by_all network.world (joins_of stages)) (turns_of stages) ≡ Some last.world

-- turns that settle a batch settle it in the world that a channel has joined, too
abbrev pub SettledJoins : Type 0
SettledJoins =
    (world last : WorldState) (batch turns : List Turn) (medium : Medium) (from to : ℕ) → IsSound world
    → MayJoin world from to → IsSettled world batch turns last
    → IsSettled (joined world medium from to) batch turns (joined last medium from to)

-- the paths of a world that a channel has joined are those of the world, and after them the channel's one tunnel
abbrev pub JoinedPaths : Type 0
JoinedPaths =
    (world : WorldState) (medium : Medium) (from to : ℕ) → IsSound world → MayJoin world from to
    → paths (joined world medium from to)
    ≡ paths world ++ record { low = slot_count world; high = slot_count world + 1 } ∷ []
