-- Networks that grow and shrink at settles: what joins and cuts make of a network, and a run in which it grows.
use Rattle.std.specs.Prelude.{◌≡◌, ℕ, Bool, false, List, [], ◌∷◌, ◌++◌, replicate, None}
use Rattle.mc_signal.specs.declared.Medium.{Medium}
use Rattle.mc_box.specs.declared.event.Turn.{Turn}
use Rattle.mc_model.specs.Paths.{PathEnds}
use Rattle.mc_model.specs.Settles.{IsSettled}
use Rattle.mc_model.specs.Worlds.{WorldState, slot_count}
use Rattle.mc_growth.specs.Joins.{MayJoin, joined}
use Rattle.mc_growth.specs.Outs.{MayCut, SetNoneOut, flags_without, least_used, present_paths}

-- a network: a world of all channels that ever were, and for each slot whether it is out
pub record GrownState : Type 0 where
  pub world : WorldState
  pub out : List Bool

-- a network of which nothing is out
abbrev pub grown_from : WorldState → GrownState
grown_from world = record { world = world; out = replicate (slot_count world) false }

-- ---- joins and cuts

-- a channel joins: its two slots are not out
abbrev pub with_join : GrownState → Medium → (from to : ℕ) → GrownState
with_join network medium from to = record {
  world = joined network.world medium from to;
  out = network.out ++ false ∷ false ∷ [];
}

-- a channel is cut: the world stays, with the channel's slots idle in it
abbrev pub with_cut : GrownState → ℕ → GrownState
with_cut network channel = record network { out = flags_without network.world network.out channel }

-- the world is another one, as after a run
abbrev pub with_world : GrownState → WorldState → GrownState
with_world network world = record network { world = world }

-- what happens to a network between settles
pub data Growth : Type 0 where
  Join : Medium → (from to : ℕ) → Growth
  Cut : (channel : ℕ) → Growth

abbrev pub grown_by : GrownState → Growth → GrownState
grown_by network (Join medium from to) = with_join network medium from to
grown_by network (Cut channel) = with_cut network channel

-- it may happen: a join of boxes that have room, and a cut of a channel of which no slot is in use
abbrev pub MayGrow : GrownState → Growth → Type 0
MayGrow network (Join medium from to) = MayJoin network.world from to
MayGrow network (Cut channel) = MayCut network.world network.out channel × (least_used network.world channel ≡ None)

abbrev pub grown_by_all : GrownState → List Growth → GrownState
grown_by_all network [] = network
grown_by_all network (growth ∷ growths) = grown_by_all (grown_by network growth) growths

-- each of them may happen after those before it
abbrev pub MayGrowAll : GrownState → List Growth → Type 0
MayGrowAll network [] = Unit {0}
MayGrowAll network (growth ∷ growths) = MayGrow network growth × MayGrowAll (grown_by network growth) growths

-- ---- a run in which the network grows

-- one settle of it: the joins and cuts before the settle, its batch of commands, and its turns
pub record Stage : Type 0 where
  pub growths : List Growth
  pub batch : List Turn
  pub turns : List Turn

-- the network that the joins and cuts of a stage leave
abbrev pub stage_network : GrownState → Stage → GrownState
stage_network network stage = grown_by_all network stage.growths

-- a stage leads from a network to a world: its joins and cuts may happen, none of its commands is a Set on a slot that
-- is out then, and its turns settle the batch
pub record IsStage (network : GrownState) (stage : Stage) (last : WorldState) : Type 0 where
  pub grows : MayGrowAll network stage.growths
  pub commands : SetNoneOut (stage_network network stage).world (stage_network network stage).out stage.batch
  pub settles : IsSettled (stage_network network stage).world stage.batch stage.turns last

-- the network after a stage
abbrev pub after_stage : GrownState → Stage → WorldState → GrownState
after_stage network stage last = with_world (stage_network network stage) last

-- stages one after another, each from the network that the one before left
abbrev pub IsGrownRun : GrownState → List Stage → GrownState → Type 0
IsGrownRun network [] last = network ≡ last
IsGrownRun network (stage ∷ stages) last =
    (next : WorldState) × IsStage network stage next × IsGrownRun (after_stage network stage next) stages last

-- the paths of a network
abbrev pub network_paths : GrownState → List PathEnds
network_paths network = present_paths network.world network.out
