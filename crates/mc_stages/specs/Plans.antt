-- Plans of stages: the joins and cuts before each settle of a script, and its batch, and whether they may be asked for.
use Rattle.std.specs.Prelude.{◌≡◌, ◌<◌, ◌≤◌, ℕ, List, [], ◌∷◌, length, map}
use Rattle.std.specs.List.{All, flat_map}
use Rattle.mc_signal.specs.Choice.{codecs_of}
use Rattle.mc_box.specs.declared.event.Turn.{Turn}
use Rattle.mc_growth.specs.Growths.{Cut as ACut, GrownState, Growth, Join as AJoin, grown_by, grown_by_all}
use Rattle.mc_growth.specs.Joins.{MayJoin}
use Rattle.mc_growth.specs.Outs.{MayCut, SetNoneOut}
use Rattle.mc_stages.specs.declared.plan.ChannelChange.{ChannelChange}
use Rattle.mc_stages.specs.declared.plan.ChannelChange.TheVariants.{Cut, Join}
use Rattle.mc_stages.specs.declared.plan.StagePlan.{StagePlan}
use Rattle.mc_model.specs.Shapes.{AreAllowed}
use Rattle.mc_model.specs.Worlds.{WorldState, box_at}
use Rattle.mc_text.specs.NameLists.{NameLists, slot_names}

-- ---- what a plan says

-- the growth for which a change stands
abbrev pub growth_of : ChannelChange → Growth
growth_of (Join medium from to) = AJoin medium from to
growth_of (Cut channel) = ACut channel

-- the joins and cuts of a plan
abbrev pub growths_of : StagePlan → List Growth
growths_of plan = map growth_of plan.growths.items

-- its batch
abbrev pub batch_of : StagePlan → List Turn
batch_of plan = plan.batch.items

-- ---- whether it may be asked for

-- A join or a cut may be asked for. Of the slots of a channel that is to be cut it isn't asked whether they are in use
abbrev pub MayAsk : GrownState → Growth → Type 0
MayAsk network (AJoin medium from to) = MayJoin network.world from to
MayAsk network (ACut channel) = MayCut network.world network.out channel

-- each of them may after those before it
abbrev pub MayAskAll : GrownState → List Growth → Type 0
MayAskAll network [] = Unit {0}
MayAskAll network (growth ∷ growths) = MayAsk network growth × MayAskAll (grown_by network growth) growths

-- a network allows each command of a batch, and none is a Set on a slot that is out
pub record MayCommand (network : GrownState) (batch : List Turn) : Type 0 where
  pub allowed : AreAllowed network.world batch
  pub none_out : SetNoneOut network.world network.out batch

-- each plan may be asked for after those before it, whatever their commands do
abbrev pub AreLawful : GrownState → List StagePlan → Type 0
AreLawful network [] = Unit {0}
AreLawful network (plan ∷ plans) =
    MayAskAll network (growths_of plan) × MayCommand (grown_by_all network (growths_of plan)) (batch_of plan)
    × AreLawful (grown_by_all network (growths_of plan)) plans

-- the network that all joins and cuts of these plans make, whatever the commands between them do
abbrev pub grown_at_end : GrownState → List StagePlan → GrownState
grown_at_end network plans = grown_by_all network (flat_map growths_of plans)

-- there are names for all boxes of a world, all their slots, and the codecs that they receive. A box may have names for
-- slots that it is still to get
pub record NamesEnough (names : NameLists) (world : WorldState) : Type 0 where
  pub boxes : length names.boxes ≡ length world.boxes
  pub slots : (who : ℕ) → who < length world.boxes
      → length (box_at world who).slots ≤ length (slot_names names who)
  pub codecs : (who : ℕ) → All (λ codec. codec < length names.codecs) (codecs_of (box_at world who).receives)
