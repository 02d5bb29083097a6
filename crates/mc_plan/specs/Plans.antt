-- A plan as clauses see it, what boxes and channels add to it, and its first world.
use Rattle.std.specs.Prelude.{ℕ, ◌+◌, ◌-◌, ◌==◌, Bool, List, [], ◌∷◌, ◌++◌, count_by, length, slice_index_or, slice_set, None}
use Rattle.mc_signal.specs.Empty.{no_codecs}
use Rattle.mc_signal.specs.declared.Medium.{Medium}
use Rattle.mc_signal.specs.declared.codec_list.CodecList.{CodecList}
use Rattle.mc_box.specs.Boxes.{BoxState, first_box}
use Rattle.mc_box.specs.declared.event.Kind.TheVariants.{Feature}
use Rattle.mc_box.specs.declared.setup.SlotSetup.{SlotSetup}
use Rattle.mc_plan.specs.Setups.{setups_of}
use Rattle.mc_model.specs.Worlds.{ChannelState, WorldState, first_world, places_among}
use Rattle.mc_model.specs.declared.channel.Tunnel.{Tunnel}
use Rattle.mc_plan.specs.declared.plan.BoxPlan.{BoxPlan}

-- the boxes that are planned, in the order of their numbers, and the channels between them
pub record PlanState : Type 0 where
  pub boxes : List BoxPlan
  pub channels : List ChannelState

-- nothing is planned yet
abbrev pub empty_plan : PlanState
empty_plan = record { boxes = []; channels = [] }

-- ---- boxes and channels more

-- a box comes last
abbrev pub with_plan : PlanState → BoxPlan → PlanState
with_plan plan planned = record plan { boxes = plan.boxes ++ planned ∷ [] }

-- what stands where no box is planned
abbrev pub no_plan : BoxPlan
no_plan = record { kind = Feature; codecs = no_codecs; sends = no_codecs; first_version = 1 }

-- a box that is planned
abbrev pub planned_at : PlanState → ℕ → BoxPlan
planned_at plan who = slice_index_or plan.boxes who no_plan

-- a box sends these codecs
abbrev pub with_sends : PlanState → ℕ → CodecList → PlanState
with_sends plan who sends =
    record plan { boxes = slice_set plan.boxes who (record (planned_at plan who) { sends = sends }) }

-- whether a slot is of a box
abbrev pub is_of : ℕ → ℕ × ℕ → Bool
is_of who place = place.0 == who

-- how many slots a box has at these channels
abbrev pub slots_of : List ChannelState → ℕ → ℕ
slots_of channels who = count_by (is_of who) (places_among channels)

-- tunnels of these media, whose slots have local numbers from `near` and from `far` on
abbrev pub tunnels_between : (near far : ℕ) → List Medium → List Tunnel
tunnels_between near far [] = []
tunnels_between near far (medium ∷ media) =
    record { medium = medium; from = near; to = far } ∷ tunnels_between (near + 1) (far + 1) media

-- a channel between two boxes: each of its tunnels takes the next slot of both
abbrev pub channel_between : List ChannelState → (from to : ℕ) → List Medium → ChannelState
channel_between channels from to media =
    record { from = from; to = to; tunnels = tunnels_between (slots_of channels from) (slots_of channels to) media }

-- that channel comes last
abbrev pub with_channel : PlanState → (from to : ℕ) → List Medium → PlanState
with_channel plan from to media =
    record plan { channels = plan.channels ++ channel_between plan.channels from to media ∷ [] }

-- what stands where there is no channel
abbrev pub no_channel : ChannelState
no_channel = record { from = 0; to = 0; tunnels = [] }

-- the channel that comes last
abbrev pub last_channel : List ChannelState → ChannelState
last_channel channels = slice_index_or channels (length channels - 1) no_channel

-- a channel with one tunnel more
abbrev pub with_one_more : Tunnel → ChannelState → ChannelState
with_one_more tunnel ends = record ends { tunnels = ends.tunnels ++ tunnel ∷ [] }

-- the channel of this number gets one tunnel more
abbrev pub with_tunnel_at : List ChannelState → ℕ → Tunnel → List ChannelState
with_tunnel_at channels k tunnel = slice_set channels k (with_one_more tunnel (slice_index_or channels k no_channel))

-- a tunnel of a channel that takes the next slot of both boxes
abbrev pub next_tunnel : List ChannelState → ChannelState → Medium → Tunnel
next_tunnel channels ends medium =
    record { medium = medium; from = slots_of channels ends.from; to = slots_of channels ends.to }

-- the last of these channels gets one more
abbrev pub widened : List ChannelState → Medium → List ChannelState
widened channels medium =
    with_tunnel_at channels (length channels - 1) (next_tunnel channels (last_channel channels) medium)

abbrev pub with_tunnel : PlanState → Medium → PlanState
with_tunnel plan medium = record plan { channels = widened plan.channels medium }

-- ---- the first world

-- a planned box as new, given its slots
abbrev pub box_given : List SlotSetup → (who : ℕ) → BoxPlan → BoxState
box_given setups who planned = first_box planned.kind who planned.codecs planned.sends planned.first_version setups None

-- boxes given these lists of slots, numbered from a number on
abbrev pub boxes_given : (who : ℕ) → List (List SlotSetup) → List BoxPlan → List BoxState
boxes_given who [] plans = []
boxes_given who (setups ∷ lists) [] = []
boxes_given who (setups ∷ lists) (planned ∷ plans) = box_given setups who planned ∷ boxes_given (who + 1) lists plans

-- a planned box as new, with a slot for each tunnel that leads to it
abbrev pub box_from : List ChannelState → (who : ℕ) → BoxPlan → BoxState
box_from channels who planned = box_given (setups_of channels who) who planned

-- these boxes, numbered from a number on
abbrev pub boxes_from : List ChannelState → (who : ℕ) → List BoxPlan → List BoxState
boxes_from channels who [] = []
boxes_from channels who (planned ∷ plans) = box_from channels who planned ∷ boxes_from channels (who + 1) plans

-- the planned boxes and channels, with nothing under way
abbrev pub world_of : PlanState → WorldState
world_of plan = first_world (boxes_from plan.channels 0 plan.boxes) plan.channels
