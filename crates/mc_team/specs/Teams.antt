-- The boxes of a network with their ports, and the world that they stand for between rounds.
use Rattle.std.specs.Prelude.{◌≡◌, ◌≢◌, ◌+◌, ◌*◌, ◌++◌, ◌<◌, ◌≤◌, ℕ, Bool, IsTrue, List, [], ◌∷◌, length, map, replicate, slice_get, slice_index_or, slice_set, Some}
use Rattle.mc_signal.specs.declared.Tagged.{Tagged}
use Rattle.mc_box.specs.BoxEvents.{is_enabled}
use Rattle.mc_box.specs.declared.event.Event.{Event}
use Rattle.mc_box.specs.declared.event.Event.TheVariants.{Shift}
use Rattle.mc_box.specs.declared.event.Turn.{Turn}
use Rattle.mc_box.specs.declared.limit.TheConstants.{SHIFT_LIMIT}
use Rattle.mc_team.specs.declared.limit.TheConstants.{TEAM_LIMIT}
use Rattle.mc_team.specs.declared.boxes.TeamBoxes.{TeamBoxes}
use Rattle.mc_team.specs.Layouts.{AreEnds, IsPlacedAt, JoinsBoxes, ends_of_lane, inner_lists, of_box}
use Rattle.mc_team.specs.declared.layout.LaneEnds.{LaneEnds}
use Rattle.mc_model.specs.Sound.{IsSound}
use Rattle.mc_model.specs.Worlds.{AreChannels, ChannelState, WorldState, box_at, first_world, slot_count}
use Rattle.mc_model.specs.Settles.{world_owes}
use Rattle.mc_merge.specs.Lanes.{leads_to}
use Rattle.mc_team.specs.declared.member.Member.{Member}
use Rattle.mc_team.specs.Carries.{AreReady, AreTied}
use Rattle.mc_team.specs.Ends.{IsCleared, giving_end, parts_of, places_of_boxes, shifts_of, stimuli_of, taking_end}

-- ---- what a team stands for

-- the lanes: between rounds, what is under way on each waits in the inbox at its end
abbrev pub lanes_of : List Member → List LaneEnds → List (List Tagged)
lanes_of members lanes = map (λ (ends : LaneEnds). (taking_end members ends).inbox) lanes

-- the world, over these channels
abbrev pub world_of : List ChannelState → List Member → List LaneEnds → WorldState
world_of channels members lanes =
    record { boxes = parts_of members; channels = channels; lanes = lanes_of members lanes }

-- what a team of boxes is seen as: a world, the commands that are left to each box, and how many Shifts each has made
pub record TeamState : Type 0 where
  pub world : WorldState
  pub stimuli : List (List Event)
  pub shifts : List ℕ

abbrev pub stimuli_at : TeamState → ℕ → List Event
stimuli_at team who = slice_index_or team.stimuli who []

abbrev pub shifts_at : TeamState → ℕ → ℕ
shifts_at team who = slice_index_or team.shifts who 0

-- the team of these members
abbrev pub team_of : List ChannelState → List Member → List LaneEnds → TeamState
team_of channels members lanes =
    record { world = world_of channels members lanes; stimuli = stimuli_of members; shifts = shifts_of members }

abbrev pub team_state : TeamBoxes → TeamState
team_state team = team_of team.channels.items team.members.items team.lanes.items

-- ---- what a team keeps between rounds

-- each channel has two lanes, each lane its two ends, and each slot its place, as the channels say; the two ends of a
-- lane are those of one ring
pub record AreLaidOut (channels : List ChannelState) (members : List Member) (lanes : List LaneEnds)
    (ends : List (List ℕ)) : Type 0 where
  pub lane_count : length lanes ≡ 2 * length channels
  pub joins : (k : ℕ) (channel : ChannelState) → slice_get channels k ≡ Some channel
      → JoinsBoxes channel (ends_of_lane lanes (2 * k)) (ends_of_lane lanes (2 * k + 1))
  pub numbered : AreEnds lanes ends
  pub box_count : length ends ≡ length members
  pub end_count : (who : ℕ) (member : Member) → slice_get members who ≡ Some member
      → length member.worker.ins.items ≡ length (of_box ends who)
  pub places : (s : ℕ) → s < slot_count (first_world (parts_of members) channels)
      → IsPlacedAt (parts_of members) channels ends (places_of_boxes members) s
  pub tied : AreTied members lanes

-- and nothing is under way but what waits in inboxes
abbrev pub AreCleared : List Member → List LaneEnds → Type 0
AreCleared members lanes =
    (lane : ℕ) → lane < length lanes
    → IsCleared (taking_end members (ends_of_lane lanes lane)) (giving_end members (ends_of_lane lanes lane))

-- so these members stand for a sound world
pub record StandForWorld (channels : List ChannelState) (members : List Member) (lanes : List LaneEnds)
    (ends : List (List ℕ)) : Type 0 where
  pub within : AreChannels channels
  pub laid_out : AreLaidOut channels members lanes ends
  pub ready : AreReady members
  pub cleared : AreCleared members lanes
  pub sound : IsSound (world_of channels members lanes)
  pub few : length members ≤ TEAM_LIMIT

-- a team's boxes between rounds
abbrev pub IsTeam : TeamBoxes → Type 0
IsTeam team = StandForWorld team.channels.items team.members.items team.lanes.items (inner_lists team.ends.items)

-- ---- work

-- a box of a team has something to do: a command, a Shift that it may make, a signal on a lane that leads to it, or,
-- where retries are asked for, one that it owes
pub data HasTeamWork (retries : Bool) (team : TeamState) (who : ℕ) : Type 0 where
  by_command : stimuli_at team who ≢ [] → HasTeamWork retries team who
  by_program : shifts_at team who < SHIFT_LIMIT → IsTrue (is_enabled (box_at team.world who) Shift)
      → HasTeamWork retries team who
  by_signal : (lane : ℕ) → lane < length team.world.lanes → leads_to team.world lane ≡ who
      → slice_index_or team.world.lanes lane [] ≢ [] → HasTeamWork retries team who
  by_retry : IsTrue retries → (local : ℕ) → IsTrue (world_owes team.world who local) → HasTeamWork retries team who

-- ---- teams

-- a team that has just been made of a world: no command is left, and no Shift was made
abbrev pub new_team : WorldState → TeamState
new_team world =
    record { world = world; stimuli = replicate (length world.boxes) []; shifts = replicate (length world.boxes) 0 }

-- with a command more, after those that its box has
abbrev pub with_command : TeamState → Turn → TeamState
with_command team turn =
    record team { stimuli = slice_set team.stimuli turn.who (stimuli_at team turn.who ++ turn.event ∷ []) }
