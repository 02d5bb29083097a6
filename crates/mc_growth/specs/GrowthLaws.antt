-- Laws of networks that grow and shrink.
use Rattle.std.specs.Prelude.{◌≡◌, ℕ, Some, None, Bool, false, List, ◌++◌, ◌∷◌, [], All, Option}
use Rattle.mc_signal.specs.declared.Medium.{Medium}
use Rattle.mc_signal.specs.declared.Signal.{Signal}
use Rattle.mc_box.specs.BoxEvents.{BoxStep, box_event}
use Rattle.mc_box.specs.BoxSound.{IsSoundBox}
use Rattle.mc_box.specs.Boxes.{BoxState, with_new_slot}
use Rattle.mc_box.specs.declared.event.Event.{Event}
use Rattle.mc_box.specs.declared.event.Turn.{Turn}
use Rattle.mc_box.specs.declared.setup.SlotSetup.{SlotSetup}
use Rattle.mc_model.specs.PathTable.{PathHolds}
use Rattle.mc_model.specs.Paths.{paths, slots_on}
use Rattle.mc_model.specs.Settles.{IsSettled}
use Rattle.mc_model.specs.Sound.{IsSound}
use Rattle.mc_model.specs.Steps.{run}
use Rattle.mc_model.specs.Worlds.{WorldState}
use Rattle.mc_growth.specs.Joins.{MayJoin, joined}
use Rattle.mc_growth.specs.Outs.{AreOut, MayCut, SetNoneOut, flags_without, is_out, least_used, present_paths}

-- a channel that joins a sound world leaves it sound
abbrev pub JoinKeepsSound : Type 0
JoinKeepsSound =
    (world : WorldState) (medium : Medium) (from to : ℕ) → IsSound world → MayJoin world from to
    → IsSound (joined world medium from to)

-- slots that are out stay idle in each run that makes no Set on them
abbrev pub OutStays : Type 0
OutStays =
    (turns : List Turn) (world last : WorldState) (out : List Bool) → IsSound world → AreOut world out
    → SetNoneOut world out turns → run world turns ≡ Some last → AreOut last out

-- they stay so where a channel joins, whose own slots are not out
abbrev pub JoinKeepsOut : Type 0
JoinKeepsOut =
    (world : WorldState) (medium : Medium) (from to : ℕ) (out : List Bool) → IsSound world → MayJoin world from to
    → AreOut world out → AreOut (joined world medium from to) (out ++ false ∷ false ∷ [])

-- and the slots of a channel that is cut are idle where none of them is in use, whatever is under way elsewhere
abbrev pub CutKeepsOut : Type 0
CutKeepsOut =
    (world : WorldState) (channel : ℕ) (out : List Bool) → IsSound world → AreOut world out → MayCut world out channel
    → least_used world channel ≡ None → AreOut world (flags_without world out channel)

-- a path is out as a whole: all slots on it are out, or none is
abbrev pub PathsAreWhole : Type 0
PathsAreWhole =
    (world : WorldState) (out : List Bool) → IsSound world → AreOut world out
    → All (λ path. All (λ s. is_out out s ≡ is_out out path.low) (slots_on world path)) (paths world)

-- after a settled segment each path of the network is as the path table says
abbrev pub PresentPathsHold : Type 0
PresentPathsHold =
    (world last : WorldState) (out : List Bool) (batch turns : List Turn) → IsSound world → AreOut world out
    → IsSettled world batch turns last → All (PathHolds last) (present_paths last out)

-- what a sound box without a program does in an event it does with one slot more, too: it sends the same, and is then
-- as after that event, with the slot
abbrev pub EventWidens : Type 0
EventWidens =
    (box : BoxState) (setup : SlotSetup) (event : Event) (signal : Option Signal) (step : BoxStep)
    → IsSoundBox box → box.program ≡ None → box_event box event signal ≡ Some step
    → box_event (with_new_slot box setup) event signal ≡ Some (record step { after = with_new_slot step.after setup })

-- a run of a world is a run of the world that a channel has joined, and leads to where the channel joins after the run
abbrev pub JoinCommutes : Type 0
JoinCommutes =
    (world next : WorldState) (turns : List Turn) (medium : Medium) (from to : ℕ) → IsSound world
    → MayJoin world from to → run world turns ≡ Some next
    → run (joined world medium from to) turns ≡ Some (joined next medium from to)
