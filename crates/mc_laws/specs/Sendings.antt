-- What a turn sends, and what each lane has after it.
use Rattle.std.specs.Prelude.{◌≡◌, ◌==◌, ℕ, if◌then◌else◌, List, [], ◌∷◌, ◌++◌, drop, slice_index_or, slice_set, Option, Some, None}
use Rattle.std.specs.Option.{option_and_then, option_map, unwrap_or}
use Rattle.mc_signal.specs.declared.Signal.{Signal}
use Rattle.mc_signal.specs.declared.Tagged.{Tagged}
use Rattle.mc_box.specs.BoxEvents.{BoxStep, box_event}
use Rattle.mc_box.specs.declared.event.Event.{Event}
use Rattle.mc_box.specs.declared.event.Event.TheVariants.{Take}
use Rattle.mc_box.specs.declared.event.Turn.{Turn}
use Rattle.mc_model.specs.Sound.{IsSound}
use Rattle.mc_model.specs.Steps.{step}
use Rattle.mc_model.specs.Worlds.{WorldState, box_at, far, front, tunnel_of, lane_of, number}

-- ---- what is sent

-- the number of the slot that takes its front in an event of a box, if it is a Take
abbrev pub taker : WorldState → ℕ → Event → Option ℕ
taker world who (Take local) = number world who local
taker world who event = None

-- the step that a box makes in an event: in a Take, with the front of the slot's lane
abbrev pub box_step : WorldState → ℕ → Event → Option BoxStep
box_step world who event = box_event (box_at world who) event (option_and_then (front world) (taker world who event))

-- what the box sends in it, in order, each signal with the local number of its slot
abbrev pub sendings : WorldState → ℕ → Event → List (ℕ × Signal)
sendings world who event = unwrap_or (option_map (λ step. step.sent) (box_step world who event)) []

-- the box makes this step, and is what the step leaves; the other boxes stay
pub record MakesStep (world next : WorldState) (who : ℕ) (event : Event) : Type 0 where
  pub step : BoxStep
  pub is : box_step world who event ≡ Some step
  pub boxes : next.boxes ≡ slice_set world.boxes who step.after

-- in each turn of a sound world the turn's box makes its step
abbrev pub StepIsMade : Type 0
StepIsMade =
    (world next : WorldState) (turn : Turn) → IsSound world → step world turn ≡ Some next
    → MakesStep world next turn.who turn.event

-- ---- where it goes

-- a signal that a slot sends, with its tunnel, where this lane leads to the far slot
abbrev pub signal_on : WorldState → (lane : ℕ) → Signal → Option ℕ → List Tagged
signal_on world lane signal None = []
signal_on world lane signal (Some s) =
    if lane_of world (far s) == lane then record { tunnel = (tunnel_of world (far s)).within; signal = signal } ∷ []
    else []

-- of what a box sends, what goes to this lane, in the order of sending. What names no slot of the box goes to none
abbrev pub sent_on : WorldState → (who lane : ℕ) → List (ℕ × Signal) → List Tagged
sent_on world who lane [] = []
sent_on world who lane (sending ∷ rest) =
    signal_on world lane sending.1 (number world who sending.0) ++ sent_on world who lane rest

-- a lane without its front, where a slot takes that
abbrev pub left_on : WorldState → (lane : ℕ) → Option ℕ → List Tagged
left_on world lane None = slice_index_or world.lanes lane []
left_on world lane (Some s) =
    if lane_of world s == lane then drop 1 (slice_index_or world.lanes lane []) else slice_index_or world.lanes lane []

-- what is left on a lane in a turn
abbrev pub lane_left : WorldState → Turn → ℕ → List Tagged
lane_left world turn lane = left_on world lane (taker world turn.who turn.event)

-- what a turn appends to a lane
abbrev pub lane_added : WorldState → Turn → ℕ → List Tagged
lane_added world turn lane = sent_on world turn.who lane (sendings world turn.who turn.event)

-- after a turn each lane is what is left on it, and then exactly what the turn appends
abbrev pub StepAppends : Type 0
StepAppends = (world next : WorldState) (turn : Turn) (lane : ℕ) → IsSound world → step world turn ≡ Some next
    → slice_index_or next.lanes lane [] ≡ lane_left world turn lane ++ lane_added world turn lane
