-- A step is one enabled event of one box; a run is a list of turns, each a step from the world that the turns before it
-- leave.
use Rattle.std.specs.Prelude.{ℕ, ◌++◌, if◌then◌else◌, List, [], ◌∷◌, drop, length, nat_lt, slice_set, Option, Some, None, ◌&&◌, Bool}
use Rattle.std.specs.Option.{option_map, option_and_then, unwrap_or}
use Rattle.mc_signal.specs.declared.Signal.{Signal}
use Rattle.mc_signal.specs.declared.Tagged.{Tagged}
use Rattle.mc_box.specs.BoxEvents.{BoxStep, box_event, is_enabled, is_version_end}
use Rattle.mc_box.specs.Boxes.{BoxState}
use Rattle.mc_model.specs.Worlds.{WorldState, box_at, number, far, tunnel_of, lane_of, lane_to, front, place}
use Rattle.mc_box.specs.declared.event.Event.{Event}
use Rattle.mc_box.specs.declared.event.Event.TheVariants.{Take, Media}
use Rattle.mc_box.specs.declared.event.MediaChange.TheVariants.{Hear}
use Rattle.mc_box.specs.declared.event.Turn.{Turn}

abbrev pub with_box : WorldState → ℕ → BoxState → WorldState
with_box world who box = record world { boxes = slice_set world.boxes who box }

abbrev pub with_lane : WorldState → ℕ → List Tagged → WorldState
with_lane world lane signals = record world { lanes = slice_set world.lanes lane signals }

-- the front leaves the lane that leads to a slot
abbrev pub after_pop : WorldState → ℕ → WorldState
after_pop world s = with_lane world (lane_of world s) (drop 1 (lane_to world s))

-- a signal goes with its tunnel to the end of the lane that leads to a slot
abbrev pub after_push : WorldState → Signal → ℕ → WorldState
after_push world signal s =
    with_lane world (lane_of world s)
    (lane_to world s ++ record { tunnel = (tunnel_of world s).within; signal = signal } ∷ [])

-- what a box sends goes to the far slots, in the order of sending
abbrev pub after_sends : WorldState → ℕ → List (ℕ × Signal) → WorldState
after_sends world who [] = world
after_sends world who (sending ∷ rest) =
    after_sends (unwrap_or
    (option_map (λ s. after_push world sending.1 (far s)) (number world who sending.0)) world) who rest

-- the world after a box has made its step
abbrev pub after_making : WorldState → ℕ → BoxStep → WorldState
after_making world who step = after_sends (with_box world who step.after) who step.sent

-- a Take needs a signal that its slot can take now
abbrev pub take_at : WorldState → ℕ → ℕ → ℕ → Option WorldState
take_at world who local s =
    option_and_then (λ signal. option_map (after_making (after_pop world s) who)
    (box_event (box_at world who) (Take local) (Some signal))) (front world s)

abbrev pub step_by : WorldState → ℕ → Event → Option WorldState
step_by world who (Take local) = option_and_then (take_at world who local) (number world who local)
step_by world who event = option_map (after_making world who) (box_event (box_at world who) event None)

-- the world after a turn, if the turn is enabled
abbrev pub step : WorldState → Turn → Option WorldState
step world turn = if nat_lt turn.who (length world.boxes) then step_by world turn.who turn.event else None

-- the world after turns, if they are a run
abbrev pub run : WorldState → List Turn → Option WorldState
run world [] = Some world
run world (turn ∷ turns) = option_and_then (λ next. run next turns) (step world turn)

-- the world after turns that are a run
abbrev pub after : WorldState → List Turn → WorldState
after world turns = unwrap_or (run world turns) world

-- the Take of a slot, by its number
abbrev pub take_of : WorldState → ℕ → Turn
take_of world s = record { who = (place world s).0; event = Take (place world s).1 }

-- the event could happen to a box, but that a descriptor has the last version there is
abbrev pub ends_version_at : WorldState → ℕ → Event → Bool
ends_version_at world who event = is_version_end (box_at world who) event && is_enabled (box_at world who) event

-- the same for a turn, of a box that is there
abbrev pub ends_version : WorldState → Turn → Bool
ends_version world turn = nat_lt turn.who (length world.boxes) && ends_version_at world turn.who turn.event

-- the local slot of a Hear
abbrev pub heard_local : Event → Option ℕ
heard_local (Media (Hear local on)) = Some local
heard_local event = None

-- its slot
abbrev pub heard_slot : WorldState → Turn → Option ℕ
heard_slot world turn = option_and_then (number world turn.who) (heard_local turn.event)
