-- When an event of a sound box can happen.
use Rattle.std.proofs.Common.{◌≡◌, ◌==◌, ℕ, Bool, true, false, if◌then◌else◌, Option, Some, None, IsSome, IsTrue, List, length, refl, sym, subst, arith}
use Rattle.std.specs.Option.{option_map}
use Rattle.std.proofs.lemmas.Bool.{lt-ltb}
use Rattle.mc_signal.specs.declared.Signal.{Signal}
use Rattle.mc_slot.specs.EndTurn.{cause_of}
use Rattle.mc_slot.specs.Moves.{slot_take, Took}
use Rattle.mc_slot.specs.declared.Cause.TheVariants.{Other, Push}
use Rattle.mc_box.specs.BoxEvents.{BoxStep, with_answer, box_event, goal_step, event_step, with_hearing, enabled_shift, goals_step, is_enabled, is_take, is_version_end, shift_by, shift_goals, shift_step, take_step, with_shift, with_talking}
use Rattle.mc_rule.specs.declared.Shifted.{Shifted}
use Rattle.mc_slot.specs.declared.SlotGoal.{SlotGoal}
use Rattle.mc_box.specs.BoxSound.{IsSoundBox, IsWired}
use Rattle.mc_box.specs.Boxes.{BoxState, is_slot, media_at, slot_at, with_goals, with_media, with_slot}
use Rattle.mc_box.specs.EventLaws.{EventGoes, EventWasEnabled, TakeGoes, TakeWasLawful, VersionEndStops}
use Rattle.mc_box.specs.Goals.{changed_slots, change_goals}
use Rattle.mc_box.specs.declared.event.Event.{Event}
use Rattle.mc_box.specs.declared.event.Event.TheVariants.{Take, Set, Media, Tell, Retry, Shift}
use Rattle.mc_box.specs.declared.event.MediaChange.{MediaChange}
use Rattle.mc_box.specs.declared.event.MediaChange.TheVariants.{Hear, Talk}
use Rattle.mc_box.specs.declared.limit.TheConstants.{LAST_VERSION}
use Rattle.mc_box.proofs.Changes.{change_wired, slot_inside}
use Rattle.mc_box.proofs.Events.{event_goes as was_enabled, media_wired, took_wired}
use Rattle.mc_box.proofs.Folds.{changed_inside}
use Rattle.mc_box.proofs.Options.{if_some, then_some}
use Rattle.mc_box.proofs.Shifting.{shifted_sound, shifted_wired}
use Rattle.mc_box.proofs.TurnGoes.{some_is, some_of, turn_goes, turns_go}

-- ---- a signal is taken

take_made : (box : BoxState) (local : ℕ) (signal : Signal) (took : Took) (turn : BoxStep) → is_slot box local ≡ true → slot_take (slot_at box local) signal ≡ Some took
    → goal_step (with_slot box local took.after) local (cause_of signal took.after.state) ≡ Some turn
    → IsSome (box_event box (Take local) (Some signal))
take_made box local signal took turn here goes turns = rw (here, goes, turns) refl

pub take_goes : TakeGoes
take_goes box local signal sound here lawful =
    let took = some_of (slot_take (slot_at box local) signal) lawful in
    let turn = some_of (goal_step (with_slot box local took.0.after) local (cause_of signal took.0.after.state))
    (turn_goes (with_slot box local took.0.after) local (cause_of signal took.0.after.state)
    (took_wired box local signal took.0 sound.wired here took.1)) in
    take_made box local signal took.0 turn.0 (lt-ltb local (length box.slots) here) took.1 turn.1

pub take_was_lawful : TakeWasLawful
take_was_lawful box local signal step goes =
    let one = if_some (is_slot box local) (take_step box local signal) step goes in
    let two = then_some (λ (took : Took). option_map (with_answer local took.answer)
    (goal_step (with_slot box local took.after) local (cause_of signal took.after.state))) (slot_take (slot_at box local) signal) step one.1 in
    (slot_inside box local one.0, some_is (slot_take (slot_at box local) signal) two.0 two.1)

-- ---- an event that takes nothing

hear_by : (end : Bool) (o : Option BoxStep) → end ≡ false → IsSome o → IsSome (if end then None else o)
hear_by true o is some = absurd (cc)
hear_by false o is some = some

enabled_by : (enabled : Bool) (o : Option BoxStep) → IsTrue enabled → IsSome o → IsSome (if enabled then o else None)
enabled_by true o is some = some
enabled_by false o is some = absurd (cc)

true_is : (b : Bool) → IsTrue b → b ≡ true
true_is true is = refl
true_is false is = absurd (cc)

media_goes : (change : MediaChange) (box : BoxState) → IsSoundBox box → is_version_end box (Media change) ≡ false → IsSome (event_step box (Media change))
media_goes (Hear local on) box sound newer =
    hear_by ((media_at box local).version == LAST_VERSION) (goal_step (with_media box local (with_hearing on (media_at box local))) local Other) newer
    (turn_goes (with_media box local (with_hearing on (media_at box local))) local Other (media_wired box local (with_hearing on (media_at box local)) sound.wired))
media_goes (Talk local on) box sound newer =
    turn_goes (with_media box local (with_talking on (media_at box local))) local Other (media_wired box local (with_talking on (media_at box local)) sound.wired)

-- goals change, to any that leave the box wired
goals_go : (box : BoxState) (news : List SlotGoal) → IsSoundBox box → IsWired (with_goals box news) → IsSome (goals_step box news)
goals_go box news sound wired =
    turns_go (changed_slots box.goals news) (with_goals box news) wired (changed_inside box.goals news 0 (length box.slots) (omega (arith, sound.wired.whole.goals)))

shift_made : (box : BoxState) (shift : Shifted) → enabled_shift box ≡ Some shift → IsSome (shift_by box shift) → IsSome (shift_step box)
shift_made box shift is some = rw is some

shift_goes : (box : BoxState) → IsSoundBox box → IsSome (enabled_shift box) → IsSome (shift_step box)
shift_goes box sound enabled =
    let shift = some_of (enabled_shift box) enabled in
    shift_made box shift.0 shift.1 (goals_go (with_shift box shift.0) (shift_goals box shift.0) (shifted_sound box shift.0 sound shift.1) (shifted_wired box shift.0 sound shift.1))

happens : (event : Event) (box : BoxState) → IsSoundBox box → is_enabled box event ≡ true → is_take event ≡ false → is_version_end box event ≡ false → IsSome (event_step box event)
happens (Take local) box sound enabled untaken newer = absurd (cc)
happens (Set change) box sound enabled untaken newer = goals_go box (change_goals box.goals change) sound (change_wired box change sound.wired enabled)
happens (Media change) box sound enabled untaken newer = media_goes change box sound newer
happens (Tell word) box sound enabled untaken newer = refl
happens (Retry local) box sound enabled untaken newer = turn_goes box local Push sound.wired
happens Shift box sound enabled untaken newer = shift_goes box sound enabled

-- the event of a box is what happens, where it is enabled
pub event_is : (event : Event) (box : BoxState) → box_event box event None ≡ (if is_enabled box event then event_step box event else None)
event_is (Take local) box = refl
event_is (Set change) box = refl
event_is (Media change) box = refl
event_is (Tell word) box = refl
event_is (Retry local) box = refl
event_is Shift box = refl

pub event_goes : EventGoes
event_goes box event sound enabled untaken newer =
    subst (λ (o : Option BoxStep). IsSome o) (sym (event_is event box))
    (enabled_by (is_enabled box event) (event_step box event) enabled (happens event box sound (true_is (is_enabled box event) enabled) untaken newer))

pub event_was_enabled : EventWasEnabled
event_was_enabled box event step goes = (was_enabled event box step goes).0

-- ---- the last version

stops_by : (end enabled : Bool) (o : Option BoxStep) → end ≡ true → (if enabled then (if end then None else o) else None) ≡ None
stops_by true true o is = refl
stops_by true false o is = refl
stops_by false enabled o is = absurd (cc)

stops : (event : Event) (box : BoxState) → is_version_end box event ≡ true → box_event box event None ≡ None
stops (Take local) box end = absurd (cc)
stops (Set change) box end = absurd (cc)
stops (Media (Hear local on)) box end =
    stops_by ((media_at box local).version == LAST_VERSION) (is_enabled box (Media (Hear local on))) (goal_step (with_media box local (with_hearing on (media_at box local))) local Other) end
stops (Media (Talk local on)) box end = absurd (cc)
stops (Tell word) box end = absurd (cc)
stops (Retry local) box end = absurd (cc)
stops Shift box end = absurd (cc)

pub version_end_stops : VersionEndStops
version_end_stops box event end = stops event box end
