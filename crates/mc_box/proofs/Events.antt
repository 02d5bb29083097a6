-- Each event of a sound box leaves it sound, and sends few signals.
use Rattle.std.proofs.Common.{◌≡◌, ◌≢◌, ◌==◌, ℕ, ◌*◌, ◌<◌, ◌≤◌, true, is_some, Some, None, List, [], length, refl, ap, sym, ◌∙◌, subst, arith}
use Rattle.std.specs.Option.{option_map}
use Rattle.std.proofs.Math.ListN.{set, length-set}
use Rattle.std.proofs.lemmas.List.{get_or-set_other}
use Rattle.std.proofs.lemmas.Bool.{and_parts}
use Rattle.mc_signal.specs.declared.Signal.{Signal}
use Rattle.mc_slot.specs.EndTurn.{cause_of}
use Rattle.mc_slot.specs.Moves.{slot_take, Took}
use Rattle.mc_slot.specs.declared.Cause.{Cause}
use Rattle.mc_slot.specs.declared.Cause.TheVariants.{Other, Push}
use Rattle.mc_slot.specs.declared.Slot.{Slot}
use Rattle.mc_slot.specs.declared.SlotGoal.{SlotGoal}
use Rattle.mc_slot.specs.declared.SlotGoal.TheVariants.{End, Link}
use Rattle.mc_slot_laws.proofs.Steps.{took_kept, took_medium}
use Rattle.mc_box.specs.BoxEvents.{BoxStep, with_answer, box_event, enabled_shift, goal_step, goals_step, event_step, with_hearing, is_enabled, media_step, set_step, shift_by, shift_goals, shift_step, take_step, tell_step, with_shift, with_talking}
use Rattle.mc_box.specs.BoxShapes.{is_device}
use Rattle.mc_box.specs.BoxSound.{IsSoundBox, IsWired}
use Rattle.mc_box.specs.Boxes.{BoxState, is_slot, no_media, no_slot, slot_at, goal_at, media_at, own_of, box_owes, sender_of, with_goals, with_media, with_slot}
use Rattle.mc_box.specs.EventLaws.{EventKeepsSound, EventSendsTwice}
use Rattle.mc_box.specs.Goals.{change_goals, most_signals}
use Rattle.mc_box.specs.declared.event.Change.{Change}
use Rattle.mc_box.specs.declared.event.Event.{Event}
use Rattle.mc_box.specs.declared.event.Event.TheVariants.{Take, Set, Media, Tell, Retry, Shift}
use Rattle.mc_box.specs.declared.event.MediaChange.{MediaChange}
use Rattle.mc_box.specs.declared.event.MediaChange.TheVariants.{Hear, Talk}
use Rattle.mc_box.specs.declared.limit.TheConstants.{LAST_VERSION}
use Rattle.mc_box.specs.declared.setup.SlotMedia.{SlotMedia}
use Rattle.mc_box.proofs.Changes.{change_wired, slot_inside}
use Rattle.mc_box.proofs.Folds.{goals_settle}
use Rattle.mc_box.proofs.Held.{elsewhere_rests, held, Lacks, lacks_first, own_put, RestsBut, rests_same, sender_put, wired_slot, box_with}
use Rattle.mc_box.proofs.Options.{else_some, if_some, map_some, then_some}
use Rattle.mc_box.proofs.Shifting.{placed_sound, shifted_sound, shifted_wired, told_fits}
use Rattle.mc_box.proofs.Sums.{changed_twice}
use Rattle.mc_box.proofs.GoalTurns.{turned}

-- ---- one turn

-- what a goal holds contains its slot
held_self : (goal : SlotGoal) (k local : ℕ) → Lacks k (held goal local) → k ≢ local
held_self (End end) k local lacks = lacks.0
held_self (Link partner) k local lacks = lacks.0

-- where all but one goal rest, its turn brings it to rest
pub turn_sound : (box : BoxState) (local : ℕ) (cause : Cause) (turn : BoxStep) → IsWired box → local < length box.slots
    → RestsBut box (held (goal_at box local) local) → goal_step box local cause ≡ Some turn → IsSoundBox turn.after
turn_sound box local cause turn wired inside but goes =
    let made = turned box local cause turn wired inside goes in
    let rests : RestsBut (box_with box made.slots) [] = made.rests [] (λ k lacks. but k (lacks_first k (held (goal_at box local) local) [] lacks)) in
    subst (λ (b : BoxState). IsSoundBox b) (sym made.is) (record { wired = made.wired; rests = λ k. rests k tt })

-- a turn sends at most two signals for each slot that its goal holds
most_by : (goal : SlotGoal) (box : BoxState) (local : ℕ) → IsWired box → local < length box.slots → goal_at box local ≡ goal → most_signals goal ≤ 2 * length box.slots
most_by (End end) box local wired inside is = omega arith
most_by (Link partner) box local wired inside is =
    let there : partner < length box.slots = (wired.links local partner is).inside in
    let other : partner ≢ local = (wired.links local partner is).other in
    omega arith

turn_twice : (box : BoxState) (local : ℕ) (cause : Cause) (turn : BoxStep) → IsWired box → local < length box.slots
    → goal_step box local cause ≡ Some turn → length turn.sent ≤ 2 * length box.slots
turn_twice box local cause turn wired inside goes =
    let made = turned box local cause turn wired inside goes in
    omega (arith, made.few, most_by (goal_at box local) box local wired inside refl)

-- ---- a signal is taken

-- the slot that took, while the others rest
pub took_wired : (box : BoxState) (local : ℕ) (signal : Signal) (took : Took) → IsWired box → local < length box.slots → slot_take (slot_at box local) signal ≡ Some took
    → IsWired (with_slot box local took.after)
took_wired box local signal took wired inside goes =
    wired_slot box local took.after wired inside (took_kept (slot_at box local) signal took goes (wired.kept local)) (took_medium (slot_at box local) signal took goes)

took_rests : (box : BoxState) (local : ℕ) (after : Slot) → IsSoundBox box → RestsBut (with_slot box local after) (held (goal_at box local) local)
took_rests box local after sound k lacks =
    elsewhere_rests (goal_at box local) box (set box.slots local after) local k sound.wired refl
    (λ j apart. get_or-set_other box.slots local j after no_slot (held_self (goal_at box local) j local apart)) lacks (sound.rests k)

pub take_sound : (box : BoxState) (local : ℕ) (signal : Signal) (step : BoxStep) → IsSoundBox box → local < length box.slots → take_step box local signal ≡ Some step → IsSoundBox step.after
take_sound box local signal step sound inside goes =
    let one = then_some (λ (took : Took). option_map (with_answer local took.answer)
    (goal_step (with_slot box local took.after) local (cause_of signal took.after.state))) (slot_take (slot_at box local) signal) step goes in
    let two = map_some (with_answer local one.0.answer) (goal_step (with_slot box local one.0.after) local (cause_of signal one.0.after.state)) step one.2 in
    subst (λ (s : BoxStep). IsSoundBox s.after) two.2
    (turn_sound (with_slot box local one.0.after) local (cause_of signal one.0.after.state) two.0
    (took_wired box local signal one.0 sound.wired inside one.1)
    (subst (λ (n : ℕ). local < n) (sym (length-set box.slots local one.0.after)) inside)
    (took_rests box local one.0.after sound) two.1)

-- ---- media change

pub media_wired : (box : BoxState) (local : ℕ) (media : SlotMedia) → IsWired box → IsWired (with_media box local media)
media_wired box local media wired = record {
  whole = record { goals = wired.whole.goals; media = length-set box.media local media ∙ wired.whole.media };
  few = wired.few;
  address = wired.address;
  kept = wired.kept;
  links = λ k partner is. record {
    inside = (wired.links k partner is).inside;
    other = (wired.links k partner is).other;
    back = (wired.links k partner is).back;
    feature = (wired.links k partner is).feature;
    medium = (wired.links k partner is).medium;
  };
  program = wired.program;
}

media_rests : (box : BoxState) (local : ℕ) (media : SlotMedia) → IsSoundBox box → RestsBut (with_media box local media) (held (goal_at box local) local)
media_rests box local media sound k lacks =
    let there : media_at (with_media box local media) k ≡ media_at box k = get_or-set_other box.media local k media no_media (held_self (goal_at box local) k local lacks) in
    rests_same (goal_at box k) box (with_media box local media) k
    (record {
      slot = refl;
      mine = ap (λ (m : SlotMedia). own_of box.kind (with_media box local media) m k) there
          ∙ own_put box.kind box box.slots box.goals (set box.media local media) (media_at box k) k;
      me = ap (λ (m : SlotMedia). sender_of box.kind (with_media box local media) m k) there
          ∙ sender_put box.kind box box.slots box.goals (set box.media local media) (media_at box k) k;
    })
    (λ partner linked. refl) (sound.rests k)

-- ---- an event that takes nothing

-- the box after it, and what it sent
record Done (box : BoxState) (step : BoxStep) : Type 0 where
  sound : IsSoundBox step.after
  few : length step.sent ≤ 2 * length box.slots

-- goals change, to any that leave the box wired
goals_done : (box : BoxState) (news : List SlotGoal) (step : BoxStep) → IsSoundBox box → IsWired (with_goals box news) → goals_step box news ≡ Some step → Done box step
goals_done box news step sound wired goes =
    let made = goals_settle box news step sound wired goes in
    let twice = changed_twice (with_goals box news) box.goals wired in
    record { sound = made.sound; few = omega (arith, made.few, twice) }

set_done : (box : BoxState) (change : Change) (step : BoxStep) → IsSoundBox box → is_enabled box (Set change) ≡ true → set_step box change ≡ Some step → Done box step
set_done box change step sound enabled goes = goals_done box (change_goals box.goals change) step sound (change_wired box change sound.wired enabled) goes

tell_done : (box : BoxState) (word : ℕ) (step : BoxStep) → IsSoundBox box → is_some box.program ≡ true → tell_step box word ≡ Some step → Done box step
tell_done box word step sound enabled goes =
    let same : record { sent = []; after = record box { told = Some word } } ≡ step = cc in
    subst (λ (s : BoxStep). Done box s) same
    (record {
      sound = placed_sound box box.at (Some word) sound (told_fits box.program box.kind box.slots box.at box.told word enabled sound.wired.program);
      few = omega arith;
    })

shift_done : (box : BoxState) (step : BoxStep) → IsSoundBox box → shift_step box ≡ Some step → Done box step
shift_done box step sound goes =
    let one = then_some (shift_by box) (enabled_shift box) step goes in
    let made = goals_done (with_shift box one.0) (shift_goals box one.0) step (shifted_sound box one.0 sound one.1) (shifted_wired box one.0 sound one.1) one.2 in
    record { sound = made.sound; few = made.few }

changed_done : (box : BoxState) (local : ℕ) (media : SlotMedia) (step : BoxStep) → IsSoundBox box → local < length box.slots
    → goal_step (with_media box local media) local Other ≡ Some step → Done box step
changed_done box local media step sound inside goes = record {
  sound = turn_sound (with_media box local media) local Other step (media_wired box local media sound.wired) inside (media_rests box local media sound) goes;
  few = turn_twice (with_media box local media) local Other step (media_wired box local media sound.wired) inside goes;
}

media_done : (change : MediaChange) (box : BoxState) (step : BoxStep) → IsSoundBox box → is_enabled box (Media change) ≡ true → media_step box change ≡ Some step → Done box step
media_done (Hear local on) box step sound enabled goes =
    let here = and_parts (is_device box.kind) (is_slot box local) enabled in
    let turns = else_some ((media_at box local).version == LAST_VERSION) (goal_step (with_media box local (with_hearing on (media_at box local))) local Other) step goes in
    changed_done box local (with_hearing on (media_at box local)) step sound (slot_inside box local here.1) turns.1
media_done (Talk local on) box step sound enabled goes =
    let here = and_parts (is_device box.kind) (is_slot box local) enabled in
    changed_done box local (with_talking on (media_at box local)) step sound (slot_inside box local here.1) goes

event_done : (event : Event) (box : BoxState) (step : BoxStep) → IsSoundBox box → is_enabled box event ≡ true → event_step box event ≡ Some step → Done box step
event_done (Take local) box step sound enabled goes = absurd (cc)
event_done (Set change) box step sound enabled goes = set_done box change step sound enabled goes
event_done (Media change) box step sound enabled goes = media_done change box step sound enabled goes
event_done (Tell word) box step sound enabled goes = tell_done box word step sound enabled goes
event_done (Retry local) box step sound enabled goes =
    let here = and_parts (is_slot box local) (box_owes box local) enabled in
    record {
      sound = turn_sound box local Push step sound.wired (slot_inside box local here.0) (λ k lacks. sound.rests k) goes;
      few = turn_twice box local Push step sound.wired (slot_inside box local here.0) goes;
    }
event_done Shift box step sound enabled goes = shift_done box step sound goes

-- ---- any event

-- an event that takes nothing is one that is enabled
pub event_goes : (event : Event) (box : BoxState) (step : BoxStep) → box_event box event None ≡ Some step → (is_enabled box event ≡ true) × (event_step box event ≡ Some step)
event_goes (Take local) box step goes = if_some (is_enabled box (Take local)) (event_step box (Take local)) step goes
event_goes (Set change) box step goes = if_some (is_enabled box (Set change)) (event_step box (Set change)) step goes
event_goes (Media change) box step goes = if_some (is_enabled box (Media change)) (event_step box (Media change)) step goes
event_goes (Tell word) box step goes = if_some (is_enabled box (Tell word)) (event_step box (Tell word)) step goes
event_goes (Retry local) box step goes = if_some (is_enabled box (Retry local)) (event_step box (Retry local)) step goes
event_goes Shift box step goes = if_some (is_enabled box Shift) (event_step box Shift) step goes

-- and one that takes a signal is a Take of a slot that is there
pub taking_is : (event : Event) (box : BoxState) (signal : Signal) (step : BoxStep) → box_event box event (Some signal) ≡ Some step
    → (local : ℕ) × (event ≡ Take local) × (local < length box.slots) × (take_step box local signal ≡ Some step)
taking_is (Take local) box signal step goes =
    let one = if_some (is_slot box local) (take_step box local signal) step goes in
    (local, refl, slot_inside box local one.0, one.1)
taking_is (Set change) box signal step goes = absurd (cc)
taking_is (Media change) box signal step goes = absurd (cc)
taking_is (Tell word) box signal step goes = absurd (cc)
taking_is (Retry local) box signal step goes = absurd (cc)
taking_is Shift box signal step goes = absurd (cc)

pub event_keeps_sound : EventKeepsSound
event_keeps_sound box event None step sound goes =
    let one = event_goes event box step goes in
    (event_done event box step sound one.0 one.1).sound
event_keeps_sound box event (Some signal) step sound goes =
    let one = taking_is event box signal step goes in
    take_sound box one.0 signal step sound one.2 one.3

pub event_sends_twice : EventSendsTwice
event_sends_twice box event step sound goes =
    let one = event_goes event box step goes in
    (event_done event box step sound one.0 one.1).few
