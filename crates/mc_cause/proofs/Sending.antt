-- Of a turn that takes no close and doesn't close of its own accord no slot sends a close; and what a turn says of the close that it takes.
use Rattle.std.proofs.Common.{◌≡◌, ◌<◌, ◌≤◌, ◌+◌, ◌&&◌, inl, inr, ℕ, Bool, true, false, nat_lt, Option, Some, None, List, [], ◌∷◌, length, drop, refl, ap, sym, ◌∙◌, arith}
use Rattle.std.specs.Option.{option_and_then, option_map, unwrap_or}
use Rattle.std.proofs.lemmas.Bool.{cases_eq}
use Rattle.mc_signal.specs.declared.Signal.{Signal}
use Rattle.mc_signal.specs.declared.Signal.TheVariants.{Open, Oack, Close, Closeack, Describe, Select}
use Rattle.mc_slot.specs.Outlook.{close_of, closes}
use Rattle.mc_slot.specs.declared.Goal.TheVariants.{Open as ToOpen, Close as ToClose, Hold as ToHold}
use Rattle.mc_box.specs.Acting.{sent_by}
use Rattle.mc_box.specs.BoxEvents.{BoxStep, box_event}
use Rattle.mc_box.specs.Boxes.{goal_at}
use Rattle.mc_box.specs.declared.event.Change.{Change}
use Rattle.mc_box.specs.declared.event.Change.TheVariants.{End as NewEnd, Link as NewLink}
use Rattle.mc_box.specs.declared.event.Event.{Event}
use Rattle.mc_box.specs.declared.event.Event.TheVariants.{Take, Set, Media, Tell, Retry, Shift}
use Rattle.mc_box.specs.declared.event.Turn.{Turn}
use Rattle.mc_laws.specs.Sendings.{sendings, taker}
use Rattle.mc_model.specs.Sound.{IsSound}
use Rattle.mc_model.specs.Steps.{after_making, after_pop, step, step_by, take_at}
use Rattle.mc_model.specs.Worlds.{WorldState, box_at, for_tunnel, front, lane_to, list_to, number, place, slot_count, tunnel_of}
use Rattle.mc_cause.specs.Causes.{sends, taken, takes_close, taking, where_close}
use Rattle.mc_cause.specs.CauseLaws.{BeginsTakeNone, begins_by, begins_close, closes_by, gives_close, is_close_goal, is_open}
use Rattle.mc_cause.proofs.Begins.{event_none, take_none}
use Rattle.mc_cause.proofs.Quiet.{NoClose}
use Rattle.mc_box.proofs.Options.{if_some, map_some, then_some}
use Rattle.mc_laws.proofs.LanesKept.{front_next}
use Rattle.mc_laws.proofs.Numbers.{box_inside, number_is}
use Rattle.mc_laws.proofs.Parts.{part_other, part_own}

-- ---- a close is taken

both_closes : (signal : Option Signal) (slot : Option ℕ) (t : ℕ) → where_close signal slot ≡ Some t → (slot ≡ Some t) × (signal ≡ Some Close)
both_closes (Some Close) slot t is = (is, refl)
both_closes signal slot t is = absurd (cc)

-- the slot that takes it is there
taker_inside : (world : WorldState) (who t : ℕ) (event : Event) → taker world who event ≡ Some t → t < slot_count world
taker_inside world who t (Take local) is = (number_is world who local t is).0
taker_inside world who t event is = absurd (cc)

-- a close is under way to it
pub record TakesClose (world : WorldState) (turn : Turn) (t : ℕ) : Type 0 where
  pub slot : taking world turn ≡ Some t
  pub signal : taken world turn ≡ Some Close
  pub inside : t < slot_count world
  pub some : 1 ≤ closes (list_to world t)

pub close_is_taken : (world : WorldState) (turn : Turn) (t : ℕ) → takes_close world turn ≡ Some t → TakesClose world turn t
close_is_taken world turn t is =
    let both = both_closes (taken world turn) (taking world turn) t is in
    let first : front world t ≡ Some Close = sym (ap (λ (o : Option ℕ). option_and_then (front world) o) both.0) ∙ both.1 in
    let list : list_to world t ≡ Close ∷ for_tunnel (tunnel_of world t).within (drop 1 (lane_to world t)) = (front_next (tunnel_of world t).within Close (lane_to world t) first).next in
    record {
      slot = both.0;
      signal = both.1;
      inside = taker_inside world turn.who t turn.event both.0;
      some = let counts : closes (list_to world t) ≡ 1 + closes (for_tunnel (tunnel_of world t).within (drop 1 (lane_to world t))) = ap closes list in omega arith;
    }

-- ---- no close is taken

-- what a turn sends
pub slot_sends : (world : WorldState) (turn : Turn) (step : BoxStep) (s : ℕ) → sendings world turn.who turn.event ≡ step.sent → ((k : ℕ) → NoClose (sent_by k step.sent)) → NoClose (sends world turn s)
slot_sends world turn step s is none = elim (cases_eq (place world s).0 turn.who) [
  | inl same ↦
      ap closes (part_own turn.who (place world s) (sendings world turn.who turn.event) same ∙ ap (λ (l : List (ℕ × Signal)). sent_by (place world s).1 l) is) ∙ none (place world s).1
  | inr other ↦ ap closes (part_other turn.who (place world s) (sendings world turn.who turn.event) other)
]

-- an event that takes nothing
other_sends : (world next : WorldState) (who s : ℕ) (event : Event) → IsSound world → who < length world.boxes → taker world who event ≡ None → closes_by event ≡ false
    → option_map (after_making world who) (box_event (box_at world who) event None) ≡ Some next → NoClose (sends world (record { who = who; event = event }) s)
other_sends world next who s event sound below none quiet goes =
    let one = map_some (after_making world who) (box_event (box_at world who) event None) next goes in
    let made : box_event (box_at world who) event (option_and_then (front world) (taker world who event)) ≡ Some one.0 =
    ap (λ (o : Option ℕ). box_event (box_at world who) event (option_and_then (front world) o)) none ∙ one.1 in
    slot_sends world (record { who = who; event = event }) one.0 s (ap (λ (o : Option BoxStep). unwrap_or (option_map (λ (step : BoxStep). step.sent) o) []) made)
    (λ k. event_none event (box_at world who) one.0 k (sound.boxes who below) quiet one.1)

not_close : (signal : Signal) (slot : ℕ) → where_close (Some signal) (Some slot) ≡ None → close_of signal ≡ 0
not_close Close slot is = absurd (cc)
not_close Closeack slot is = refl
not_close (Open medium d) slot is = refl
not_close (Oack d) slot is = refl
not_close (Describe d) slot is = refl
not_close (Select s) slot is = refl

take_sends : (world next : WorldState) (who local s : ℕ) → IsSound world → who < length world.boxes → takes_close world (record { who = who; event = Take local }) ≡ None → begins_by world who (Take local) ≡ false
    → step_by world who (Take local) ≡ Some next → NoClose (sends world (record { who = who; event = Take local }) s)
take_sends world next who local s sound below none quiet goes =
    let one = then_some (take_at world who local) (number world who local) next goes in
    let two = then_some (λ (signal : Signal). option_map (after_making (after_pop world one.0) who) (box_event (box_at world who) (Take local) (Some signal))) (front world one.0) next one.2 in
    let three = map_some (after_making (after_pop world one.0) who) (box_event (box_at world who) (Take local) (Some two.0)) next two.2 in
    let takes : option_and_then (front world) (number world who local) ≡ Some two.0 = ap (λ (o : Option ℕ). option_and_then (front world) o) one.1 ∙ two.1 in
    let made : box_event (box_at world who) (Take local) (option_and_then (front world) (number world who local)) ≡ Some three.0 =
    ap (λ (o : Option Signal). box_event (box_at world who) (Take local) o) takes ∙ three.1 in
    let other : where_close (Some two.0) (Some one.0) ≡ None = sym (ap (λ (o : Option Signal). where_close o (number world who local)) takes ∙ ap (λ (o : Option ℕ). where_close (Some two.0) o) one.1) ∙ none in
    let opens : (is_open (Some two.0) && is_close_goal (goal_at (box_at world who) local)) ≡ false =
    sym (ap (λ (o : Option Signal). is_open o && is_close_goal (goal_at (box_at world who) local)) takes) ∙ quiet in
    slot_sends world (record { who = who; event = Take local }) three.0 s (ap (λ (o : Option BoxStep). unwrap_or (option_map (λ (step : BoxStep). step.sent) o) []) made)
    (λ k. take_none (box_at world who) local two.0 three.0 k (sound.boxes who below) (not_close two.0 one.0 other) opens three.1)

gives_none : (world : WorldState) (who : ℕ) (change : Change) → begins_by world who (Set change) ≡ false → gives_close change ≡ false
gives_none world who (NewEnd local ToClose) is = absurd (cc)
gives_none world who (NewEnd local ToOpen) is = refl
gives_none world who (NewEnd local ToHold) is = refl
gives_none world who (NewLink first second) is = refl

event_sends : (event : Event) (world next : WorldState) (who s : ℕ) → IsSound world → who < length world.boxes → takes_close world (record { who = who; event = event }) ≡ None → begins_by world who event ≡ false
    → step_by world who event ≡ Some next → NoClose (sends world (record { who = who; event = event }) s)
event_sends (Take local) world next who s sound below none quiet goes = take_sends world next who local s sound below none quiet goes
event_sends (Set change) world next who s sound below none quiet goes = other_sends world next who s (Set change) sound below refl (gives_none world who change quiet) goes
event_sends (Media change) world next who s sound below none quiet goes = other_sends world next who s (Media change) sound below refl refl goes
event_sends (Tell word) world next who s sound below none quiet goes = other_sends world next who s (Tell word) sound below refl refl goes
event_sends (Retry local) world next who s sound below none quiet goes = other_sends world next who s (Retry local) sound below refl refl goes
event_sends Shift world next who s sound below none quiet goes = absurd (cc)

pub turn_sends : (world next : WorldState) (turn : Turn) (s : ℕ) → IsSound world → step world turn ≡ Some next → takes_close world turn ≡ None → begins_close world turn ≡ false → NoClose (sends world turn s)
turn_sends world next turn s sound goes none quiet =
    let one = if_some (nat_lt turn.who (length world.boxes)) (step_by world turn.who turn.event) next goes in
    event_sends turn.event world next turn.who s sound (box_inside world turn.who one.0) none quiet one.1

begins_or : (test : Bool) (world next : WorldState) (turn : Turn) (s : ℕ) → begins_close world turn ≡ test → IsSound world → step world turn ≡ Some next → takes_close world turn ≡ None → 1 ≤ closes (sends world turn s) → begins_close world turn ≡ true
begins_or true world next turn s is sound goes none some = is
begins_or false world next turn s is sound goes none some = absurd (let quiet : closes (sends world turn s) ≡ 0 = turn_sends world next turn s sound goes none is in omega arith)

-- a turn that takes no close, and sends one, closes of its own accord
pub close_begins : (world next : WorldState) (turn : Turn) (s : ℕ) → IsSound world → step world turn ≡ Some next → takes_close world turn ≡ None → 1 ≤ closes (sends world turn s) → begins_close world turn ≡ true
close_begins world next turn s sound goes none some = begins_or (begins_close world turn) world next turn s refl sound goes none some

-- ---- a turn that closes of its own accord takes no close

open_none : (signal : Option Signal) (slot : Option ℕ) (goal : Bool) → (is_open signal && goal) ≡ true → where_close signal slot ≡ None
open_none (Some Close) slot goal is = absurd (cc)
open_none signal slot goal is = refl

begin_takes_none : (event : Event) (world : WorldState) (who : ℕ) → begins_by world who event ≡ true → takes_close world (record { who = who; event = event }) ≡ None
begin_takes_none (Take local) world who is = open_none (option_and_then (front world) (number world who local)) (number world who local) (is_close_goal (goal_at (box_at world who) local)) is
begin_takes_none (Set change) world who is = refl
begin_takes_none (Media change) world who is = refl
begin_takes_none (Tell word) world who is = refl
begin_takes_none (Retry local) world who is = refl
begin_takes_none Shift world who is = refl

pub begins_take_none : BeginsTakeNone
begins_take_none world turn is = begin_takes_none turn.event world turn.who is
