-- What a turn does to the closes of each slot: how many it sends and takes, and how many are under way to it then.
use Rattle.std.proofs.Common.{◌≡◌, ◌<◌, ◌+◌, ◌==◌, ◌++◌, ◌⊎◌, inl, inr, if◌then◌else◌, nat_lt, ℕ, Bool, true, false, Option, Some, None, List, [], ◌∷◌, length, refl, ap, sym, ◌∙◌, subst, arith}
use Rattle.std.specs.Option.{option_and_then, option_map, unwrap_or}
use Rattle.std.proofs.lemmas.Bool.{cases_eq, eq-eqb, ne_eqb}
use Rattle.mc_signal.specs.declared.Signal.{Signal}
use Rattle.mc_signal.specs.declared.Signal.TheVariants.{Close, Closeack}
use Rattle.mc_signal.specs.declared.Tagged.{Tagged}
use Rattle.mc_slot.specs.Outlook.{ack_of, close_of, closes, waits}
use Rattle.mc_box.specs.BoxEvents.{BoxStep, box_event}
use Rattle.mc_box.specs.declared.event.Event.{Event}
use Rattle.mc_box.specs.declared.event.Event.TheVariants.{Take, Set, Media, Tell, Retry, Shift}
use Rattle.mc_box.specs.declared.event.Turn.{Turn}
use Rattle.mc_laws.specs.Sendings.{sendings, taker}
use Rattle.mc_model.specs.Sound.{IsSound}
use Rattle.mc_model.specs.Steps.{after_making, after_pop, step, step_by, take_at}
use Rattle.mc_model.specs.Worlds.{WorldState, box_at, far, front, lane_of, lane_to, list_to, number, place, slot_count, slot_of, tunnel_of}
use Rattle.mc_cause.specs.Causes.{is_closed, sends, taken, taking}
use Rattle.mc_cause.proofs.Counts.{acts_idle, acts_taking}
use Rattle.mc_box.proofs.Options.{if_some, map_some, then_some}
use Rattle.mc_laws.proofs.LanesKept.{front_next, lane_in}
use Rattle.mc_laws.proofs.Numbers.{box_inside, number_is}
use Rattle.mc_laws.proofs.Parts.{part_of}
use Rattle.mc_laws.proofs.SentOut.{list_in}
use Rattle.mc_laws.proofs.StepActs.{Happened, act_happens, left_else, left_here, take_happens, without}
use Rattle.mc_slot_laws.proofs.Walks.{closes-append}

-- 1 for the slot that takes a signal of a kind, by how many each signal of the kind counts
abbrev pub count_at : (Signal → ℕ) → Option Signal → Option ℕ → ℕ → ℕ
count_at kind (Some signal) (Some t) s = if t == s then kind signal else 0
count_at kind signal slot s = 0

-- 1 for the slot that takes a close in a turn, and for the one that takes a closeack
abbrev pub close_taken : WorldState → Turn → ℕ → ℕ
close_taken world turn s = count_at close_of (taken world turn) (taking world turn) s

abbrev pub ack_taken : WorldState → Turn → ℕ → ℕ
ack_taken world turn s = count_at ack_of (taken world turn) (taking world turn) s

-- the closes of a slot in a turn
pub record Told (world next : WorldState) (turn : Turn) (s : ℕ) : Type 0 where
  pub waiting : closes (sends world turn s) + waits (slot_of world s).state ≡ ack_taken world turn s + waits (slot_of next s).state
  pub list : closes (list_to next s) + close_taken world turn s ≡ closes (list_to world s) + closes (sends world turn (far s))
  pub closed : is_closed (slot_of world s).state ≡ false → is_closed (slot_of next s).state ≡ true
      → (taking world turn ≡ Some s) × ((taken world turn ≡ Some Close) ⊎ ((taken world turn ≡ Some Closeack) × (waits (slot_of world s).state ≡ 1)))

-- what each slot sends is its part of what the box sends
abbrev SendsParts : (world next : WorldState) (who : ℕ) (event : Event) (signal : Option Signal) (lanes : List (List Tagged)) → Happened world next who event signal lanes → Type 0
SendsParts world next who event signal lanes happened = (s : ℕ) → happened.stepped.sent s ≡ sends world (record { who = who; event = event }) s

parts_sent : (world next : WorldState) (who : ℕ) (event : Event) (signal : Option Signal) (lanes : List (List Tagged)) (happened : Happened world next who event signal lanes)
    → option_and_then (front world) (taker world who event) ≡ signal → SendsParts world next who event signal lanes happened
parts_sent world next who event signal lanes happened takes s =
    let goes : box_event (box_at world who) event (option_and_then (front world) (taker world who event)) ≡ Some happened.step =
    ap (λ (o : Option Signal). box_event (box_at world who) event o) takes ∙ happened.goes in
    let sent : sendings world who event ≡ happened.step.sent = ap (λ (o : Option BoxStep). unwrap_or (option_map (λ (step : BoxStep). step.sent) o) []) goes in
    happened.parts s ∙ sym (ap (λ (l : List (ℕ × Signal)). part_of who (place world s) l) sent)

-- ---- a slot that takes nothing

pub count_none : (kind : Signal → ℕ) (signal : Option Signal) (slot : Option ℕ) (s : ℕ) → (slot ≡ Some s → ⊥) → count_at kind signal slot s ≡ 0
count_none kind None slot s other = refl
count_none kind (Some signal) None s other = refl
count_none kind (Some signal) (Some t) s other =
    ap (λ (b : Bool). if b then kind signal else 0) (ne_eqb t s (λ same. other (ap Some same)))

told_idle : (world next : WorldState) (who s : ℕ) (event : Event) (signal : Option Signal) (lanes : List (List Tagged)) (happened : Happened world next who event signal lanes)
    → SendsParts world next who event signal lanes happened → s < slot_count world → list_in world lanes s ≡ list_to world s → (taker world who event ≡ Some s → ⊥) → Told world next (record { who = who; event = event }) s
told_idle world next who s event signal lanes happened parts inside same other =
    let turn : Turn = record { who = who; event = event } in
    let left : happened.stepped.left s ≡ list_to world s = happened.lefts s ∙ same in
    let all = acts_idle (slot_of world s) (list_to world s) (happened.stepped.sent s) (slot_of next s) (happened.stepped.left s) (happened.stepped.acted s inside) left in
    let no_ack : ack_taken world turn s ≡ 0 = count_none ack_of (taken world turn) (taking world turn) s other in
    let no_close : close_taken world turn s ≡ 0 = count_none close_of (taken world turn) (taking world turn) s other in
    record {
      waiting =
          let counts : closes (happened.stepped.sent s) + waits (slot_of world s).state ≡ waits (slot_of next s).state = all.waiting in
          let own : closes (happened.stepped.sent s) ≡ closes (sends world turn s) = ap closes (parts s) in
          omega arith;
      list =
          let lists : closes (list_to next s) ≡ closes (happened.stepped.left s ++ happened.stepped.sent (far s)) = ap closes (happened.stepped.lists s inside) in
          let both : closes (happened.stepped.left s ++ happened.stepped.sent (far s)) ≡ closes (happened.stepped.left s) + closes (happened.stepped.sent (far s)) =
          closes-append (happened.stepped.left s) (happened.stepped.sent (far s)) in
          let rest : closes (happened.stepped.left s) ≡ closes (list_to world s) = ap closes left in
          let own : closes (happened.stepped.sent (far s)) ≡ closes (sends world turn (far s)) = ap closes (parts (far s)) in
          omega arith;
      closed = λ opens closed. let still = all.opens opens in absurd (cc);
    }

-- ---- the slot that takes

pub count_here : (kind : Signal → ℕ) (signal : Option Signal) (slot : Option ℕ) (one : Signal) (s : ℕ) → signal ≡ Some one → slot ≡ Some s → count_at kind signal slot s ≡ kind one
count_here kind signal slot one s is at = rw (is, at) (ap (λ (b : Bool). if b then kind one else 0) (eq-eqb s s refl))

told_taking : (world next : WorldState) (who s : ℕ) (event : Event) (signal : Signal) (lanes : List (List Tagged)) (happened : Happened world next who event (Some signal) lanes)
    → SendsParts world next who event (Some signal) lanes happened → s < slot_count world → list_to world s ≡ signal ∷ list_in world lanes s
    → taker world who event ≡ Some s → option_and_then (front world) (taker world who event) ≡ Some signal → Told world next (record { who = who; event = event }) s
told_taking world next who s event signal lanes happened parts inside list at is =
    let turn : Turn = record { who = who; event = event } in
    let left : list_to world s ≡ signal ∷ happened.stepped.left s = list ∙ ap (λ (l : List Signal). signal ∷ l) (sym (happened.lefts s)) in
    let all = acts_taking (slot_of world s) (list_to world s) (happened.stepped.sent s) (slot_of next s) (happened.stepped.left s) signal (happened.stepped.acted s inside) left in
    let ack : ack_taken world turn s ≡ ack_of signal = count_here ack_of (taken world turn) (taking world turn) signal s is at in
    let close : close_taken world turn s ≡ close_of signal = count_here close_of (taken world turn) (taking world turn) signal s is at in
    record {
      waiting =
          let counts : closes (happened.stepped.sent s) + waits (slot_of world s).state ≡ ack_of signal + waits (slot_of next s).state = all.waiting in
          let own : closes (happened.stepped.sent s) ≡ closes (sends world turn s) = ap closes (parts s) in
          omega arith;
      list =
          let lists : closes (list_to next s) ≡ closes (happened.stepped.left s ++ happened.stepped.sent (far s)) = ap closes (happened.stepped.lists s inside) in
          let both : closes (happened.stepped.left s ++ happened.stepped.sent (far s)) ≡ closes (happened.stepped.left s) + closes (happened.stepped.sent (far s)) =
          closes-append (happened.stepped.left s) (happened.stepped.sent (far s)) in
          let rest : closes (list_to world s) ≡ close_of signal + closes (happened.stepped.left s) = ap closes left in
          let own : closes (happened.stepped.sent (far s)) ≡ closes (sends world turn (far s)) = ap closes (parts (far s)) in
          omega arith;
      closed = λ opens closed. (
        at,
        elim (all.closed opens closed) [
          | inl by_close ↦ inl (is ∙ ap Some by_close)
          | inr waited ↦ inr (is ∙ ap Some waited.0, waited.1)
        ],
      );
    }

-- ---- each turn

no_such : (s : ℕ) → None ≡ Some s → ⊥
no_such s is = cc

act_told : (world next : WorldState) (who s : ℕ) (event : Event) → IsSound world → who < length world.boxes → taker world who event ≡ None → option_map (after_making world who) (box_event (box_at world who) event None) ≡ Some next
    → s < slot_count world → Told world next (record { who = who; event = event }) s
act_told world next who s event sound below none goes inside =
    let one = map_some (after_making world who) (box_event (box_at world who) event None) next goes in
    let happened = act_happens event world next who one.0 sound below one.1 one.2 in
    told_idle world next who s event None world.lanes happened (parts_sent world next who event None world.lanes happened (ap (λ (o : Option ℕ). option_and_then (front world) o) none)) inside refl
    (λ is. no_such s (sym none ∙ is))

take_told : (world next : WorldState) (who local s : ℕ) → IsSound world → who < length world.boxes → step_by world who (Take local) ≡ Some next → s < slot_count world → Told world next (record { who = who; event = Take local }) s
take_told world next who local s sound below goes inside =
    let one = then_some (take_at world who local) (number world who local) next goes in
    let two = then_some (λ (signal : Signal). option_map (after_making (after_pop world one.0) who) (box_event (box_at world who) (Take local) (Some signal))) (front world one.0) next one.2 in
    let three = map_some (after_making (after_pop world one.0) who) (box_event (box_at world who) (Take local) (Some two.0)) next two.2 in
    let happened = take_happens world next who local one.0 two.0 three.0 sound below one.1 two.1 three.1 three.2 in
    let takes : option_and_then (front world) (taker world who (Take local)) ≡ Some two.0 = ap (λ (o : Option ℕ). option_and_then (front world) o) one.1 ∙ two.1 in
    let parts = parts_sent world next who (Take local) (Some two.0) (without world one.0) happened takes in
    let found = number_is world who local one.0 one.1 in
    let there : lane_of world one.0 < length world.lanes = subst (λ (n : ℕ). lane_of world one.0 < n) (sym sound.numbered.lanes) (lane_in world one.0 found.0) in
    let fronts = front_next (tunnel_of world one.0).within two.0 (lane_to world one.0) two.1 in
    elim (cases_eq s one.0) [
      | inl same ↦
          told_taking world next who s (Take local) two.0 (without world one.0) happened parts inside
          (subst (λ (t : ℕ). list_to world t ≡ two.0 ∷ list_in world (without world one.0) t) (sym same)
          (fronts.next ∙ ap (λ (l : List Signal). two.0 ∷ l) (sym (left_here world one.0 there))))
          (one.1 ∙ ap Some (sym same)) takes
      | inr other ↦
          told_idle world next who s (Take local) (Some two.0) (without world one.0) happened parts inside (left_else world one.0 s two.0 there found.0 inside other fronts)
          (λ is. other (let twice : Some s ≡ Some one.0 = sym is ∙ one.1 in cc))
    ]

event_told : (event : Event) (world next : WorldState) (who s : ℕ) → IsSound world → who < length world.boxes → step_by world who event ≡ Some next → s < slot_count world → Told world next (record { who = who; event = event }) s
event_told (Take local) world next who s sound below goes inside = take_told world next who local s sound below goes inside
event_told (Set change) world next who s sound below goes inside = act_told world next who s (Set change) sound below refl goes inside
event_told (Media change) world next who s sound below goes inside = act_told world next who s (Media change) sound below refl goes inside
event_told (Tell word) world next who s sound below goes inside = act_told world next who s (Tell word) sound below refl goes inside
event_told (Retry local) world next who s sound below goes inside = act_told world next who s (Retry local) sound below refl goes inside
event_told Shift world next who s sound below goes inside = act_told world next who s Shift sound below refl goes inside

pub step_told : (world next : WorldState) (turn : Turn) (s : ℕ) → IsSound world → step world turn ≡ Some next → s < slot_count world → Told world next turn s
step_told world next turn s sound goes inside =
    let one = if_some (nat_lt turn.who (length world.boxes)) (step_by world turn.who turn.event) next goes in
    event_told turn.event world next turn.who s sound (box_inside world turn.who one.0) one.1 inside
