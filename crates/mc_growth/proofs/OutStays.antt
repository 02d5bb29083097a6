-- Slots that are out stay idle while the network runs.
use Rattle.std.proofs.Common.{◌≡◌, ◌≢◌, ◌<◌, ◌++◌, ◌==◌, ◌&&◌, ◌||◌, inl, inr, ℕ, Bool, true, false, Option, Some, None, List, [], ◌∷◌, refl, ap, sym, ◌∙◌, subst, arith}
use Rattle.std.specs.List.{list_any}
use Rattle.std.proofs.Math.ListN.{get_or}
use Rattle.std.specs.Option.{is_some, option_and_then}
use Rattle.std.proofs.lemmas.Bool.{cases_eq}
use Rattle.std.proofs.lemmas.Grind.{common_steps}
use Rattle.mc_signal.specs.declared.Signal.{Signal}
use Rattle.mc_signal.specs.declared.Signal.TheVariants.{Open, Oack, Close, Describe, Select}
use Rattle.mc_rule.specs.Programs.{ProgStateState, enabled}
use Rattle.mc_rule.specs.declared.Shifted.{Shifted}
use Rattle.mc_slot.specs.Moves.{slot_send, slot_send_all, slot_send_in}
use Rattle.mc_slot.specs.declared.Goal.TheVariants.{Close as ToClose}
use Rattle.mc_slot.specs.declared.Slot.{Slot}
use Rattle.mc_slot.specs.declared.SlotGoal.TheVariants.{End}
use Rattle.mc_slot.specs.declared.State.{State}
use Rattle.mc_slot.specs.declared.State.TheVariants.{Closed, Opening, Opened, Flowing}
use Rattle.mc_box.specs.Acting.{Acted, sends, takes}
use Rattle.mc_box.specs.BoxEvents.{BoxStep, box_event, enabled_shift, is_shift, is_take}
use Rattle.mc_box.specs.Boxes.{BoxState, goal_at, slot_at}
use Rattle.mc_box.specs.declared.event.Event.{Event}
use Rattle.mc_box.specs.declared.event.Event.TheVariants.{Take, Set, Media, Tell, Retry, Shift}
use Rattle.mc_box.specs.declared.event.Turn.{Turn}
use Rattle.mc_box.proofs.Events.{event_goes}
use Rattle.mc_box.proofs.Options.{if_some, then_some}
use Rattle.mc_model.specs.Sound.{IsSound}
use Rattle.mc_model.specs.Steps.{run, step}
use Rattle.mc_model.specs.Worlds.{TunnelPlace, WorldState, box_at, far, goal_of, list_to, place, slot_count, slot_of}
use Rattle.mc_laws.specs.Stepped.{Stepped}
use Rattle.mc_laws.proofs.ActedWorlds.{far_inside, place_apart}
use Rattle.mc_laws.proofs.LanesKept.{far_tunnel}
use Rattle.mc_laws.proofs.StepActs.{TakeHappened, Turned, step_acts, step_turns, take_happened}
use Rattle.mc_laws.proofs.StepKeeps.{step_keeps_sound}
use Rattle.mc_laws.proofs.SteppedKeeps.{after_is, moved_on}
use Rattle.mc_laws.proofs.TakeParts.{first_goes, take_goals_stay}
use Rattle.mc_settings.proofs.BoxSettings.{event_sets}
use Rattle.mc_settings.specs.Settings.{Settings, set_by, settings_of}
use Rattle.mc_growth.specs.GrowthLaws.{OutStays}
use Rattle.mc_growth.specs.Outs.{AreOut, IsIdle, SetNoneOut, is_out, sets, sets_slot}
use Rattle.mc_growth.proofs.IdleSlots.{IsShut, goal_kept, other_idle, take_idle}

-- ---- what a slot sends

-- no sending leads to a closed slot
send_opens : (state : State) (slot after : Slot) (signal : Signal) → slot_send_in state slot signal ≡ Some after → slot.state ≡ state → after.state ≢ Closed
send_opens Closed slot after (Open m d) goes is shut = absurd (cc)
send_opens Opening slot after Close goes is shut = absurd (cc)
send_opens Opened slot after (Oack d) goes is shut = absurd (cc)
send_opens Opened slot after Close goes is shut = absurd (cc)
send_opens Flowing slot after (Describe d) goes is shut = absurd (cc)
send_opens Flowing slot after (Select s) goes is shut = absurd (cc)
send_opens Flowing slot after Close goes is shut = absurd (cc)
send_opens state slot after signal goes is shut = absurd (cc)

sent_open : (slot after : Slot) (signal : Signal) → slot_send slot signal ≡ Some after → after.state ≢ Closed
sent_open slot after signal goes =
    let one = if_some _ (slot_send_in slot.state slot signal) after goes in
    send_opens slot.state slot after signal one.1 refl

all_open : (signals : List Signal) (slot after : Slot) → slot.state ≢ Closed → slot_send_all slot signals ≡ Some after → after.state ≢ Closed
all_open [] slot after live goes shut = let same : slot ≡ after = cc in live (ap (λ (s : Slot). s.state) same ∙ shut)
all_open (signal ∷ signals) slot after live goes shut =
    let one = then_some (λ (next : Slot). slot_send_all next signals) (slot_send slot signal) after goes in
    all_open signals one.0 after (sent_open slot one.0 signal one.1) one.2 shut

-- so a slot that is closed after its sendings has sent nothing
closed_sent_none : (signals : List Signal) (slot after : Slot) → after.state ≡ Closed → slot_send_all slot signals ≡ Some after → signals ≡ []
closed_sent_none [] slot after shut goes = refl
closed_sent_none (signal ∷ signals) slot after shut goes =
    let one = then_some (λ (next : Slot). slot_send_all next signals) (slot_send slot signal) after goes in
    absurd (all_open signals one.0 after (sent_open slot one.0 signal one.1) one.2 shut)

-- and where nothing was under way to it, nothing is left
acted_none : (a : Slot) (to signals : List Signal) (after : Slot) (left : List Signal) → Acted a to signals after left → to ≡ [] → after.state ≡ Closed → (signals ≡ []) × (left ≡ [])
acted_none a to signals after left (sends goes) none shut = (closed_sent_none signals a after shut goes, none)
acted_none a to signals after left (takes middle more answer took goes) none shut = absurd (cc)

-- ---- one turn

shut_of : (world : WorldState) (s : ℕ) → IsIdle world s → IsShut (box_at world (place world s).0) (place world s).1
shut_of world s idle = record { goal = idle.goal; closed = idle.closed }

-- a box without a program makes no Shift
no_shift : (event : Event) (box : BoxState) (signal : Option Signal) (after : BoxStep) → box.program ≡ None → box_event box event signal ≡ Some after → is_shift event ≡ false
no_shift (Take local) box signal after free goes = refl
no_shift (Set change) box signal after free goes = refl
no_shift (Media change) box signal after free goes = refl
no_shift (Tell word) box signal after free goes = refl
no_shift (Retry local) box signal after free goes = refl
no_shift Shift box None after free goes =
    let one = event_goes Shift box after goes in
    let none : enabled_shift box ≡ None = ap (λ (p : Option (List ProgStateState)). option_and_then (λ (states : List ProgStateState). enabled states box.at box.slots box.told) p) free in
    absurd (some_of (enabled_shift box) one.0 none)
  where
    some_of : (o : Option Shifted) → is_some o ≡ true → o ≡ None → ⊥
    some_of o some none = cc
no_shift Shift box (Some signal) after free goes = absurd (cc)

-- an event that takes nothing has no signal
plain_goes : (event : Event) (box : BoxState) (signal : Option Signal) (after : BoxStep) → is_take event ≡ false → box_event box event signal ≡ Some after → box_event box event None ≡ Some after
plain_goes (Take local) box signal after plain goes = absurd (cc)
plain_goes (Set change) box None after plain goes = goes
plain_goes (Set change) box (Some signal) after plain goes = absurd (cc)
plain_goes (Media change) box None after plain goes = goes
plain_goes (Media change) box (Some signal) after plain goes = absurd (cc)
plain_goes (Tell word) box None after plain goes = goes
plain_goes (Tell word) box (Some signal) after plain goes = absurd (cc)
plain_goes (Retry local) box None after plain goes = goes
plain_goes (Retry local) box (Some signal) after plain goes = absurd (cc)
plain_goes Shift box None after plain goes = goes
plain_goes Shift box (Some signal) after plain goes = absurd (cc)

-- what comes to a slot that is taken from is not nothing
not_nothing : (signal : Signal) (rest l : List Signal) → l ≡ signal ∷ rest → l ≡ [] → ⊥
not_nothing signal rest l some none = absurd (cc)

-- the slot stays, and its goal
record Kept (world next : WorldState) (s : ℕ) : Type 0 where
  slot : slot_at (box_at next (place world s).0) (place world s).1 ≡ slot_of world s
  goal : goal_at (box_at next (place world s).0) (place world s).1 ≡ goal_of world s

goal_set : (event : Event) (box : BoxState) (k : ℕ) → sets_slot k event ≡ false → goal_at box k ≡ End ToClose → get_or (set_by event (settings_of box)).goals k (End ToClose) ≡ End ToClose
goal_set (Take local) box k apart is = is
goal_set (Set change) box k apart is = goal_kept box change k apart is
goal_set (Media change) box k apart is = is
goal_set (Tell word) box k apart is = is
goal_set (Retry local) box k apart is = is
goal_set Shift box k apart is = is

-- where another box acts
kept_else : (world next : WorldState) (who s : ℕ) → Stepped world next who → (place world s).0 ≢ who → Kept world next s
kept_else world next who s stepped away = record {
  slot = ap (λ (b : BoxState). slot_at b (place world s).1) (stepped.boxes (place world s).0 away);
  goal = ap (λ (b : BoxState). goal_at b (place world s).1) (stepped.boxes (place world s).0 away);
}

-- where its own box does, and takes nothing
kept_here : (event : Event) (world next : WorldState) (s : ℕ) → IsSound world → s < slot_count world → IsIdle world s → is_take event ≡ false → sets_slot (place world s).1 event ≡ false
    → Turned world next (place world s).0 event → Kept world next s
kept_here event world next s sound inside idle plain apart turned =
    let who = (place world s).0 in
    let local = (place world s).1 in
    let box = box_at world who in
    let unshifted = no_shift event box turned.signal turned.step idle.unprogrammed turned.goes in
    let goes = plain_goes event box turned.signal turned.step plain turned.goes in
    record {
      slot = ap (λ (b : BoxState). slot_at b local) turned.after
          ∙ other_idle event box local turned.step (sound.boxes who (sound.numbered.placed s inside)) (shut_of world s idle) apart unshifted goes;
      goal = ap (λ (b : BoxState). goal_at b local) turned.after
          ∙ (ap (λ (settings : Settings). get_or settings.goals local (End ToClose)) (event_sets box event turned.signal turned.step unshifted turned.goes)
          ∙ (goal_set event box local apart idle.goal ∙ sym idle.goal));
    }

kept_by : (event : Event) (world next : WorldState) (who s : ℕ) → IsSound world → s < slot_count world → IsIdle world s → is_take event ≡ false
    → ((place world s).0 ≡ who → sets_slot (place world s).1 event ≡ false) → Turned world next who event → Kept world next s
kept_by event world next who s sound inside idle plain apart turned = elim (cases_eq (place world s).0 who) [
  | inl same ↦ kept_here event world next s sound inside idle plain (apart same) (subst (λ (w : ℕ). Turned world next w event) (sym same) turned)
  | inr away ↦ kept_else world next who s turned.stepped away
]

-- where a slot takes: it is another, since nothing comes to this one
kept_take : (world next : WorldState) (t s : ℕ) → IsSound world → s < slot_count world → IsIdle world s → TakeHappened world next t → Kept world next s
kept_take world next t s sound inside idle took = elim (cases_eq (place world s).0 (place world t).0) [
  | inl same ↦
      let who = (place world t).0 in
      let other : s ≢ t = λ is. not_nothing took.signal (took.happened.stepped.left t) (list_to world t) (first_goes world next t took sound) (ap (list_to world) (sym is) ∙ idle.nothing) in
      let apart : (place world s).1 ≢ (place world t).1 = λ is. other (place_apart world s t sound.numbered inside took.inside same is) in
      let shut : IsShut (box_at world who) (place world s).1 = subst (λ (w : ℕ). IsShut (box_at world w) (place world s).1) same (shut_of world s idle) in
      let stays = take_idle (box_at world who) (place world t).1 (place world s).1 took.signal took.happened.step (sound.boxes who (sound.numbered.placed t took.inside)) shut apart took.happened.goes in
      record {
        slot = subst (λ (w : ℕ). slot_at (box_at next w) (place world s).1 ≡ slot_at (box_at world w) (place world s).1) (sym same)
            (ap (λ (b : BoxState). slot_at b (place world s).1) took.happened.after ∙ stays);
        goal = take_goals_stay world next t took sound (place world s).0 (place world s).1;
      }
  | inr away ↦ kept_else world next (place world t).0 s took.happened.stepped away
]

-- ---- one turn

abbrev turn_by : ℕ → Event → Turn
turn_by who event = record { who = who; event = event }

kept_turn : (event : Event) (world next : WorldState) (who s : ℕ) → IsSound world → s < slot_count world → IsIdle world s
    → ((place world s).0 ≡ who → sets_slot (place world s).1 event ≡ false) → step world (turn_by who event) ≡ Some next → Kept world next s
kept_turn (Take local) world next who s sound inside idle apart goes = let took = take_happened world next who local sound goes in kept_take world next took.0 s sound inside idle took.1
kept_turn (Set change) world next who s sound inside idle apart goes = kept_by (Set change) world next who s sound inside idle refl apart (step_turns world next (turn_by who (Set change)) sound goes)
kept_turn (Media change) world next who s sound inside idle apart goes = kept_by (Media change) world next who s sound inside idle refl apart (step_turns world next (turn_by who (Media change)) sound goes)
kept_turn (Tell word) world next who s sound inside idle apart goes = kept_by (Tell word) world next who s sound inside idle refl apart (step_turns world next (turn_by who (Tell word)) sound goes)
kept_turn (Retry local) world next who s sound inside idle apart goes = kept_by (Retry local) world next who s sound inside idle refl apart (step_turns world next (turn_by who (Retry local)) sound goes)
kept_turn Shift world next who s sound inside idle apart goes = kept_by Shift world next who s sound inside idle refl apart (step_turns world next (turn_by who Shift) sound goes)

not_set : (a b : ℕ) (set : Bool) → (a == b && set) ≡ false → b ≡ a → set ≡ false
not_set a b set is same = grind (arith, common_steps)

-- both slots of a tunnel are idle, and stay so
idle_next : (world next : WorldState) (turn : Turn) (s : ℕ) → IsSound world → s < slot_count world → IsIdle world s → IsIdle world (far s) → sets world s turn ≡ false → sets world (far s) turn ≡ false
    → step world turn ≡ Some next → IsIdle (moved_on world next.boxes next.lanes) s
idle_next world next turn s sound inside idle other one two goes =
    let stepped = step_acts world next turn sound goes in
    let new = moved_on world next.boxes next.lanes in
    let there = subst (λ (w : WorldState). Stepped world w turn.who) (after_is world next turn.who stepped) stepped in
    let away = far_inside world s inside in
    let here = kept_turn turn.event world next turn.who s sound inside idle (λ is. not_set turn.who (place world s).0 (sets_slot (place world s).1 turn.event) one is) goes in
    let over = kept_turn turn.event world next turn.who (far s) sound away other (λ is. not_set turn.who (place world (far s)).0 (sets_slot (place world (far s)).1 turn.event) two is) goes in
    let near = acted_none (slot_of world s) (list_to world s) (there.sent s) (slot_of new s) (there.left s) (there.acted s inside) idle.nothing (ap (λ (slot : Slot). slot.state) here.slot ∙ idle.closed) in
    let far_none = acted_none (slot_of world (far s)) (list_to world (far s)) (there.sent (far s)) (slot_of new (far s)) (there.left (far s)) (there.acted (far s) away) other.nothing
    (ap (λ (slot : Slot). slot.state) over.slot ∙ other.closed) in
    record {
      closed = ap (λ (slot : Slot). slot.state) here.slot ∙ idle.closed;
      goal = here.goal ∙ idle.goal;
      nothing = there.lists s inside ∙ (ap (λ (l : List Signal). l ++ there.sent (far s)) near.1 ∙ far_none.0);
      unprogrammed = (there.makes (place world s).0).alike.program ∙ idle.unprogrammed;
    }

-- the far slot of a slot that is out is out, too
far_out : (world : WorldState) (out : List Bool) (s : ℕ) → AreOut world out → s < slot_count world → is_out out s ≡ true → is_out out (far s) ≡ true
far_out world out s are inside is =
    are.whole (far s) s (far_inside world s inside) inside (ap (λ (t : TunnelPlace). t.channel) (far_tunnel world s)) ∙ is

out_next : (world next : WorldState) (turn : Turn) (out : List Bool) → IsSound world → AreOut world out → ((s : ℕ) → s < slot_count world → is_out out s ≡ true → sets world s turn ≡ false)
    → step world turn ≡ Some next → AreOut (moved_on world next.boxes next.lanes) out
out_next world next turn out sound are none goes = record {
  all = are.all;
  whole = are.whole;
  idle = λ s inside is.
      let other = far_out world out s are inside is in
      let away = far_inside world s inside in
      idle_next world next turn s sound inside (are.idle s inside is) (are.idle (far s) away other) (none s inside is) (none (far s) away other) goes;
}

-- ---- a run

or_parts : (a b : Bool) → (a || b) ≡ false → (a ≡ false) × (b ≡ false)
or_parts true b is = absurd (cc)
or_parts false b is = (refl, is)

pub out_stays : OutStays
out_stays [] world last out sound are none goes = let same : world ≡ last = cc in subst (λ (w : WorldState). AreOut w out) same are
out_stays (turn ∷ turns) world last out sound are none goes =
    let one = then_some (λ (w : WorldState). run w turns) (step world turn) last goes in
    let next = one.0 in
    let parts = λ (s : ℕ) (inside : s < slot_count world) (is : is_out out s ≡ true). or_parts (sets world s turn) (list_any (sets world s) turns) (none s inside is) in
    let stepped = step_acts world next turn sound one.1 in
    let is : next ≡ moved_on world next.boxes next.lanes = after_is world next turn.who stepped in
    let are_next = subst (λ (w : WorldState). AreOut w out) (sym is) (out_next world next turn out sound are (λ s inside is. (parts s inside is).0) one.1) in
    let none_next = subst (λ (w : WorldState). SetNoneOut w out turns) (sym is) (λ s inside is. (parts s inside is).1) in
    out_stays turns next last out (step_keeps_sound world next turn sound one.1) are_next none_next one.2
