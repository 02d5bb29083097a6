-- What is noted of a Take is what the definition says.
use Rattle.std.proofs.Common.{◌≡◌, ◌≢◌, ◌<◌, ◌≤◌, ◌+◌, ◌++◌, ◌&&◌, ◌⊎◌, inl, inr, if◌then◌else◌, nat_lt, not, ℕ, zero, suc, Bool, true, false, Option, Some, None, List, [], ◌∷◌, length, get_or, set, refl, ap, sym, ◌∙◌, subst, arith}
use Rattle.std.specs.List.{last_or}
use Rattle.std.specs.Option.{option_and_then, option_map, unwrap_or}
use Rattle.std.proofs.lemmas.Bool.{and_parts, cases_eq}
use Rattle.std.proofs.lemmas.List.{get_or-set_same, get_or-set_other}
use Rattle.mc_signal.specs.declared.Signal.{Signal}
use Rattle.mc_signal.specs.declared.Signal.TheVariants.{Open, Oack, Close, Closeack, Describe, Select}
use Rattle.mc_slot.specs.Moves.{is_live}
use Rattle.mc_slot.specs.Outlook.{ack_of, closes, waits}
use Rattle.mc_slot.specs.declared.Slot.{Slot}
use Rattle.mc_slot.specs.declared.SlotGoal.{SlotGoal}
use Rattle.mc_slot.specs.declared.SlotGoal.TheVariants.{End, Link}
use Rattle.mc_slot.specs.declared.State.{State}
use Rattle.mc_slot.specs.declared.State.TheVariants.{Closed, Opening, Opened, Flowing, Closing}
use Rattle.mc_box.specs.Acting.{sent_by}
use Rattle.mc_box.specs.BoxEvents.{BoxStep, box_event}
use Rattle.mc_box.specs.Boxes.{BoxState, goal_at, slot_at}
use Rattle.mc_box.specs.declared.event.Event.TheVariants.{Take}
use Rattle.mc_box.specs.declared.event.Turn.{Turn}
use Rattle.mc_box.proofs.Options.{if_some, map_some, then_some}
use Rattle.mc_box.proofs.TakeTurns.{TookBy, take_turned}
use Rattle.mc_laws.specs.Sendings.{sendings}
use Rattle.mc_model.specs.Paths.{partner_by, partner_of}
use Rattle.mc_model.specs.Sound.{IsSound}
use Rattle.mc_model.specs.Steps.{after_making, after_pop, step, step_by, take_at}
use Rattle.mc_model.specs.Worlds.{ChannelState, WorldState, box_at, far, front, goal_of, lane_of, lane_to, list_to, number, place, places_among, slot_count, slot_of, tunnel_of}
use Rattle.mc_cause.specs.Carried.{AreOfSlots, TellsCauses, WhysState, carried_in, noted, origin_at}
use Rattle.mc_cause.specs.CauseLaws.{begins_close, is_close_goal, is_open}
use Rattle.mc_cause.specs.Causes.{Known, becomes_closed, cause, is_closed, known_after, known_from, next_world, none_known, origin, sends, taken, takes_close, taking, where_close}
use Rattle.mc_cause.specs.Notes.{NotesClosed, NotesHere, NotesTake, with_partner, with_slot}
use Rattle.mc_cause.proofs.Known.{AreCounted, next_is, same_count, waits_few}
use Rattle.mc_cause.proofs.Sending.{slot_sends, turn_sends}
use Rattle.mc_cause.proofs.Taking.{IsDown, TakesStates, TookClose, acts_states, down_live, took_close}
use Rattle.mc_cause.proofs.Telling.{carried_none, carried_some, last_some}
use Rattle.mc_cause.proofs.Tells.{AreCarried, AreWhys, ack_none, cases_partner, close_origin, closed_by, knows_closes, noted_carried, same_place, still_carried, tells_after, turn_idle, why_still}
use Rattle.mc_cause.proofs.Told.{ack_taken, count_here, step_told}
use Rattle.mc_laws.proofs.ActedWorlds.{far_inside}
use Rattle.mc_laws.proofs.LanesKept.{front_next, lane_in}
use Rattle.mc_laws.proofs.Numbers.{box_inside, number_is}
use Rattle.mc_laws.proofs.Parts.{part_own}
use Rattle.mc_laws.proofs.StepActs.{Happened, left_here, step_acts, take_happened, take_happens, without}
use Rattle.mc_laws.proofs.TakeParts.{take_goals_stay}

-- ---- what a Take is

-- a slot takes a signal, and its box does what comes of it
pub record IsTake (world next : WorldState) (who local s : ℕ) : Type 0 where
  pub below : who < length world.boxes
  pub at : number world who local ≡ Some s
  pub signal : Signal
  pub is : option_and_then (front world) (number world who local) ≡ Some signal
  pub step : BoxStep
  pub sent : sendings world who (Take local) ≡ step.sent
  pub took : TookBy (goal_at (box_at world who) local) (box_at world who) local signal step
  pub after : slot_of next s ≡ slot_at step.after local
  pub states : TakesStates (slot_of world s) (slot_of next s)

-- the place of a slot stays
place_next : (world next : WorldState) (who local s : ℕ) → IsSound world → step world (record { who = who; event = Take local }) ≡ Some next → number world who local ≡ Some s → ((place next s).0 ≡ who) × ((place next s).1 ≡ local)
place_next world next who local s sound goes at =
    let same : place next s ≡ place world s = same_place world next (record { who = who; event = Take local }) s sound goes in
    let found = number_is world who local s at in
    (ap (λ (p : ℕ × ℕ). p.0) same ∙ found.1, ap (λ (p : ℕ × ℕ). p.1) same ∙ found.2)

slot_there : (world : WorldState) (who local s : ℕ) → ((place world s).0 ≡ who) × ((place world s).1 ≡ local) → slot_of world s ≡ slot_at (box_at world who) local
slot_there world who local s (one, two) = ap (λ (w : ℕ). slot_at (box_at world w) (place world s).1) one ∙ ap (slot_at (box_at world who)) two

made_take : (world next : WorldState) (who local s : ℕ) (signal : Signal) → IsSound world → step world (record { who = who; event = Take local }) ≡ Some next → who < length world.boxes → number world who local ≡ Some s
    → front world s ≡ Some signal → Happened world next who (Take local) (Some signal) (without world s) → IsTake world next who local s
made_take world next who local s signal sound goes below at first happened =
    let takes : option_and_then (front world) (number world who local) ≡ Some signal = ap (λ (o : Option ℕ). option_and_then (front world) o) at ∙ first in
    let made : box_event (box_at world who) (Take local) (option_and_then (front world) (number world who local)) ≡ Some happened.step =
    ap (λ (o : Option Signal). box_event (box_at world who) (Take local) o) takes ∙ happened.goes in
    let found = number_is world who local s at in
    let there : lane_of world s < length world.lanes = subst (λ (n : ℕ). lane_of world s < n) (sym sound.numbered.lanes) (lane_in world s found.0) in
    let list : list_to world s ≡ signal ∷ happened.stepped.left s =
    (front_next (tunnel_of world s).within signal (lane_to world s) first).next ∙ ap (λ (l : List Signal). signal ∷ l) (sym (happened.lefts s ∙ left_here world s there)) in
    record {
      below = below;
      at = at;
      signal = signal;
      is = takes;
      step = happened.step;
      sent = ap (λ (o : Option BoxStep). unwrap_or (option_map (λ (step : BoxStep). step.sent) o) []) made;
      took = take_turned (box_at world who) local signal happened.step (sound.boxes who below) happened.goes;
      after = slot_there next who local s (place_next world next who local s sound goes at) ∙ ap (λ (b : BoxState). slot_at b local) happened.after;
      states = acts_states (slot_of world s) (list_to world s) (happened.stepped.sent s) (slot_of next s) (happened.stepped.left s) signal (happened.stepped.acted s found.0) list;
    }

is_take : (world next : WorldState) (who local : ℕ) → IsSound world → step world (record { who = who; event = Take local }) ≡ Some next → (s : ℕ) × IsTake world next who local s
is_take world next who local sound goes =
    let open_step = if_some (nat_lt who (length world.boxes)) (step_by world who (Take local)) next goes in
    let below = box_inside world who open_step.0 in
    let one = then_some (take_at world who local) (number world who local) next open_step.1 in
    let two = then_some (λ (signal : Signal). option_map (after_making (after_pop world one.0) who) (box_event (box_at world who) (Take local) (Some signal))) (front world one.0) next one.2 in
    let three = map_some (after_making (after_pop world one.0) who) (box_event (box_at world who) (Take local) (Some two.0)) next two.2 in (
      one.0,
      made_take world next who local one.0 two.0 sound goes below one.1 two.1 (take_happens world next who local one.0 two.0 three.0 sound below one.1 two.1 three.1 three.2),
    )

-- ---- which slots send a close

-- after a close the slot is down, and sends none; and no other sends one where it waits for a closeack still
record CloseTaken (world next : WorldState) (turn : Turn) (s : ℕ) : Type 0 where
  pub own : closes (sends world turn s) ≡ 0
  pub down : IsDown (slot_of next s).state
  pub still : (slot_of next s).state ≡ Closing → (t : ℕ) → closes (sends world turn t) ≡ 0

close_taken : (world next : WorldState) (who local s : ℕ) (take : IsTake world next who local s) → take.signal ≡ Close → CloseTaken world next (record { who = who; event = Take local }) s
close_taken world next who local s take is =
    let turn : Turn = record { who = who; event = Take local } in
    let found = number_is world who local s take.at in
    let closes_box : TookClose (box_at world who) local take.step =
    took_close (goal_at (box_at world who) local) (box_at world who) local take.step
    (subst (λ (signal : Signal). TookBy (goal_at (box_at world who) local) (box_at world who) local signal take.step) is take.took) in
    record {
      own =
          ap closes (part_own who (place world s) (sendings world who (Take local)) found.1 ∙ ap (λ (l : List (ℕ × Signal)). sent_by (place world s).1 l) take.sent)
          ∙ (ap (λ (k : ℕ). closes (sent_by k take.step.sent)) found.2 ∙ closes_box.own);
      down = subst (λ (slot : Slot). IsDown slot.state) (sym take.after) closes_box.down;
      still = λ waits t. slot_sends world turn take.step t take.sent (closes_box.still (ap (λ (slot : Slot). slot.state) (sym take.after) ∙ waits));
    }

-- the partner stays
partner_next : (world next : WorldState) (who local s : ℕ) → IsSound world → step world (record { who = who; event = Take local }) ≡ Some next → partner_of next s ≡ partner_of world s
partner_next world next who local s sound goes =
    let took = take_happened world next who local sound goes in
    let stay = take_goals_stay world next took.0 took.1 sound in
    let channels : next.channels ≡ world.channels = (step_acts world next (record { who = who; event = Take local }) sound goes).channels in
    let same : place next s ≡ place world s = same_place world next (record { who = who; event = Take local }) s sound goes in
    let goal : goal_of next s ≡ goal_of world s = ap (λ (p : ℕ × ℕ). goal_at (box_at next p.0) p.1) same ∙ stay (place world s).0 (place world s).1 in
    ap (λ (g : SlotGoal). partner_by next g s) goal ∙ by_goal (goal_of world s) channels
  where
    by_goal : (goal : SlotGoal) → next.channels ≡ world.channels → partner_by next goal s ≡ partner_by world goal s
    by_goal (End goal) channels = refl
    by_goal (Link partner) channels =
        ap (λ (c : List ChannelState). number (record next { channels = c }) (get_or (places_among c) s (0, 0)).0 partner) channels

-- an end under close that takes an open is linked with none
close_alone : (world : WorldState) (who local s : ℕ) (signal : Option Signal) → number world who local ≡ Some s → (is_open signal && is_close_goal (goal_at (box_at world who) local)) ≡ true → partner_of world s ≡ None
close_alone world who local s signal at begins =
    let found = number_is world who local s at in
    let goal : goal_of world s ≡ goal_at (box_at world who) local = ap (λ (w : ℕ). goal_at (box_at world w) (place world s).1) found.1 ∙ ap (goal_at (box_at world who)) found.2 in
    ap (λ (g : SlotGoal). partner_by world g s) goal ∙ by_goal (goal_at (box_at world who) local) (is_open signal) begins
  where
    by_goal : (goal : SlotGoal) (opens : Bool) → (opens && is_close_goal goal) ≡ true → partner_by world goal s ≡ None
    by_goal (End goal) opens is = refl
    by_goal (Link partner) true is = absurd (cc)
    by_goal (Link partner) false is = absurd (cc)

-- what is seen of a Take
record TakeFacts (world next : WorldState) (turn : Turn) (s : ℕ) : Type 0 where
  pub inside : s < slot_count world
  pub at : taking world turn ≡ Some s
  pub signal : Signal
  pub is : taken world turn ≡ Some signal
  pub states : TakesStates (slot_of world s) (slot_of next s)
  pub close : signal ≡ Close → CloseTaken world next turn s
  pub closeack : signal ≡ Closeack → (t : ℕ) → closes (sends world turn t) ≡ 0
  pub others : signal ≢ Close → (t : ℕ) → t < slot_count world → t ≢ s → closes (sends world turn t) ≡ 0
  pub idle : (t : ℕ) → t < slot_count world → t ≢ s → (partner_of next s ≡ Some t → ⊥) → closes (sends world turn t) ≡ 0

takes_none : (signal : Signal) (slot : Option ℕ) → signal ≢ Close → where_close (Some signal) slot ≡ None
takes_none Close slot other = absurd (other refl)
takes_none Closeack slot other = refl
takes_none (Open medium d) slot other = refl
takes_none (Oack d) slot other = refl
takes_none (Describe d) slot other = refl
takes_none (Select s) slot other = refl

none_some : (s : ℕ) → None ≡ Some s → ⊥
none_some s is = cc

take_facts : (world next : WorldState) (who local s : ℕ) → IsSound world → step world (record { who = who; event = Take local }) ≡ Some next → IsTake world next who local s → TakeFacts world next (record { who = who; event = Take local }) s
take_facts world next who local s sound goes take = record {
  inside = (number_is world who local s take.at).0;
  at = take.at;
  signal = take.signal;
  is = take.is;
  states = take.states;
  close = close_taken world next who local s take;
  closeack = λ ack t. turn_sends world next turn t sound goes (none (λ close. let both : Close ≡ Closeack = sym close ∙ ack in cc)) (by_ack ack);
  others = λ other t within apart. others_none (begins_close world turn) refl other t within apart;
  idle = λ t within apart third. ap closes (turn_idle world next turn s t sound goes take.at within apart (λ mate. third (partner_next world next who local s sound goes ∙ mate)));
}
  where
    turn : Turn
    turn = record { who = who; event = Take local }

    none : take.signal ≢ Close → takes_close world turn ≡ None
    none other = ap (λ (o : Option Signal). where_close o (number world who local)) take.is ∙ takes_none take.signal (number world who local) other

    by_ack : take.signal ≡ Closeack → begins_close world turn ≡ false
    by_ack ack = ap (λ (o : Option Signal). is_open o && is_close_goal (goal_at (box_at world who) local)) (take.is ∙ ap Some ack)

    others_none : (begins : Bool) → begins_close world turn ≡ begins → take.signal ≢ Close → (t : ℕ) → t < slot_count world → t ≢ s → closes (sends world turn t) ≡ 0
    others_none false is other t within apart = turn_sends world next turn t sound goes (none other) is
    others_none true is other t within apart =
        let alone : partner_of world s ≡ None = close_alone world who local s (option_and_then (front world) (number world who local)) take.at is in
        ap closes (turn_idle world next turn s t sound goes take.at within apart (λ mate. none_some t (sym alone ∙ mate)))

-- ---- what is kept then

-- both tables are those of one turn more
record AreKept (world next : WorldState) (turn : Turn) (known : Known) (new new_whys : List (Option ℕ)) : Type 0 where
  pub carried : AreCarried next (known_after known world turn) new
  pub whys : AreWhys next (known_after known world turn) new_whys

-- what is known before the turn
record KnowsTables (world next : WorldState) (turn : Turn) (known : Known) (origins whys : List (Option ℕ)) : Type 0 where
  pub sound : IsSound world
  pub goes : step world turn ≡ Some next
  pub counted : AreCounted world known
  pub carried : AreCarried world known origins
  pub were : AreWhys world known whys
  pub origins_long : length origins ≡ slot_count world
  pub whys_long : length whys ≡ slot_count world

inside_before : (world next : WorldState) (turn : Turn) (known : Known) (origins whys : List (Option ℕ)) (t : ℕ) → KnowsTables world next turn known origins whys → t < slot_count next → t < slot_count world
inside_before world next turn known origins whys t knows below = subst (λ (n : ℕ). t < n) (same_count world next turn knows.sound knows.goes) below

not_taking : (world : WorldState) (turn : Turn) (s t : ℕ) → taking world turn ≡ Some s → t ≢ s → taking world turn ≡ Some t → ⊥
not_taking world turn s t at apart is = apart (let both : Some t ≡ Some s = sym is ∙ at in cc)

close_cases : (signal : Signal) → (signal ≡ Close) ⊎ (signal ≢ Close)
close_cases Close = inl refl
close_cases Closeack = inr (λ is. cc)
close_cases (Open medium d) = inr (λ is. cc)
close_cases (Oack d) = inr (λ is. cc)
close_cases (Describe d) = inr (λ is. cc)
close_cases (Select s) = inr (λ is. cc)

ack_cases : (signal : Signal) → (signal ≡ Closeack) ⊎ (ack_of signal ≡ 0)
ack_cases Closeack = inl refl
ack_cases Close = inr refl
ack_cases (Open medium d) = inr refl
ack_cases (Oack d) = inr refl
ack_cases (Describe d) = inr refl
ack_cases (Select s) = inr refl

-- no slot becomes closed where the one that takes isn't closed
whys_open : (world next : WorldState) (turn : Turn) (s : ℕ) (known : Known) (origins whys new_whys : List (Option ℕ)) → KnowsTables world next turn known origins whys → TakeFacts world next turn s
    → is_closed (slot_of next s).state ≡ false → new_whys ≡ whys → AreWhys next (known_after known world turn) new_whys
whys_open world next turn s known origins whys new_whys knows facts opens same t below =
    let inside = inside_before world next turn known origins whys t knows below in
    ap (λ (l : List (Option ℕ)). get_or l t None) same ∙ (knows.were t inside ∙ unchosen (becomes_closed world turn t) (cause known (takes_close world turn) t) (known.why t) (λ closed. never (closed_by world next turn t knows.sound knows.goes inside closed).0 closed))
  where
    unchosen : (test : Bool) (one two : Option ℕ) → (test ≡ true → ⊥) → two ≡ (if test then one else two)
    unchosen true one two none = absurd (none refl)
    unchosen false one two none = refl

    never : taking world turn ≡ Some t → becomes_closed world turn t ≡ true → ⊥
    never at closed =
        let here : t ≡ s = let both : Some t ≡ Some s = sym at ∙ facts.at in cc in
        let state : is_closed (slot_of next t).state ≡ true =
        ap (λ (w : WorldState). is_closed (slot_of w t).state) (sym (next_is world next turn knows.goes)) ∙ (and_parts (not (is_closed (slot_of world t).state)) (is_closed (slot_of (next_world world turn) t).state) closed).1 in
        let other : is_closed (slot_of next t).state ≡ false = ap (λ (n : ℕ). is_closed (slot_of next n).state) here ∙ opens in
        cc

-- ---- the slot is opened or flowing

few_cases : (n : ℕ) → n ≤ 1 → (n ≡ 0) ⊎ (n ≡ 1)
few_cases zero few = inl refl
few_cases (suc n) few = inr (omega arith)

live_waits : (state : State) → is_live state ≡ true → waits state ≡ 0
live_waits Opened is = refl
live_waits Flowing is = refl
live_waits state is = absurd (cc)

live_open : (state : State) → is_live state ≡ true → is_closed state ≡ false
live_open Opened is = refl
live_open Flowing is = refl
live_open state is = absurd (cc)

live_kept : (world next : WorldState) (turn : Turn) (s : ℕ) (known : Known) (origins new whys new_whys : List (Option ℕ)) → KnowsTables world next turn known origins whys → TakeFacts world next turn s
    → is_live (slot_of next s).state ≡ true → new ≡ origins → new_whys ≡ whys → AreKept world next turn known new new_whys
live_kept world next turn s known origins new whys new_whys knows facts live same same_whys = record {
  carried = carried;
  whys = whys_open world next turn s known origins whys new_whys knows facts (live_open (slot_of next s).state live) same_whys;
}
  where
    quiet : waits (slot_of world s).state ≡ 0
    quiet = elim (few_cases (waits (slot_of world s).state) (waits_few (slot_of world s).state)) [
      | inl none ↦ none
      | inr one ↦ absurd (let dead : is_live (slot_of next s).state ≡ false = facts.states.waited one in cc)
    ]

    own : get_or new s None ≡ carried_in (slot_of next s).state (last_or None ((known_after known world turn).origins s))
    own =
        ap (λ (l : List (Option ℕ)). get_or l s None) same
        ∙ (knows.carried s facts.inside
        ∙ (carried_none (slot_of world s).state (last_or None (known.origins s)) quiet
        ∙ sym (carried_none (slot_of next s).state (last_or None ((known_after known world turn).origins s)) (live_waits (slot_of next s).state live))))

    carried : AreCarried next (known_after known world turn) new
    carried t below =
        let inside = inside_before world next turn known origins whys t knows below in
        elim (cases_eq t s) [
          | inl here ↦ subst (λ (n : ℕ). get_or new n None ≡ carried_in (slot_of next n).state (last_or None ((known_after known world turn).origins n))) (sym here) own
          | inr apart ↦
              still_carried world next turn known origins new t knows.sound knows.goes knows.carried inside (not_taking world turn s t facts.at apart)
              (elim (close_cases facts.signal) [
                | inl close ↦ absurd (let dead : is_live (slot_of next s).state ≡ false = down_live (slot_of next s).state (facts.close close).down in cc)
                | inr other ↦ facts.others other t inside apart
              ])
              (ap (λ (l : List (Option ℕ)). get_or l t None) same)
        ]

-- ---- it has become closed

closed_waits : (state : State) → is_closed state ≡ true → waits state ≡ 0
closed_waits Closed is = refl
closed_waits state is = absurd (cc)

waits_open : (state : State) → waits state ≡ 1 → is_closed state ≡ false
waits_open Closed is = absurd (omega arith)
waits_open Opening is = refl
waits_open Opened is = refl
waits_open Flowing is = refl
waits_open Closing is = refl

noted_none : (state : State) (old : Option ℕ) (number : ℕ) → waits state ≡ 0 → noted state old number ≡ None
noted_none Closed old number is = refl
noted_none Opening old number is = refl
noted_none Opened old number is = refl
noted_none Flowing old number is = refl
noted_none Closing old number is = absurd (omega arith)

ack_here : (world next : WorldState) (turn : Turn) (s : ℕ) (facts : TakeFacts world next turn s) → ack_taken world turn s ≡ ack_of facts.signal
ack_here world next turn s facts = count_here ack_of (taken world turn) (taking world turn) facts.signal s facts.is facts.at

-- why it is closed, and the others are
whys_closed : (world next : WorldState) (turn : Turn) (s : ℕ) (known : Known) (origins whys new_whys : List (Option ℕ)) (why : Option ℕ) → KnowsTables world next turn known origins whys → TakeFacts world next turn s
    → is_closed (slot_of world s).state ≡ false → is_closed (slot_of next s).state ≡ true → why ≡ cause known (takes_close world turn) s → new_whys ≡ set whys s why → AreWhys next (known_after known world turn) new_whys
whys_closed world next turn s known origins whys new_whys why knows facts opens closed is new_is t below =
    let inside = inside_before world next turn known origins whys t knows below in
    elim (cases_eq t s) [
      | inl here ↦ subst (λ (n : ℕ). get_or new_whys n None ≡ (known_after known world turn).why n) (sym here) own
      | inr apart ↦
          why_still world next turn known t (get_or whys t None) (get_or new_whys t None) knows.sound knows.goes inside (not_taking world turn s t facts.at apart) (knows.were t inside)
          (ap (λ (l : List (Option ℕ)). get_or l t None) new_is ∙ get_or-set_other whys s t why None apart)
    ]
  where
    chosen : (test : Bool) (one two : Option ℕ) → test ≡ true → one ≡ (if test then one else two)
    chosen true one two is = refl
    chosen false one two is = absurd (cc)

    becomes : becomes_closed world turn s ≡ true
    becomes =
        ap (λ (b : Bool). not b && is_closed (slot_of (next_world world turn) s).state) opens
        ∙ (ap (λ (w : WorldState). is_closed (slot_of w s).state) (next_is world next turn knows.goes) ∙ closed)

    own : get_or new_whys s None ≡ (known_after known world turn).why s
    own =
        ap (λ (l : List (Option ℕ)). get_or l s None) new_is
        ∙ (get_or-set_same whys s why None (subst (λ (n : ℕ). s < n) (sym knows.whys_long) facts.inside)
        ∙ (is ∙ chosen (becomes_closed world turn s) (cause known (takes_close world turn) s) (known.why s) becomes))

-- by its closeack
acked_kept : (world next : WorldState) (turn : Turn) (s own : ℕ) (known : Known) (origins new whys new_whys : List (Option ℕ)) → KnowsTables world next turn known origins whys → TakeFacts world next turn s
    → is_closed (slot_of next s).state ≡ true → get_or origins s None ≡ Some own → new ≡ set origins s None → new_whys ≡ set whys s (Some own) → AreKept world next turn known new new_whys
acked_kept world next turn s own known origins new whys new_whys knows facts closed carries new_is whys_is = record {
  carried = carried;
  whys = whys_closed world next turn s known origins whys new_whys (Some own) knows facts (waits_open (slot_of world s).state waited) closed why whys_is;
}
  where
    there : get_or origins s None ≡ carried_in (slot_of world s).state (last_or None (known.origins s))
    there = knows.carried s facts.inside

    waited : waits (slot_of world s).state ≡ 1
    waited = elim (few_cases (waits (slot_of world s).state) (waits_few (slot_of world s).state)) [
      | inl none ↦ absurd (none_some own (sym (there ∙ carried_none (slot_of world s).state (last_or None (known.origins s)) none) ∙ carries))
      | inr one ↦ one
    ]

    ack : facts.signal ≡ Closeack
    ack = elim (ack_cases facts.signal) [
      | inl is ↦ is
      | inr other ↦
          absurd
          (let counts : closes (sends world turn s) + waits (slot_of world s).state ≡ ack_taken world turn s + waits (slot_of next s).state = (step_told world next turn s knows.sound knows.goes facts.inside).waiting in
          let here : ack_taken world turn s ≡ 0 = ack_here world next turn s facts ∙ other in
          let after : waits (slot_of next s).state ≡ 0 = closed_waits (slot_of next s).state closed in
          let one : waits (slot_of world s).state ≡ 1 = waited in
          omega arith)
    ]

    none : takes_close world turn ≡ None
    none =
        ap (λ (o : Option Signal). where_close o (taking world turn)) facts.is
        ∙ takes_none facts.signal (taking world turn) (λ close. let both : Close ≡ Closeack = sym close ∙ ack in cc)

    why : Some own ≡ cause known (takes_close world turn) s
    why =
        sym carries
        ∙ (there
        ∙ (carried_some (slot_of world s).state (last_or None (known.origins s)) (let one : waits (slot_of world s).state ≡ 1 = waited in omega arith) ∙ ap (λ (o : Option ℕ). cause known o s) (sym none)))

    mine : get_or new s None ≡ carried_in (slot_of next s).state (last_or None ((known_after known world turn).origins s))
    mine =
        ap (λ (l : List (Option ℕ)). get_or l s None) new_is
        ∙ (get_or-set_same origins s None None (subst (λ (n : ℕ). s < n) (sym knows.origins_long) facts.inside)
        ∙ sym (carried_none (slot_of next s).state (last_or None ((known_after known world turn).origins s)) (closed_waits (slot_of next s).state closed)))

    carried : AreCarried next (known_after known world turn) new
    carried t below =
        let inside = inside_before world next turn known origins whys t knows below in
        elim (cases_eq t s) [
          | inl here ↦ subst (λ (n : ℕ). get_or new n None ≡ carried_in (slot_of next n).state (last_or None ((known_after known world turn).origins n))) (sym here) mine
          | inr apart ↦
              still_carried world next turn known origins new t knows.sound knows.goes knows.carried inside (not_taking world turn s t facts.at apart) (facts.closeack ack t)
              (ap (λ (l : List (Option ℕ)). get_or l t None) new_is ∙ get_or-set_other origins s t None None apart)
        ]

-- by a close, which its link passes on
with_none : (world : WorldState) (beside : Option ℕ) (s origin : ℕ) (origins : List (Option ℕ)) → (slot_count world ≡ length origins) → s < slot_count world → waits (slot_of world s).state ≡ 0 → get_or origins s None ≡ None
    → get_or (with_partner world beside origin origins) s None ≡ None
with_none world None s origin origins long inside still none = none
with_none world (Some p) s origin origins long inside still none = elim (cases_eq s p) [
  | inl same ↦
      subst (λ (q : ℕ). get_or (with_slot world q origin origins) s None ≡ None) same
      (get_or-set_same origins s (noted (slot_of world s).state (get_or origins s None) origin) None (subst (λ (n : ℕ). s < n) long inside)
      ∙ noted_none (slot_of world s).state (get_or origins s None) origin still)
  | inr apart ↦ get_or-set_other origins p s (noted (slot_of world p).state (get_or origins p None) origin) None apart ∙ none
]

with_other : (world : WorldState) (beside : Option ℕ) (t origin : ℕ) (origins : List (Option ℕ)) → (beside ≡ Some t → ⊥) → get_or (with_partner world beside origin origins) t None ≡ get_or origins t None
with_other world None t origin origins third = refl
with_other world (Some p) t origin origins third = get_or-set_other origins p t (noted (slot_of world p).state (get_or origins p None) origin) None (λ same. third (ap Some (sym same)))

with_mate : (world : WorldState) (beside : Option ℕ) (t origin : ℕ) (origins : List (Option ℕ)) → beside ≡ Some t → t < length origins
    → get_or (with_partner world beside origin origins) t None ≡ noted (slot_of world t).state (get_or origins t None) origin
with_mate world beside t origin origins mate inside =
    ap (λ (o : Option ℕ). get_or (with_partner world o origin origins) t None) mate ∙ get_or-set_same origins t (noted (slot_of world t).state (get_or origins t None) origin) None inside

passed_kept : (world next : WorldState) (turn : Turn) (s number : ℕ) (known : Known) (origins new whys new_whys : List (Option ℕ)) → KnowsTables world next turn known origins whys → TakeFacts world next turn s
    → is_closed (slot_of next s).state ≡ true → get_or origins s None ≡ None → new ≡ with_partner next (partner_of next s) (origin_at origins s number) origins → new_whys ≡ set whys s (Some (origin_at origins s number))
    → AreKept world next turn known new new_whys
passed_kept world next turn s number known origins new whys new_whys knows facts closed carries new_is whys_is = record {
  carried = carried;
  whys = whys_closed world next turn s known origins whys new_whys (Some (origin_at origins s number)) knows facts opens closed why whys_is;
}
  where
    there : get_or origins s None ≡ carried_in (slot_of world s).state (last_or None (known.origins s))
    there = knows.carried s facts.inside

    same_slots : slot_count next ≡ slot_count world
    same_slots = same_count world next turn knows.sound knows.goes

    quiet : waits (slot_of world s).state ≡ 0
    quiet = elim (few_cases (waits (slot_of world s).state) (waits_few (slot_of world s).state)) [
      | inl none ↦ none
      | inr one ↦
          let some : 1 ≤ waits (slot_of world s).state = omega arith in
          let last = last_some (known.origins s) ((knows.counted s facts.inside).waited some) in
          absurd (none_some last.0 (sym carries ∙ (there ∙ (carried_some (slot_of world s).state (last_or None (known.origins s)) some ∙ last.1))))
    ]

    opens : is_closed (slot_of world s).state ≡ false
    opens = by_test (is_closed (slot_of world s).state) refl
      where
        by_test : (test : Bool) → is_closed (slot_of world s).state ≡ test → is_closed (slot_of world s).state ≡ false
        by_test false is = is
        by_test true is = absurd (let other : is_closed (slot_of next s).state ≡ false = facts.states.opens is in cc)

    close : taken world turn ≡ Some Close
    close = elim ((step_told world next turn s knows.sound knows.goes facts.inside).closed opens closed).1 [
      | inl is ↦ is
      | inr ack ↦ absurd (let one : waits (slot_of world s).state ≡ 1 = ack.1 in let none : waits (slot_of world s).state ≡ 0 = quiet in omega arith)
    ]

    closing : takes_close world turn ≡ Some s
    closing = ap (λ (o : Option Signal). where_close o (taking world turn)) close ∙ ap (λ (o : Option ℕ). where_close (Some Close) o) facts.at

    origin_is : origin_at origins s number ≡ origin known (takes_close world turn)
    origin_is =
        close_origin world turn known origins s number knows.sound knows.counted closing (knows.carried (far s) (far_inside world s facts.inside)) ∙ ap (origin known) (sym closing)

    why : Some (origin_at origins s number) ≡ cause known (takes_close world turn) s
    why = ap Some (origin_is ∙ ap (origin known) closing) ∙ ap (λ (o : Option ℕ). cause known o s) (sym closing)

    after : waits (slot_of next s).state ≡ 0
    after = closed_waits (slot_of next s).state closed

    mine : get_or new s None ≡ carried_in (slot_of next s).state (last_or None ((known_after known world turn).origins s))
    mine =
        ap (λ (l : List (Option ℕ)). get_or l s None) new_is
        ∙ (with_none next (partner_of next s) s (origin_at origins s number) origins (same_slots ∙ sym knows.origins_long) (subst (λ (n : ℕ). s < n) (sym same_slots) facts.inside) after carries
        ∙ sym (carried_none (slot_of next s).state (last_or None ((known_after known world turn).origins s)) after))

    carried : AreCarried next (known_after known world turn) new
    carried t below =
        let inside = inside_before world next turn known origins whys t knows below in
        elim (cases_eq t s) [
          | inl here ↦ subst (λ (n : ℕ). get_or new n None ≡ carried_in (slot_of next n).state (last_or None ((known_after known world turn).origins n))) (sym here) mine
          | inr apart ↦ elim (cases_partner (partner_of next s) t) [
            | inl mate ↦
                noted_carried world next turn known origins new t (origin_at origins s number) knows.sound knows.goes knows.counted knows.carried inside
                (ack_none world turn t (not_taking world turn s t facts.at apart)) (λ some. origin_is)
                (ap (λ (l : List (Option ℕ)). get_or l t None) new_is
                ∙ with_mate next (partner_of next s) t (origin_at origins s number) origins mate (subst (λ (n : ℕ). t < n) (sym knows.origins_long) inside))
            | inr third ↦
                still_carried world next turn known origins new t knows.sound knows.goes knows.carried inside (not_taking world turn s t facts.at apart) (facts.idle t inside apart third)
                (ap (λ (l : List (Option ℕ)). get_or l t None) new_is ∙ with_other next (partner_of next s) t (origin_at origins s number) origins third)
          ]
        ]

-- ---- it is opening, or waits for a closeack

open_kept : (world next : WorldState) (turn : Turn) (s number : ℕ) (known : Known) (origins new whys new_whys : List (Option ℕ)) → KnowsTables world next turn known origins whys → TakeFacts world next turn s
    → number ≡ known.turns + 1 → is_closed (slot_of next s).state ≡ false → new ≡ set origins s (noted (slot_of next s).state (get_or origins s None) number) → new_whys ≡ whys → AreKept world next turn known new new_whys
open_kept world next turn s number known origins new whys new_whys knows facts count opens new_is whys_is = record {
  carried = carried;
  whys = whys_open world next turn s known origins whys new_whys knows facts opens whys_is;
}
  where
    here_is : get_or new s None ≡ noted (slot_of next s).state (get_or origins s None) number
    here_is =
        ap (λ (l : List (Option ℕ)). get_or l s None) new_is
        ∙ get_or-set_same origins s (noted (slot_of next s).state (get_or origins s None) number) None (subst (λ (n : ℕ). s < n) (sym knows.origins_long) facts.inside)

    -- a close that it sends is of this turn
    sent_now : 1 ≤ closes (sends world turn s) → number ≡ origin known (takes_close world turn)
    sent_now some = elim (close_cases facts.signal) [
      | inl close ↦ absurd (let none : closes (sends world turn s) ≡ 0 = (facts.close close).own in omega arith)
      | inr other ↦
          count ∙ ap (origin known) (sym (ap (λ (o : Option Signal). where_close o (taking world turn)) facts.is ∙ takes_none facts.signal (taking world turn) other))
    ]

    mine : get_or new s None ≡ carried_in (slot_of next s).state (last_or None ((known_after known world turn).origins s))
    mine = elim (ack_cases facts.signal) [
      | inl ack ↦
          let counts : closes (sends world turn s) + waits (slot_of world s).state ≡ ack_taken world turn s + waits (slot_of next s).state = (step_told world next turn s knows.sound knows.goes facts.inside).waiting in
          let sent : closes (sends world turn s) ≡ 0 = facts.closeack ack s in
          let one : ack_taken world turn s ≡ 1 = ack_here world next turn s facts ∙ ap ack_of ack in
          let few : waits (slot_of world s).state ≤ 1 = waits_few (slot_of world s).state in
          let after : waits (slot_of next s).state ≡ 0 = omega arith in
          here_is
          ∙ (noted_none (slot_of next s).state (get_or origins s None) number after ∙ sym (carried_none (slot_of next s).state (last_or None ((known_after known world turn).origins s)) after))
      | inr other ↦
          noted_carried world next turn known origins new s number knows.sound knows.goes knows.counted knows.carried facts.inside (ack_here world next turn s facts ∙ other) sent_now here_is
    ]

    unsent : (t : ℕ) → t < slot_count world → t ≢ s → closes (sends world turn t) ≡ 0
    unsent t inside apart = elim (close_cases facts.signal) [
      | inl close ↦ elim (facts.close close).down [
        | inl shut ↦ absurd (let is : is_closed (slot_of next s).state ≡ true = ap is_closed shut in cc)
        | inr waits ↦ (facts.close close).still waits t
      ]
      | inr other ↦ facts.others other t inside apart
    ]

    carried : AreCarried next (known_after known world turn) new
    carried t below =
        let inside = inside_before world next turn known origins whys t knows below in
        elim (cases_eq t s) [
          | inl here ↦ subst (λ (n : ℕ). get_or new n None ≡ carried_in (slot_of next n).state (last_or None ((known_after known world turn).origins n))) (sym here) mine
          | inr apart ↦
              still_carried world next turn known origins new t knows.sound knows.goes knows.carried inside (not_taking world turn s t facts.at apart) (unsent t inside apart)
              (ap (λ (l : List (Option ℕ)). get_or l t None) new_is ∙ get_or-set_other origins s t (noted (slot_of next s).state (get_or origins s None) number) None apart)
        ]

-- ---- whatever it is

by_own : (own : Option ℕ) (world next : WorldState) (turn : Turn) (s number : ℕ) (known : Known) (origins new whys new_whys : List (Option ℕ)) → KnowsTables world next turn known origins whys → TakeFacts world next turn s
    → is_closed (slot_of next s).state ≡ true → get_or origins s None ≡ own → NotesClosed next s own number origins new whys new_whys → AreKept world next turn known new new_whys
by_own (Some own) world next turn s number known origins new whys new_whys knows facts closed is notes = acked_kept world next turn s own known origins new whys new_whys knows facts closed is notes.0 notes.1
by_own None world next turn s number known origins new whys new_whys knows facts closed is notes = passed_kept world next turn s number known origins new whys new_whys knows facts closed is notes.0 notes.1

by_closed : (closed : Bool) (world next : WorldState) (turn : Turn) (s number : ℕ) (known : Known) (origins new whys new_whys : List (Option ℕ)) → KnowsTables world next turn known origins whys → TakeFacts world next turn s
    → number ≡ known.turns + 1 → is_closed (slot_of next s).state ≡ closed → NotesHere closed next s (slot_of next s).state number origins new whys new_whys → AreKept world next turn known new new_whys
by_closed true world next turn s number known origins new whys new_whys knows facts count closed notes =
    by_own (get_or origins s None) world next turn s number known origins new whys new_whys knows facts closed refl notes
by_closed false world next turn s number known origins new whys new_whys knows facts count closed notes = open_kept world next turn s number known origins new whys new_whys knows facts count closed notes.0 notes.1

by_live : (live : Bool) (world next : WorldState) (turn : Turn) (s number : ℕ) (known : Known) (origins new whys new_whys : List (Option ℕ)) → KnowsTables world next turn known origins whys → TakeFacts world next turn s
    → number ≡ known.turns + 1 → is_live (slot_of next s).state ≡ live → NotesTake live next (Some s) (slot_of next s).state number origins new whys new_whys → AreKept world next turn known new new_whys
by_live true world next turn s number known origins new whys new_whys knows facts count live notes = live_kept world next turn s known origins new whys new_whys knows facts live notes.0 notes.1
by_live false world next turn s number known origins new whys new_whys knows facts count live notes =
    by_closed (is_closed (slot_of next s).state) world next turn s number known origins new whys new_whys knows facts count refl notes

-- the same number in the next world
number_next : (world next : WorldState) (who local s : ℕ) → IsSound world → step world (record { who = who; event = Take local }) ≡ Some next → number world who local ≡ Some s → number next who local ≡ Some s
number_next world next who local s sound goes at =
    ap (λ (c : List ChannelState). number (record next { channels = c }) who local) (step_acts world next (record { who = who; event = Take local }) sound goes).channels ∙ at

-- a Take once more
pub tells_take : (first last next : WorldState) (turns : List Turn) (who local : ℕ) (old new : WhysState) → TellsCauses first turns last old → AreOfSlots last old → step last (record { who = who; event = Take local }) ≡ Some next
    → new.turns ≡ old.turns + 1 → NotesTake (is_live (slot_at (box_at next who) local).state) next (number next who local) (slot_at (box_at next who) local).state (old.turns + 1) old.origins new.origins old.whys new.whys
    → TellsCauses first (turns ++ record { who = who; event = Take local } ∷ []) next new
tells_take first last next turns who local old new tells slots goes count notes =
    let turn : Turn = record { who = who; event = Take local } in
    let closes_known = knows_closes first last turns old tells in
    let take = is_take last next who local closes_known.sound goes in
    let at : number next who local ≡ Some take.0 = number_next last next who local take.0 closes_known.sound goes take.1.at in
    let slot : slot_of next take.0 ≡ slot_at (box_at next who) local = slot_there next who local take.0 (place_next last next who local take.0 closes_known.sound goes take.1.at) in
    let here : NotesTake (is_live (slot_of next take.0).state) next (Some take.0) (slot_of next take.0).state (old.turns + 1) old.origins new.origins old.whys new.whys =
    subst (λ (a : Slot). NotesTake (is_live a.state) next (Some take.0) a.state (old.turns + 1) old.origins new.origins old.whys new.whys) (sym slot)
    (subst (λ (o : Option ℕ). NotesTake (is_live (slot_at (box_at next who) local).state) next o (slot_at (box_at next who) local).state (old.turns + 1) old.origins new.origins old.whys new.whys) at notes) in
    let knows : KnowsTables last next turn (known_from none_known first turns) old.origins old.whys =
    record { sound = closes_known.sound; goes = goes; counted = closes_known.counted; carried = tells.origins; were = tells.whys; origins_long = slots.origins; whys_long = slots.whys } in
    let kept =
    by_live (is_live (slot_of next take.0).state) last next turn take.0 (old.turns + 1) (known_from none_known first turns) old.origins new.origins old.whys new.whys knows
    (take_facts last next who local take.0 closes_known.sound goes take.1) closes_known.number refl here in
    tells_after first last next turns turn old new tells goes count kept.carried kept.whys

-- ---- what noting asks for

-- the slot that takes is there
pub take_inside : (world next : WorldState) (who local : ℕ) → IsSound world → step world (record { who = who; event = Take local }) ≡ Some next → local < length (box_at next who).slots
take_inside world next who local sound goes =
    let take = is_take world next who local sound goes in
    let found = number_is world who local take.0 take.1.at in
    let acts = step_acts world next (record { who = who; event = Take local }) sound goes in
    subst (λ (n : ℕ). local < n) (sym (acts.makes who).alike.slots)
    (subst (λ (w : ℕ). local < length (box_at world w).slots) found.1 (subst (λ (l : ℕ). l < length (box_at world (place world take.0).0).slots) found.2 (sound.numbered.slots take.0 found.0)))
