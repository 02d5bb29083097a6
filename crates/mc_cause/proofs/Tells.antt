-- Causes tell of one turn more.
use Rattle.std.proofs.Common.{◌≡◌, ◌≢◌, ◌<◌, ◌≤◌, ◌+◌, ◌++◌, ◌⊎◌, inl, inr, if◌then◌else◌, nat_lt, not, ℕ, Bool, true, false, Option, Some, None, List, [], ◌∷◌, length, get_or, length-append, refl, ap, sym, ◌∙◌, subst, arith}
use Rattle.std.specs.List.{last_or}
use Rattle.std.specs.Option.{option_and_then, option_map, unwrap_or}
use Rattle.std.specs.Prelude.{replicate, Vec}
use Rattle.std.specs.declared.alloc.Global.{Global}
use Rattle.std.specs.Vec.{with_items}
use Rattle.std.proofs.lemmas.Bool.{and_parts, cases_eq}
use Rattle.std.proofs.lemmas.List.{get_or-replicate, length-replicate, with_items_is}
use Rattle.mc_signal.specs.declared.Signal.{Signal}
use Rattle.mc_signal.specs.declared.Signal.TheVariants.{Close, Closeack}
use Rattle.mc_slot.specs.Outlook.{ack_of, acks, closes, waits}
use Rattle.mc_slot.specs.declared.SlotGoal.{SlotGoal}
use Rattle.mc_slot.specs.declared.SlotGoal.TheVariants.{End, Link}
use Rattle.mc_slot.specs.declared.State.{State}
use Rattle.mc_slot.specs.declared.State.TheVariants.{Closed, Opening, Opened, Flowing, Closing}
use Rattle.mc_box.specs.Acting.{sent_by}
use Rattle.mc_box.specs.BoxEvents.{BoxStep, box_event}
use Rattle.mc_box.specs.Boxes.{BoxState, goal_at}
use Rattle.mc_box.specs.declared.event.Event.{Event}
use Rattle.mc_box.specs.declared.event.Event.TheVariants.{Take, Set, Media, Tell, Retry, Shift}
use Rattle.mc_box.specs.declared.event.Turn.{Turn}
use Rattle.mc_laws.specs.Sendings.{sendings, taker}
use Rattle.mc_model.specs.Paths.{partner_by, partner_of}
use Rattle.mc_model.specs.Sound.{IsSound}
use Rattle.mc_model.specs.Steps.{after_making, after_pop, step, step_by, take_at}
use Rattle.mc_model.specs.Worlds.{ChannelState, WorldState, box_at, far, front, goal_of, list_to, number, place, places_among, slot_count, slot_of}
use Rattle.mc_cause.specs.Carried.{AreOfSlots, TellsCauses, WhysState, carried_in, noted}
use Rattle.mc_cause.specs.CauseLaws.{NoneCloses}
use Rattle.mc_cause.specs.Causes.{Known, becomes_closed, cause, is_closed, known_after, known_from, next_world, none_known, origin, sends, taken, takes_close, taking, where_close}
use Rattle.mc_cause.specs.Notes.{NotesBox}
use Rattle.mc_cause.proofs.Known.{AreCounted, counted_from_new, known_more, next_is, run_more, same_count, waits_few}
use Rattle.mc_cause.proofs.Sending.{close_is_taken}
use Rattle.mc_cause.proofs.Telling.{carried_some, last_at, slot_noted, slot_untouched}
use Rattle.mc_cause.proofs.Told.{ack_taken, count_none, step_told}
use Rattle.mc_box.proofs.Options.{if_some, map_some, then_some}
use Rattle.mc_box.proofs.TakeTurns.{TookBy, take_turned}
use Rattle.mc_laws.proofs.ActedWorlds.{far_inside}
use Rattle.mc_laws.proofs.Numbers.{box_inside, far_back, number_is}
use Rattle.mc_laws.proofs.Parts.{part_other, part_own}
use Rattle.mc_laws.proofs.StepActs.{step_acts}
use Rattle.mc_laws.proofs.StepKeeps.{run_keeps_sound}

-- ---- from which turn the closes of a turn come

-- the number of turns
known_turns : (turns : List Turn) (world : WorldState) (known : Known) → (known_from known world turns).turns ≡ known.turns + length turns
known_turns [] world known = omega arith
known_turns (turn ∷ turns) world known =
    let rest : (known_from (known_after known world turn) (next_world world turn) turns).turns ≡ known.turns + 1 + length turns = known_turns turns (next_world world turn) (known_after known world turn) in
    rest ∙ omega arith

-- the far slot of one that takes a close carries where that came from
pub close_origin : (world : WorldState) (turn : Turn) (known : Known) (origins : List (Option ℕ)) (t fallback : ℕ) → IsSound world → AreCounted world known → takes_close world turn ≡ Some t
    → get_or origins (far t) None ≡ carried_in (slot_of world (far t)).state (last_or None (known.origins (far t))) → unwrap_or (get_or origins (far t) None) fallback ≡ origin known (Some t)
close_origin world turn known origins t fallback sound counted is carried =
    let takes = close_is_taken world turn t is in
    let inside : far t < slot_count world = far_inside world t takes.inside in
    let all : length (known.origins (far t)) ≡ known.taken (far (far t)) + closes (list_to world (far (far t))) = (counted (far t) inside).counted in
    let back : length (known.origins (far t)) ≡ known.taken t + closes (list_to world t) = all ∙ ap (λ (s : ℕ). known.taken s + closes (list_to world s)) (far_back t) in
    let tunnel : closes (list_to world (far (far t))) + acks (list_to world (far t)) ≡ waits (slot_of world (far t)).state = (sound.tunnels (far t) inside).first_waits in
    let under : closes (list_to world t) + acks (list_to world (far t)) ≡ waits (slot_of world (far t)).state = sym (ap (λ (s : ℕ). closes (list_to world s) + acks (list_to world (far t))) (far_back t)) ∙ tunnel in
    let few : waits (slot_of world (far t)).state ≤ 1 = waits_few (slot_of world (far t)).state in
    let some : 1 ≤ closes (list_to world t) = takes.some in
    let waited : 1 ≤ waits (slot_of world (far t)).state = omega arith in
    let place : known.taken t + 1 ≡ length (known.origins (far t)) = omega arith in
    ap (λ (o : Option ℕ). unwrap_or o fallback) (carried ∙ (carried_some (slot_of world (far t)).state (last_or None (known.origins (far t))) waited ∙ last_at (known.origins (far t)) None (known.taken t) place))

-- ---- which slots send nothing in a Take

-- another slot of the box than these
idle_by : (goal : SlotGoal) (box : BoxState) (local k : ℕ) (signal : Signal) (step : BoxStep) → k ≢ local → (goal ≡ Link k → ⊥) → TookBy goal box local signal step → sent_by k step.sent ≡ []
idle_by (End goal) box local k signal step apart third took = (took.others k apart).sends
idle_by (Link partner) box local k signal step apart third took = (took.others k apart (λ same. third (ap Link (sym same)))).sends

linked_number : (world : WorldState) (who local other slot : ℕ) → number world who local ≡ Some slot → goal_at (box_at world who) local ≡ Link other → partner_of world slot ≡ number world who other
linked_number world who local other slot is goal =
    let at = number_is world who local slot is in
    let goal_is : goal_of world slot ≡ Link other = rw (at.1, at.2) goal in
    ap (λ (g : SlotGoal). partner_by world g slot) goal_is ∙ ap (λ (w : ℕ). number world w other) at.1

take_idle : (world next : WorldState) (who local slot s : ℕ) → IsSound world → who < length world.boxes → step_by world who (Take local) ≡ Some next → number world who local ≡ Some slot
    → s < slot_count world → s ≢ slot → (partner_of world slot ≡ Some s → ⊥) → sends world (record { who = who; event = Take local }) s ≡ []
take_idle world next who local slot s sound below goes at inside apart third =
    let one = then_some (take_at world who local) (number world who local) next goes in
    let two = then_some (λ (signal : Signal). option_map (after_making (after_pop world one.0) who) (box_event (box_at world who) (Take local) (Some signal))) (front world one.0) next one.2 in
    let three = map_some (after_making (after_pop world one.0) who) (box_event (box_at world who) (Take local) (Some two.0)) next two.2 in
    let takes : option_and_then (front world) (number world who local) ≡ Some two.0 = ap (λ (o : Option ℕ). option_and_then (front world) o) one.1 ∙ two.1 in
    let made : box_event (box_at world who) (Take local) (option_and_then (front world) (number world who local)) ≡ Some three.0 =
    ap (λ (o : Option Signal). box_event (box_at world who) (Take local) o) takes ∙ three.1 in
    let sent : sendings world who (Take local) ≡ three.0.sent = ap (λ (o : Option BoxStep). unwrap_or (option_map (λ (step : BoxStep). step.sent) o) []) made in
    elim (cases_eq (place world s).0 who) [
      | inl same ↦
          let own : number world who (place world s).1 ≡ Some s = ap (λ (w : ℕ). number world w (place world s).1) (sym same) ∙ sound.numbered.once s inside in
          part_own who (place world s) (sendings world who (Take local)) same
          ∙ (ap (λ (l : List (ℕ × Signal)). sent_by (place world s).1 l) sent
          ∙ idle_by (goal_at (box_at world who) local) (box_at world who) local (place world s).1 two.0 three.0
          (λ local_is. apart (let twice : Some s ≡ Some slot = sym own ∙ (ap (number world who) local_is ∙ at) in cc))
          (λ link. third (linked_number world who local (place world s).1 slot at link ∙ own))
          (take_turned (box_at world who) local two.0 three.0 (sound.boxes who below) three.1))
      | inr other ↦ part_other who (place world s) (sendings world who (Take local)) other
    ]

-- a turn by which a slot takes something is a Take
taking_idle : (event : Event) (world next : WorldState) (who slot s : ℕ) → IsSound world → who < length world.boxes → step_by world who event ≡ Some next → taker world who event ≡ Some slot
    → s < slot_count world → s ≢ slot → (partner_of world slot ≡ Some s → ⊥) → sends world (record { who = who; event = event }) s ≡ []
taking_idle (Take local) world next who slot s sound below goes at inside apart third = take_idle world next who local slot s sound below goes at inside apart third
taking_idle event world next who slot s sound below goes at inside apart third = absurd (cc)

pub turn_idle : (world next : WorldState) (turn : Turn) (slot s : ℕ) → IsSound world → step world turn ≡ Some next → taking world turn ≡ Some slot
    → s < slot_count world → s ≢ slot → (partner_of world slot ≡ Some s → ⊥) → sends world turn s ≡ []
turn_idle world next turn slot s sound goes at inside apart third =
    let one = if_some (nat_lt turn.who (length world.boxes)) (step_by world turn.who turn.event) next goes in
    taking_idle turn.event world next turn.who slot s sound (box_inside world turn.who one.0) one.1 at inside apart third

-- a turn that is made and takes no signal has no slot that takes
none_at : (event : Event) (world next : WorldState) (who : ℕ) → step_by world who event ≡ Some next → option_and_then (front world) (taker world who event) ≡ None → taker world who event ≡ None
none_at (Take local) world next who goes none =
    let one = then_some (take_at world who local) (number world who local) next goes in
    let two = then_some (λ (signal : Signal). option_map (after_making (after_pop world one.0) who) (box_event (box_at world who) (Take local) (Some signal))) (front world one.0) next one.2 in
    let takes : option_and_then (front world) (number world who local) ≡ Some two.0 = ap (λ (o : Option ℕ). option_and_then (front world) o) one.1 ∙ two.1 in
    absurd (cc)
none_at (Set change) world next who goes none = refl
none_at (Media change) world next who goes none = refl
none_at (Tell word) world next who goes none = refl
none_at (Retry local) world next who goes none = refl
none_at Shift world next who goes none = refl

pub none_taking : (world next : WorldState) (turn : Turn) → step world turn ≡ Some next → taken world turn ≡ None → taking world turn ≡ None
none_taking world next turn goes none =
    none_at turn.event world next turn.who (if_some (nat_lt turn.who (length world.boxes)) (step_by world turn.who turn.event) next goes).1 none

-- ---- what each slot carries then

pub ack_none : (world : WorldState) (turn : Turn) (s : ℕ) → (taking world turn ≡ Some s → ⊥) → ack_taken world turn s ≡ 0
ack_none world turn s other = count_none ack_of (taken world turn) (taking world turn) s other

pub cases_partner : (beside : Option ℕ) (s : ℕ) → (beside ≡ Some s) ⊎ (beside ≡ Some s → ⊥)
cases_partner None s = inr (λ is. no_such s is)
  where
    no_such : (s : ℕ) → None ≡ Some s → ⊥
    no_such s is = cc
cases_partner (Some p) s = elim (cases_eq p s) [
  | inl same ↦ inl (ap Some same)
  | inr apart ↦ inr (λ is. apart (let same : p ≡ s = cc in same))
]

pub same_place : (world next : WorldState) (turn : Turn) (s : ℕ) → IsSound world → step world turn ≡ Some next → place next s ≡ place world s
same_place world next turn s sound goes = ap (λ (channels : List ChannelState). get_or (places_among channels) s (0, 0)) (step_acts world next turn sound goes).channels

-- what is carried of these turns
abbrev pub AreCarried : WorldState → Known → List (Option ℕ) → Type 0
AreCarried world known origins = (s : ℕ) → s < slot_count world → get_or origins s None ≡ carried_in (slot_of world s).state (last_or None (known.origins s))

-- a slot that sends no close, and takes nothing, carries what it did
pub still_carried : (world next : WorldState) (turn : Turn) (known : Known) (origins new : List (Option ℕ)) (s : ℕ) → IsSound world → step world turn ≡ Some next → AreCarried world known origins → s < slot_count world
    → (taking world turn ≡ Some s → ⊥) → closes (sends world turn s) ≡ 0 → get_or new s None ≡ get_or origins s None
    → get_or new s None ≡ carried_in (slot_of next s).state (last_or None ((known_after known world turn).origins s))
still_carried world next turn known origins new s sound goes carried inside other none is =
    slot_untouched (slot_of next s).state (slot_of world s).state (closes (sends world turn s)) (ack_taken world turn s) (origin known (takes_close world turn)) (known.origins s) (get_or origins s None) (get_or new s None)
    none (ack_none world turn s other) (step_told world next turn s sound goes inside).waiting (carried s inside) is

-- one that takes no closeack, and of which something is noted
pub noted_carried : (world next : WorldState) (turn : Turn) (known : Known) (origins new : List (Option ℕ)) (s number : ℕ) → IsSound world → step world turn ≡ Some next → AreCounted world known → AreCarried world known origins
    → s < slot_count world → ack_taken world turn s ≡ 0 → (1 ≤ closes (sends world turn s) → number ≡ origin known (takes_close world turn)) → get_or new s None ≡ noted (slot_of next s).state (get_or origins s None) number
    → get_or new s None ≡ carried_in (slot_of next s).state (last_or None ((known_after known world turn).origins s))
noted_carried world next turn known origins new s number sound goes counted carried inside no_ack same is =
    let counts : closes (sends world turn s) + waits (slot_of world s).state ≡ ack_taken world turn s + waits (slot_of next s).state = (step_told world next turn s sound goes inside).waiting in
    slot_noted (slot_of next s).state (slot_of world s).state (closes (sends world turn s)) number (origin known (takes_close world turn)) (known.origins s) (get_or origins s None) (get_or new s None)
    (omega arith) same (counted s inside).waited (carried s inside) is

-- where each slot of the box is noted, in a turn that takes nothing
carried_box : (world next : WorldState) (turn : Turn) (known : Known) (origins new : List (Option ℕ)) (number : ℕ) → IsSound world → step world turn ≡ Some next → AreCounted world known
    → AreCarried world known origins → number ≡ origin known (takes_close world turn) → taken world turn ≡ None → NotesBox next turn.who number origins new → AreCarried next (known_after known world turn) new
carried_box world next turn known origins new number sound goes counted carried is nothing notes s below =
    let inside : s < slot_count world = subst (λ (n : ℕ). s < n) (same_count world next turn sound goes) below in
    let none : taking world turn ≡ None = none_taking world next turn goes nothing in
    let other : taking world turn ≡ Some s → ⊥ = λ at. let both : None ≡ Some s = sym none ∙ at in cc in
    elim (cases_eq (place next s).0 turn.who) [
      | inl same ↦ noted_carried world next turn known origins new s number sound goes counted carried inside (ack_none world turn s other) (λ some. is) (notes.own s below same)
      | inr away ↦
          still_carried world next turn known origins new s sound goes carried inside other
          (ap closes (part_other turn.who (place world s) (sendings world turn.who turn.event) (λ same. away (ap (λ (p : ℕ × ℕ). p.0) (same_place world next turn s sound goes) ∙ same))))
          (notes.others s away)
    ]

-- ---- why each slot is closed then

-- a choice by a test that doesn't hold
not_chosen : (test : Bool) (one two : Option ℕ) → (test ≡ true → ⊥) → two ≡ (if test then one else two)
not_chosen true one two none = absurd (none refl)
not_chosen false one two none = refl

not_true : (b : Bool) → not b ≡ true → b ≡ false
not_true true is = absurd (cc)
not_true false is = refl

-- a slot that becomes closed takes its close or its closeack
pub closed_by : (world next : WorldState) (turn : Turn) (s : ℕ) → IsSound world → step world turn ≡ Some next → s < slot_count world → becomes_closed world turn s ≡ true
    → (taking world turn ≡ Some s) × ((taken world turn ≡ Some Close) ⊎ ((taken world turn ≡ Some Closeack) × (waits (slot_of world s).state ≡ 1)))
closed_by world next turn s sound goes inside is =
    let parts = and_parts (not (is_closed (slot_of world s).state)) (is_closed (slot_of (next_world world turn) s).state) is in
    (step_told world next turn s sound goes inside).closed (not_true (is_closed (slot_of world s).state) parts.0)
    (ap (λ (w : WorldState). is_closed (slot_of w s).state) (sym (next_is world next turn goes)) ∙ parts.1)

abbrev pub AreWhys : WorldState → Known → List (Option ℕ) → Type 0
AreWhys world known whys = (s : ℕ) → s < slot_count world → get_or whys s None ≡ known.why s

-- a slot that takes nothing doesn't become closed
pub why_still : (world next : WorldState) (turn : Turn) (known : Known) (s : ℕ) (old new : Option ℕ) → IsSound world → step world turn ≡ Some next → s < slot_count world → (taking world turn ≡ Some s → ⊥)
    → old ≡ known.why s → new ≡ old → new ≡ (known_after known world turn).why s
why_still world next turn known s old new sound goes inside other was is =
    is ∙ (was ∙ not_chosen (becomes_closed world turn s) (cause known (takes_close world turn) s) (known.why s) (λ closed. other (closed_by world next turn s sound goes inside closed).0))

-- nor does any in a turn that takes nothing
whys_box : (world next : WorldState) (turn : Turn) (known : Known) (whys new : List (Option ℕ)) → IsSound world → step world turn ≡ Some next → AreWhys world known whys → taken world turn ≡ None → new ≡ whys
    → AreWhys next (known_after known world turn) new
whys_box world next turn known whys new sound goes were nothing same s below =
    let inside : s < slot_count world = subst (λ (n : ℕ). s < n) (same_count world next turn sound goes) below in
    let none : taking world turn ≡ None = none_taking world next turn goes nothing in
    why_still world next turn known s (get_or whys s None) (get_or new s None) sound goes inside (λ at. let both : None ≡ Some s = sym none ∙ at in cc)
    (were s inside) (ap (λ (l : List (Option ℕ)). get_or l s None) same)

-- ---- one turn more

-- what is known of the closes of some turns
pub record KnowsCloses (first : WorldState) (turns : List Turn) (last : WorldState) (causes : WhysState) : Type 0 where
  pub sound : IsSound last
  pub counted : AreCounted last (known_from none_known first turns)
  pub number : causes.turns + 1 ≡ (known_from none_known first turns).turns + 1

pub knows_closes : (first last : WorldState) (turns : List Turn) (causes : WhysState) → TellsCauses first turns last causes → KnowsCloses first turns last causes
knows_closes first last turns causes tells = record {
  sound = run_keeps_sound first last turns tells.sound tells.runs;
  counted = counted_from_new first last turns tells.sound tells.none tells.runs;
  number = ap (λ (n : ℕ). n + 1) (tells.count ∙ (let whole : (known_from none_known first turns).turns ≡ 0 + length turns = known_turns turns first none_known in sym (whole ∙ omega arith)));
}

-- tables that are those of one turn more
pub tells_after : (first last next : WorldState) (turns : List Turn) (turn : Turn) (old new : WhysState) → TellsCauses first turns last old → step last turn ≡ Some next → new.turns ≡ old.turns + 1
    → AreCarried next (known_after (known_from none_known first turns) last turn) new.origins → AreWhys next (known_after (known_from none_known first turns) last turn) new.whys
    → TellsCauses first (turns ++ turn ∷ []) next new
tells_after first last next turns turn old new tells goes count carried are =
    let more : known_from none_known first (turns ++ turn ∷ []) ≡ known_after (known_from none_known first turns) last turn = known_more turns first last none_known turn tells.runs in
    record {
      sound = tells.sound;
      none = tells.none;
      runs = run_more turns first last next turn tells.runs goes;
      count = count ∙ (ap (λ (n : ℕ). n + 1) tells.count ∙ sym (length-append turns (turn ∷ [])));
      origins = subst (λ (k : Known). AreCarried next k new.origins) (sym more) carried;
      whys = subst (λ (k : Known). AreWhys next k new.whys) (sym more) are;
    }

-- a turn that takes nothing, and may close of its own accord
pub tells_box : (first last next : WorldState) (turns : List Turn) (turn : Turn) (old new : WhysState) → TellsCauses first turns last old → step last turn ≡ Some next → new.turns ≡ old.turns + 1
    → taken last turn ≡ None → NotesBox next turn.who (old.turns + 1) old.origins new.origins → new.whys ≡ old.whys → TellsCauses first (turns ++ turn ∷ []) next new
tells_box first last next turns turn old new tells goes count nothing notes same =
    let known = knows_closes first last turns old tells in
    let is : old.turns + 1 ≡ origin (known_from none_known first turns) (takes_close last turn) =
    known.number ∙ ap (origin (known_from none_known first turns)) (sym (ap (λ (o : Option Signal). where_close o (taking last turn)) nothing)) in
    tells_after first last next turns turn old new tells goes count
    (carried_box last next turn (known_from none_known first turns) old.origins new.origins (old.turns + 1) known.sound goes known.counted tells.origins is nothing notes)
    (whys_box last next turn (known_from none_known first turns) old.whys new.whys known.sound goes tells.whys nothing same)

-- ---- at the beginning

carried_nothing : (state : State) → carried_in state None ≡ None
carried_nothing Closed = refl
carried_nothing Opening = refl
carried_nothing Opened = refl
carried_nothing Flowing = refl
carried_nothing Closing = refl

pub tells_none : (world : WorldState) (origins whys : List (Option ℕ)) → IsSound world → NoneCloses world → origins ≡ replicate (slot_count world) None → whys ≡ replicate (slot_count world) None
    → TellsCauses world [] world (record { turns = 0; origins = origins; whys = whys })
tells_none world origins whys sound none one two = record {
  sound = sound;
  none = none;
  runs = refl;
  count = refl;
  origins = λ s inside. ap (λ (l : List (Option ℕ)). get_or l s None) one ∙ (get_or-replicate (slot_count world) s None None inside ∙ sym (carried_nothing (slot_of world s).state));
  whys = λ s inside. ap (λ (l : List (Option ℕ)). get_or l s None) two ∙ get_or-replicate (slot_count world) s None None inside;
}

pub all_slots : (world : WorldState) (origins whys : List (Option ℕ)) → origins ≡ replicate (slot_count world) None → whys ≡ replicate (slot_count world) None → AreOfSlots world (record { turns = 0; origins = origins; whys = whys })
all_slots world origins whys one two = record {
  origins = ap length one ∙ length-replicate (slot_count world) (the_none);
  whys = ap length two ∙ length-replicate (slot_count world) (the_none);
}
  where
    the_none : Option ℕ
    the_none = None

-- ---- what a step asks for

pub turn_here : (world next : WorldState) (turn : Turn) → IsSound world → step world turn ≡ Some next → turn.who < length next.boxes
turn_here world next turn sound goes =
    subst (λ (n : ℕ). turn.who < n) (sym (step_acts world next turn sound goes).count)
    (box_inside world turn.who (if_some (nat_lt turn.who (length world.boxes)) (step_by world turn.who turn.event) next goes).0)

-- as many numbers are written over those before
pub written : (numbers : Vec (Option ℕ) Global) (new : List (Option ℕ)) → length new ≡ length numbers.items → (with_items numbers new).items ≡ new
written numbers new long = with_items_is numbers new (long ∙ sym numbers.ok.0)
