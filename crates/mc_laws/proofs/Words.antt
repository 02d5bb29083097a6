-- Where programs go by told words alone, each Shift but the first uses up a word, so Shifts are few.
use Rattle.std.proofs.Common.{◌≡◌, ◌<◌, ◌≤◌, ◌+◌, ◌==◌, ◌&&◌, ◌||◌, ℕ, zero, suc, Bool, true, false, not, cond, is_some, if◌then◌else◌, Option, Some, None, List, [], ◌∷◌, All, length, count_by, inl, inr, refl, ap, sym, ◌∙◌, subst, arith}
use Rattle.std.specs.List.{list_any}
use Rattle.std.specs.Option.{option_map, option_and_then}
use Rattle.std.proofs.Math.ListN.{get_or}
use Rattle.std.proofs.lemmas.Bool.{and_parts, cases_eq, eq-eqb, ne_eqb}
use Rattle.std.proofs.lemmas.List.Sums.{sum_by-cons}
use Rattle.mc_signal.specs.declared.Signal.{Signal}
use Rattle.mc_rule.specs.Programs.{ProgStateState, begins, enabled, first_that_holds, holds, no_state, shifted_by, spends}
use Rattle.mc_rule.specs.declared.Guard.{Guard}
use Rattle.mc_rule.specs.declared.Guard.TheVariants.{SlotIs, Told}
use Rattle.mc_rule.specs.declared.Rule.{Rule}
use Rattle.mc_rule.specs.declared.Shifted.{Shifted}
use Rattle.mc_slot.specs.declared.Slot.{Slot}
use Rattle.mc_box.specs.BoxEvents.{BoxStep, box_event, event_step, is_enabled, is_shift, kept_word}
use Rattle.mc_box.specs.Boxes.{BoxState, no_box, states_of}
use Rattle.mc_box.specs.declared.event.Event.{Event}
use Rattle.mc_box.specs.declared.event.Event.TheVariants.{Take, Set, Media, Tell, Retry, Shift}
use Rattle.mc_box.specs.declared.event.Turn.{Turn}
use Rattle.mc_box.proofs.Events.{event_goes, taking_is}
use Rattle.mc_box.proofs.Options.{map_some, then_some}
use Rattle.mc_model.specs.Settles.{can_shift, is_quiet, is_shift_of, is_tell, is_tell_of}
use Rattle.mc_model.specs.Shapes.{HasShape}
use Rattle.mc_model.specs.Sound.{IsSound}
use Rattle.mc_model.specs.Steps.{run, step}
use Rattle.mc_model.specs.Worlds.{WorldState, box_at}
use Rattle.mc_laws.specs.Words.{GoesByWords, RestAwaitsWords, RunKeepsWords, WaitsForWords, WordsBoundShifts, shifts_left, still_to_come, words_kept}
use Rattle.mc_laws.proofs.BoxStays.{Stays, media_stays, set_stays, shift_made, take_stays, tell_stays, turn_stays}
use Rattle.mc_laws.proofs.ShapesKept.{run_keeps_shape, step_keeps_shape}
use Rattle.mc_laws.proofs.StepActs.{Turned, step_turns}
use Rattle.mc_laws.proofs.StepKeeps.{step_keeps_sound}

-- ---- which transitions wait for words

-- a word that is told decides a guard, whatever the slots are
guard_same : (guard : Guard) (slots others : List Slot) (told : Option ℕ) → spends guard ≡ true → holds slots told guard ≡ holds others told guard
guard_same (SlotIs local in_state) slots others told is = absurd (cc)
guard_same (Told word) slots others told is = refl

-- and without one none holds
guard_fails : (guard : Guard) (slots : List Slot) → spends guard ≡ true → holds slots None guard ≡ false
guard_fails (SlotIs local in_state) slots is = absurd (cc)
guard_fails (Told word) slots is = refl

first_by : (b : Bool) (rule : Rule) (o p : Option Rule) → o ≡ p → cond b (Some rule) o ≡ cond b (Some rule) p
first_by true rule o p is = refl
first_by false rule o p is = is

first_same : (rules : List Rule) (slots others : List Slot) (told : Option ℕ) → ((k : ℕ) (d : Rule) → k < length rules → spends (get_or rules k d).guard ≡ true)
    → first_that_holds rules slots told ≡ first_that_holds rules others told
first_same [] slots others told words = refl
first_same (rule ∷ rules) slots others told words =
    ap (λ (b : Bool). cond b (Some rule) (first_that_holds rules slots told)) (guard_same rule.guard slots others told (words 0 rule (omega arith)))
    ∙ first_by (holds others told rule.guard) rule (first_that_holds rules slots told) (first_that_holds rules others told)
    (first_same rules slots others told (λ k d inside. words (suc k) d (omega (arith, inside))))

first_none : (rules : List Rule) (slots : List Slot) → ((k : ℕ) (d : Rule) → k < length rules → spends (get_or rules k d).guard ≡ true) → first_that_holds rules slots None ≡ None
first_none [] slots words = refl
first_none (rule ∷ rules) slots words =
    ap (λ (b : Bool). cond b (Some rule) (first_that_holds rules slots None)) (guard_fails rule.guard slots (words 0 rule (omega arith)))
    ∙ first_none rules slots (λ k d inside. words (suc k) d (omega (arith, inside)))

-- the one that is found waits for a word
found_waits : (b : Bool) (first rule : Rule) (rest : Option Rule) → spends first.guard ≡ true → (rest ≡ Some rule → spends rule.guard ≡ true) → cond b (Some first) rest ≡ Some rule
    → spends rule.guard ≡ true
found_waits true first rule rest here later is = let same : first ≡ rule = cc in subst (λ (r : Rule). spends r.guard ≡ true) same here
found_waits false first rule rest here later is = later is

first_waits : (rules : List Rule) (slots : List Slot) (told : Option ℕ) (rule : Rule) → ((k : ℕ) (d : Rule) → k < length rules → spends (get_or rules k d).guard ≡ true)
    → first_that_holds rules slots told ≡ Some rule → spends rule.guard ≡ true
first_waits [] slots told rule words is = absurd (cc)
first_waits (first ∷ rules) slots told rule words is =
    found_waits (holds slots told first.guard) first rule (first_that_holds rules slots told) (words 0 first (omega arith))
    (first_waits rules slots told rule (λ k d inside. words (suc k) d (omega (arith, inside)))) is

-- the transitions at a state, also where there is none
rules_at : (states : List ProgStateState) (at : ℕ) → All WaitsForWords states → (k : ℕ) (d : Rule) → k < length (get_or states at no_state).rules
    → spends (get_or (get_or states at no_state).rules k d).guard ≡ true
rules_at [] at words k d inside = absurd (omega (arith, inside))
rules_at (one ∷ states) zero words k d inside = words 0 one (omega arith) k d inside
rules_at (one ∷ states) (suc at) words k d inside = rules_at states at (λ i e below. words (suc i) e (omega (arith, below))) k d inside

-- ---- Shifts that are left

-- slots make no difference
left_same : (program : Option (List ProgStateState)) (at told : Option ℕ) (slots others : List Slot) → All WaitsForWords (states_of program)
    → shifts_left program at slots told ≡ shifts_left program at others told
left_same None at told slots others words = refl
left_same (Some states) None told slots others words = refl
left_same (Some states) (Some at) told slots others words =
    ap (λ (o : Option Rule). if is_some (option_map shifted_by o) then 1 else 0) (first_same (get_or states at no_state).rules slots others told (rules_at states at words))

-- at a state without a kept word there is none
left_none : (states : List ProgStateState) (at : ℕ) (slots : List Slot) → All WaitsForWords states → shifts_left (Some states) (Some at) slots None ≡ 0
left_none states at slots words =
    ap (λ (o : Option Rule). if is_some (option_map shifted_by o) then 1 else 0) (first_none (get_or states at no_state).rules slots (rules_at states at words))

one_most : (b : Bool) → (if b then 1 else 0) ≤ 1
one_most true = omega arith
one_most false = omega arith

-- at a state there is at most one
left_one : (states : List ProgStateState) (at : ℕ) (slots : List Slot) (told : Option ℕ) → shifts_left (Some states) (Some at) slots told ≤ 1
left_one states at slots told = one_most (is_some (enabled states (Some at) slots told))

-- a word that is told gives at most one more
told_more : (program : Option (List ProgStateState)) (at told : Option ℕ) (slots : List Slot) (word : ℕ) → shifts_left program at slots (Some word) ≤ shifts_left program at slots told + 1
told_more None at told slots word = omega arith
told_more (Some states) None told slots word = omega arith
told_more (Some states) (Some at) told slots word = omega (arith, left_one states at slots (Some word))

-- a Shift leaves fewer
after_begin : (states : List ProgStateState) (others : List Slot) (told : Option ℕ) → All WaitsForWords states → suc (shifts_left (Some states) (Some 0) others told) ≤ 1 + words_kept told
after_begin states others None words = omega (arith, left_none states 0 others words)
after_begin states others (Some word) words = omega (arith, left_one states 0 others (Some word))

spent : (told : Option ℕ) (b : Bool) → b ≡ true → kept_word told b ≡ None
spent told true is = refl
spent told false is = absurd (cc)

shift_less : (states : List ProgStateState) (at told : Option ℕ) (slots others : List Slot) (shift : Shifted) → All WaitsForWords states → enabled states at slots told ≡ Some shift
    → suc (shifts_left (Some states) (Some shift.target) others (kept_word told shift.spends)) ≤ shifts_left (Some states) at slots told
shift_less states None told slots others shift words is =
    let same : begins ≡ shift = cc in
    subst (λ (s : Shifted). suc (shifts_left (Some states) (Some s.target) others (kept_word told s.spends)) ≤ 1 + words_kept told) same (after_begin states others told words)
shift_less states (Some at) told slots others shift words is =
    let one = map_some shifted_by (first_that_holds (get_or states at no_state).rules slots told) shift is in
    let waits : spends one.0.guard ≡ true = first_waits (get_or states at no_state).rules slots told one.0 (rules_at states at words) one.1 in
    let gone : kept_word told shift.spends ≡ None = spent told shift.spends (ap (λ (s : Shifted). s.spends) (sym one.2) ∙ waits) in
    let after : shifts_left (Some states) (Some shift.target) others (kept_word told shift.spends) ≡ 0 =
    ap (λ (o : Option ℕ). shifts_left (Some states) (Some shift.target) others o) gone ∙ left_none states shift.target others words in
    let before : shifts_left (Some states) (Some at) slots told ≡ 1 = ap (λ (o : Option Shifted). if is_some o then 1 else 0) is in
    omega (arith, after, before)

-- the same for any program
shift_less_by : (program : Option (List ProgStateState)) (at told : Option ℕ) (slots others : List Slot) (shift : Shifted) → All WaitsForWords (states_of program)
    → option_and_then (λ states. enabled states at slots told) program ≡ Some shift
    → suc (shifts_left program (Some shift.target) others (kept_word told shift.spends)) ≤ shifts_left program at slots told
shift_less_by None at told slots others shift words is = absurd (cc)
shift_less_by (Some states) at told slots others shift words is = shift_less states at told slots others shift words is

-- ---- one event

-- the fields that are read
still_is : (box : BoxState) (program : Option (List ProgStateState)) (at told : Option ℕ) → box.program ≡ program → box.at ≡ at → box.told ≡ told
    → still_to_come box ≡ shifts_left program at box.slots told
still_is box program at told one two three =
    ap (λ (p : Option (List ProgStateState)). shifts_left p box.at box.slots box.told) one
    ∙ (ap (λ (a : Option ℕ). shifts_left program a box.slots box.told) two ∙ ap (λ (t : Option ℕ). shifts_left program at box.slots t) three)

still_same : (box after : BoxState) → GoesByWords box → after.program ≡ box.program → after.at ≡ box.at → after.told ≡ box.told → still_to_come after ≡ still_to_come box
still_same box after words one two three = still_is after box.program box.at box.told one two three ∙ left_same box.program box.at box.told after.slots box.slots words

abbrev one_if : Bool → ℕ
one_if b = if b then 1 else 0

stays_pay : (box : BoxState) (event : Event) (after : BoxState) → GoesByWords box → is_shift event ≡ false → Stays after box → one_if (is_shift event) + still_to_come after ≤ still_to_come box + one_if (is_tell event)
stays_pay box event after words none stays =
    let same = still_same box after words stays.program stays.at stays.told in
    let zero_shifts : one_if (is_shift event) ≡ 0 = ap one_if none in
    omega (arith, same, zero_shifts)

acts : (event : Event) (box : BoxState) (step : BoxStep) → GoesByWords box → event_step box event ≡ Some step
    → one_if (is_shift event) + still_to_come step.after ≤ still_to_come box + one_if (is_tell event)
acts (Take local) box step words goes = absurd (cc)
acts (Set change) box step words goes =
    let stays = set_stays box change step goes in
    let same = still_same box step.after words stays.program stays.at stays.told in
    omega (arith, same)
acts (Media change) box step words goes = stays_pay box (Media change) step.after words refl (media_stays change box step goes)
acts (Tell word) box step words goes =
    let stays = tell_stays box word step goes in
    let after = still_is step.after box.program box.at (Some word) stays.program stays.at stays.told in
    let slots = left_same box.program box.at (Some word) step.after.slots box.slots words in
    let more = told_more box.program box.at box.told box.slots word in
    omega (arith, after, slots, more)
acts (Retry local) box step words goes = stays_pay box (Retry local) step.after words refl (turn_stays box local _ step goes)
acts Shift box step words goes =
    let made = shift_made box step goes in
    let after = still_is step.after box.program (Some made.shift.target) (kept_word box.told made.shift.spends) made.stays.program made.stays.at made.stays.told in
    let less = shift_less_by box.program box.at box.told box.slots step.after.slots made.shift words made.goes in
    omega (arith, after, less)

event_pays : (box : BoxState) (event : Event) (signal : Option Signal) (step : BoxStep) → GoesByWords box → box_event box event signal ≡ Some step
    → one_if (is_shift event) + still_to_come step.after ≤ still_to_come box + one_if (is_tell event)
event_pays box event None step words goes = acts event box step words (event_goes event box step goes).1
event_pays box event (Some signal) step words goes =
    let one = taking_is event box signal step goes in
    subst (λ (e : Event). one_if (is_shift e) + still_to_come step.after ≤ still_to_come box + one_if (is_tell e)) (sym one.1)
    (stays_pay box (Take one.0) step.after words refl (take_stays box one.0 signal step one.3))

-- ---- one turn

-- a turn of this box counts by its event
counted_here : (b here : Bool) → here ≡ true → one_if (b && here) ≡ one_if b
counted_here true here is = rw is refl
counted_here false here is = refl

-- and another none
counted_else : (b here : Bool) → here ≡ false → one_if (b && here) ≡ 0
counted_else true here is = rw is refl
counted_else false here is = refl

turn_pays : (world next : WorldState) (turn : Turn) (who : ℕ) → GoesByWords (box_at world who) → Turned world next turn.who turn.event
    → one_if (is_shift_of who turn) + still_to_come (box_at next who) ≤ still_to_come (box_at world who) + one_if (is_tell_of who turn)
turn_pays world next turn who words turned = elim (cases_eq turn.who who) [
  | inl same ↦
      let test : (turn.who == who) ≡ true = eq-eqb turn.who who same in
      let shifts = counted_here (is_shift turn.event) (turn.who == who) test in
      let tells = counted_here (is_tell turn.event) (turn.who == who) test in
      let pays = event_pays (box_at world turn.who) turn.event turned.signal turned.step (subst (λ (w : ℕ). GoesByWords (box_at world w)) (sym same) words) turned.goes in
      let after : still_to_come (box_at next turn.who) ≡ still_to_come turned.step.after = ap still_to_come turned.after in
      let new : still_to_come (box_at next turn.who) ≡ still_to_come (box_at next who) = ap (λ (w : ℕ). still_to_come (box_at next w)) same in
      let old : still_to_come (box_at world turn.who) ≡ still_to_come (box_at world who) = ap (λ (w : ℕ). still_to_come (box_at world w)) same in
      omega (arith, shifts, tells, pays, after, new, old)
  | inr other ↦
      let test : (turn.who == who) ≡ false = ne_eqb turn.who who other in
      let shifts = counted_else (is_shift turn.event) (turn.who == who) test in
      let stays : still_to_come (box_at next who) ≡ still_to_come (box_at world who) = ap still_to_come (turned.stepped.boxes who (λ is. other (sym is))) in
      omega (arith, shifts, stays)
]

-- ---- runs

-- programs stay
words_stay : (new old : WorldState) (who : ℕ) → HasShape new old → GoesByWords (box_at old who) → GoesByWords (box_at new who)
words_stay new old who shape words = subst (λ (p : Option (List ProgStateState)). All WaitsForWords (states_of p)) (sym (shape.alike who).program) words

pub run_keeps_words : RunKeepsWords
run_keeps_words world last turns sound words goes who = words_stay last world who (run_keeps_shape world last turns sound goes) (words who)

run_pays : (turns : List Turn) (world last : WorldState) (who : ℕ) → IsSound world → GoesByWords (box_at world who) → run world turns ≡ Some last
    → count_by (is_shift_of who) turns + still_to_come (box_at last who) ≤ still_to_come (box_at world who) + count_by (is_tell_of who) turns
run_pays [] world last who sound words goes =
    let same : world ≡ last = cc in
    let stays : still_to_come (box_at last who) ≡ still_to_come (box_at world who) = ap (λ (w : WorldState). still_to_come (box_at w who)) (sym same) in
    omega (arith, stays)
run_pays (turn ∷ turns) world last who sound words goes =
    let one = then_some (λ (w : WorldState). run w turns) (step world turn) last goes in
    let first = turn_pays world one.0 turn who words (step_turns world one.0 turn sound one.1) in
    let rest = run_pays turns one.0 last who (step_keeps_sound world one.0 turn sound one.1) (words_stay one.0 world who (step_keeps_shape world one.0 turn sound one.1) words) one.2 in
    let shifts = sum_by-cons (λ (t : Turn). cond (is_shift_of who t) 1 0) turn turns in
    let tells = sum_by-cons (λ (t : Turn). cond (is_tell_of who t) 1 0) turn turns in
    omega (arith, first, rest, shifts, tells)

pub words_bound_shifts : WordsBoundShifts
words_bound_shifts world last turns who sound words goes = run_pays turns world last who sound words goes

-- ---- what is still to come of a box

-- at least one where a Shift is enabled
some_left : (program : Option (List ProgStateState)) (at told : Option ℕ) (slots : List Slot) → is_some (option_and_then (λ states. enabled states at slots told) program) ≡ true
    → 1 ≤ shifts_left program at slots told
some_left None at told slots is = absurd (cc)
some_left (Some states) None told slots is = omega arith
some_left (Some states) (Some at) told slots is = let all : shifts_left (Some states) (Some at) slots told ≡ 1 = ap one_if is in omega (arith, all)

pub shift_to_come : (box : BoxState) → is_enabled box Shift ≡ true → 1 ≤ still_to_come box
shift_to_come box is = some_left box.program box.at box.told box.slots is

-- never more than two
two_left : (program : Option (List ProgStateState)) (at told : Option ℕ) (slots : List Slot) → shifts_left program at slots told ≤ 2
two_left None at told slots = omega arith
two_left (Some states) None None slots = omega arith
two_left (Some states) None (Some word) slots = omega arith
two_left (Some states) (Some at) told slots = omega (arith, left_one states at slots told)

pub two_to_come : (box : BoxState) → still_to_come box ≤ 2
two_to_come box = two_left box.program box.at box.told box.slots

-- at most one where no word is kept
few_left : (program : Option (List ProgStateState)) (at told : Option ℕ) (slots : List Slot) → told ≡ None → shifts_left program at slots told ≤ 1
few_left None at told slots none = omega arith
few_left (Some states) None None slots none = omega arith
few_left (Some states) None (Some word) slots none = absurd (cc)
few_left (Some states) (Some at) told slots none = left_one states at slots told

pub untold_to_come : (box : BoxState) → box.told ≡ None → still_to_come box ≤ 1
untold_to_come box none = few_left box.program box.at box.told box.slots none

-- and none where no Shift is enabled
none_left : (program : Option (List ProgStateState)) (at told : Option ℕ) (slots : List Slot) → is_some (option_and_then (λ states. enabled states at slots told) program) ≡ false
    → shifts_left program at slots told ≡ 0
none_left None at told slots is = refl
none_left (Some states) None told slots is = absurd (cc)
none_left (Some states) (Some at) told slots is = ap one_if is

pub rested_to_come : (box : BoxState) → is_enabled box Shift ≡ false → still_to_come box ≡ 0
rested_to_come box is = none_left box.program box.at box.told box.slots is

neither : (a b : Bool) → (a || b) ≡ false → (a ≡ false) × (b ≡ false)
neither true b is = absurd (cc)
neither false b is = (refl, is)

none_shift : (boxes : List BoxState) (who : ℕ) → list_any (λ box. is_enabled box Shift) boxes ≡ false → is_enabled (get_or boxes who no_box) Shift ≡ false
none_shift [] who none = refl
none_shift (box ∷ boxes) zero none = (neither (is_enabled box Shift) (list_any (λ (b : BoxState). is_enabled b Shift) boxes) none).0
none_shift (box ∷ boxes) (suc who) none = none_shift boxes who (neither (is_enabled box Shift) (list_any (λ (b : BoxState). is_enabled b Shift) boxes) none).1

not_true : (b : Bool) → not b ≡ true → b ≡ false
not_true true is = absurd (cc)
not_true false is = refl

pub rest_awaits_words : RestAwaitsWords
rest_awaits_words world who rest =
    let parts = and_parts (is_quiet world) (not (can_shift world)) rest in
    rested_to_come (box_at world who) (none_shift world.boxes who (not_true (can_shift world) parts.1))
