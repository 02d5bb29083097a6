-- The segment of one Tell: the Shift that the word is for comes first, and then Takes and Retries alone.
use Rattle.std.proofs.Common.{◌≡◌, ◌≢◌, ◌<◌, ◌⊎◌, ◌==◌, ◌&&◌, ℕ, Bool, true, false, if◌then◌else◌, nat_lt, inl, inr, List, [], ◌∷◌, length, Option, Some, None, IsTrue, refl, ap, sym, ◌∙◌, subst, arith}
use Rattle.std.specs.List.{list_all}
use Rattle.std.proofs.Math.ListN.{get_or}
use Rattle.std.proofs.lemmas.Bool.{and_parts, cases_eq, eq-eqb}
use Rattle.mc_signal.specs.declared.Tagged.{Tagged}
use Rattle.mc_rule.specs.Programs.{ProgStateState}
use Rattle.mc_rule.specs.declared.Shifted.{Shifted}
use Rattle.mc_signal.specs.declared.Signal.{Signal}
use Rattle.mc_slot.specs.declared.Slot.{Slot}
use Rattle.mc_slot.specs.declared.SlotGoal.{SlotGoal}
use Rattle.mc_slot.specs.declared.SlotGoal.TheVariants.{End}
use Rattle.mc_slot.specs.declared.Goal.TheVariants.{Close as ToClose}
use Rattle.mc_box.specs.BoxEvents.{BoxStep, box_event, enabled_shift, is_command, turn_of}
use Rattle.mc_box.specs.Boxes.{BoxState, box_owes, is_slot, no_box, no_slot, slot_owes}
use Rattle.mc_box.specs.declared.event.Event.{Event}
use Rattle.mc_box.specs.declared.event.Event.TheVariants.{Take, Set, Media, Tell, Retry, Shift}
use Rattle.mc_box.specs.declared.event.Turn.{Turn}
use Rattle.mc_box.proofs.Events.{event_goes}
use Rattle.mc_box.proofs.Options.{if_some, map_some, then_some}
use Rattle.mc_model.specs.Settles.{commands_of, is_quiet, rests, takes_or_retries}
use Rattle.mc_model.specs.Shapes.{HasShape, owes_by_number}
use Rattle.mc_model.specs.Sound.{IsSound}
use Rattle.mc_model.specs.Steps.{after_making, run, step, step_by, with_box}
use Rattle.mc_model.specs.Worlds.{ChannelState, WorldState, box_at, place, slot_count}
use Rattle.mc_laws.proofs.Reaches.{with_boxes}
use Rattle.mc_laws.proofs.Resting.{rests_quiet}
use Rattle.mc_laws.proofs.ShapesKept.{step_keeps_shape}
use Rattle.mc_laws.proofs.StepActs.{Turned, step_turns, take_happened}
use Rattle.mc_laws.proofs.StepKeeps.{step_keeps_sound}
use Rattle.mc_laws.proofs.TakeParts.{retry_is}
use Rattle.mc_laws.proofs.Words.{rest_awaits_words, shift_to_come}
use Rattle.mc_path_laws.proofs.QuietWalks.{list_none}
use Rattle.mc_settings.specs.Settings.{Settings}
use Rattle.mc_program_laws.specs.Told.{AwaitsWord, IsOnlyProgram, OwesNoRetry, ProgramStands, ToldWordLeads, settings_in}
use Rattle.mc_program_laws.proofs.BoxWords.{no_program_shifts, shift_is, tell_stands}
use Rattle.mc_program_laws.proofs.Untold.{commands_none, no_command, no_shift_here, rest_shifts_none, shifted_here, untold_next, untold_run}

-- ---- turns where nothing is under way and no retry is owed

no_take : (world next : WorldState) (who local : ℕ) → IsSound world → IsTrue (is_quiet world) → step world (record { who = who; event = Take local }) ≡ Some next → ⊥
no_take world next who local sound quiet goes =
    let took = take_happened world next who local sound goes in
    let some = took.1.fronts.next in
    let none = list_none world took.0 quiet in
    absurd (cc)

no_retry : (world next : WorldState) (who local : ℕ) → IsSound world → OwesNoRetry world → step world (record { who = who; event = Retry local }) ≡ Some next → ⊥
no_retry world next who local sound owes goes =
    let retried = retry_is world next who local sound goes in
    let at : ℕ × ℕ = place world retried.0 in
    let enabled_here = (event_goes (Retry at.1) (box_at world at.0) retried.2.happened.step retried.2.happened.goes).0 in
    let owed = (and_parts (is_slot (box_at world at.0) at.1) (box_owes (box_at world at.0) at.1) enabled_here).1 in
    let none = owes retried.0 retried.2.inside in
    absurd (cc)

-- such a turn is a command or a Shift
calm_turn : (event : Event) (world next : WorldState) (who : ℕ) → IsSound world → IsTrue (is_quiet world) → OwesNoRetry world → step world (record { who = who; event = event }) ≡ Some next
    → (is_command event ≡ true) ⊎ (event ≡ Shift)
calm_turn (Take local) world next who sound quiet owes goes = absurd (no_take world next who local sound quiet goes)
calm_turn (Set change) world next who sound quiet owes goes = inl refl
calm_turn (Media change) world next who sound quiet owes goes = inl refl
calm_turn (Tell word) world next who sound quiet owes goes = inl refl
calm_turn (Retry local) world next who sound quiet owes goes = absurd (no_retry world next who local sound owes goes)
calm_turn Shift world next who sound quiet owes goes = inr refl

-- ---- the Tell

-- a turn comes first, and after it there are no commands
record ComesFirst (world : WorldState) (first : Turn) (turns : List Turn) (last : WorldState) : Type 0 where
  later : List Turn
  next : WorldState
  are : turns ≡ first ∷ later
  goes : step world first ≡ Some next
  goes_on : run next later ≡ Some last
  none : (k : ℕ) → commands_of k later ≡ []

same_first : (here : Bool) (turn tell : Turn) (rest : List Turn) → turn ∷ rest ≡ (if here then tell ∷ [] else []) → turn ≡ tell
same_first true turn tell rest is = cc
same_first false turn tell rest is = absurd (cc)

first_by : (command : Bool) (turn tell : Turn) (rest : List Turn) (here : Bool) → command ≡ true → (if command then turn ∷ rest else rest) ≡ (if here then tell ∷ [] else []) → turn ≡ tell
first_by true turn tell rest here is same = same_first here turn tell rest same
first_by false turn tell rest here is same = absurd (cc)

rest_none : (here : Bool) (tell : Turn) (rest : List Turn) → (if here then tell ∷ rest else rest) ≡ (if here then tell ∷ [] else []) → rest ≡ []
rest_none true tell rest is = cc
rest_none false tell rest is = is

no_tell : (here : Bool) (tell : Turn) → here ≡ true → [] ≡ (if here then tell ∷ [] else []) → ⊥
no_tell true tell is none = absurd (cc)
no_tell false tell is none = absurd (cc)

-- a command of a box is a command of that box
commands_itself : (turn : Turn) → is_command turn.event ≡ true → (is_command turn.event && turn.who == turn.who) ≡ true
commands_itself turn is = rw is (eq-eqb turn.who turn.who refl)

-- in a world that rests and owes no retry the Tell of the batch comes first
tell_first : (turns : List Turn) (world last : WorldState) (who word : ℕ) → IsSound world → IsTrue (rests world) → OwesNoRetry world
    → ((k : ℕ) → commands_of k turns ≡ commands_of k (turn_of who (Tell word) ∷ [])) → run world turns ≡ Some last → ComesFirst world (turn_of who (Tell word)) turns last
tell_first [] world last who word sound rest owes same goes = absurd (no_tell (who == who) (turn_of who (Tell word)) (eq-eqb who who refl) (same who))
tell_first (turn ∷ turns) world last who word sound rest owes same goes =
    let one = then_some (λ (w : WorldState). run w turns) (step world turn) last goes in
    let tell : Turn = turn_of who (Tell word) in
    elim (calm_turn turn.event world one.0 turn.who sound (rests_quiet world rest) owes one.1) [
      | inl commands ↦
          let is : turn ≡ tell = first_by (is_command turn.event && turn.who == turn.who) turn tell (commands_of turn.who turns) (who == turn.who) (commands_itself turn commands) (same turn.who) in
          record {
            later = turns;
            next = one.0;
            are = ap (λ (t : Turn). t ∷ turns) is;
            goes = subst (λ (t : Turn). step world t ≡ Some one.0) is one.1;
            goes_on = one.2;
            none = λ k. rest_none (who == k) tell (commands_of k turns) (ap (λ (t : Turn). commands_of k (t ∷ turns)) (sym is) ∙ same k);
          }
      | inr shifts ↦
          let turned = step_turns world one.0 turn sound one.1 in
          absurd (rest_no_shift world turn.who turned.signal turned.step rest
          (subst (λ (e : Event). box_event (box_at world turn.who) e turned.signal ≡ Some turned.step) shifts turned.goes))
    ]
  where
    rest_no_shift : (world : WorldState) (who : ℕ) (signal : Option Signal) (step : BoxStep) → IsTrue (rests world) → box_event (box_at world who) Shift signal ≡ Some step → ⊥
    rest_no_shift world who (Some signal) step rest goes = absurd (cc)
    rest_no_shift world who None step rest goes =
        let more = shift_to_come (box_at world who) (event_goes Shift (box_at world who) step goes).0 in
        let none = rest_awaits_words world who rest in
        absurd (omega (arith, more, none))

-- ---- the world that was told

-- one box keeps the word, and all else is as it was
told_is : (world next : WorldState) (who word : ℕ) → step world (turn_of who (Tell word)) ≡ Some next → next ≡ with_box world who (record (box_at world who) { told = Some word })
told_is world next who word goes =
    let one = if_some (nat_lt who (length world.boxes)) (step_by world who (Tell word)) next goes in
    let two = map_some (after_making world who) (box_event (box_at world who) (Tell word) None) next one.1 in
    let three = (event_goes (Tell word) (box_at world who) two.0 two.1).1 in
    let same : record { sent = []; after = record (box_at world who) { told = Some word } } ≡ two.0 = cc in
    sym two.2 ∙ ap (after_making world who) (sym same)

told_quiet : (world next : WorldState) (who word : ℕ) → step world (turn_of who (Tell word)) ≡ Some next → is_quiet next ≡ is_quiet world
told_quiet world next who word goes = ap is_quiet (told_is world next who word goes)

-- slots and goals
record SameSlots (box other : BoxState) : Type 0 where
  slots : box.slots ≡ other.slots
  goals : box.goals ≡ other.goals

same_slots : (box other : BoxState) → box ≡ other → SameSlots box other
same_slots box other is = record { slots = ap (λ (b : BoxState). b.slots) is; goals = ap (λ (b : BoxState). b.goals) is }

told_box : (box after : BoxState) (word : ℕ) (signal : Option Signal) (step : BoxStep) → box_event box (Tell word) signal ≡ Some step → after ≡ step.after → SameSlots after box
told_box box after word (Some signal) step goes is = absurd (cc)
told_box box after word None step goes is =
    let told = (event_goes (Tell word) box step goes).1 in
    let same : record { sent = []; after = record box { told = Some word } } ≡ step = cc in
    record {
      slots = ap (λ (b : BoxState). b.slots) is ∙ ap (λ (s : BoxStep). s.after.slots) (sym same);
      goals = ap (λ (b : BoxState). b.goals) is ∙ ap (λ (s : BoxStep). s.after.goals) (sym same);
    }

told_boxes : (world next : WorldState) (who word : ℕ) → Turned world next who (Tell word) → (k : ℕ) → SameSlots (box_at next k) (box_at world k)
told_boxes world next who word turned k = elim (cases_eq k who) [
  | inl same ↦
      subst (λ (w : ℕ). SameSlots (box_at next w) (box_at world w)) (sym same)
      (told_box (box_at world who) (box_at next who) word turned.signal turned.step turned.goes turned.after)
  | inr other ↦ same_slots (box_at next k) (box_at world k) (turned.stepped.boxes k other)
]

owes_by : (world : WorldState) (boxes : List BoxState) (lanes : List (List Tagged)) (s : ℕ) → ((k : ℕ) → SameSlots (get_or boxes k no_box) (box_at world k))
    → owes_by_number (with_boxes world boxes lanes) s ≡ owes_by_number world s
owes_by world boxes lanes s same =
    let who : ℕ = (place world s).0 in
    let local : ℕ = (place world s).1 in
    ap (λ (goals : List SlotGoal). slot_owes (get_or goals local (End ToClose)) (get_or (get_or boxes who no_box).slots local no_slot)) (same who).goals
    ∙ ap (λ (slots : List Slot). slot_owes (get_or (box_at world who).goals local (End ToClose)) (get_or slots local no_slot)) (same who).slots

-- so the same retries are owed
same_owes : (world next : WorldState) → next.channels ≡ world.channels → ((k : ℕ) → SameSlots (box_at next k) (box_at world k)) → OwesNoRetry world → OwesNoRetry next
same_owes world next channels same owes s inside =
    let is : next ≡ with_boxes world next.boxes next.lanes = ap (λ (c : List ChannelState). record next { channels = c }) channels in
    ap (λ (w : WorldState). owes_by_number w s) is
    ∙ (owes_by world next.boxes next.lanes s same ∙ owes s (subst (λ (w : WorldState). s < slot_count w) is inside))

-- ---- the Shift

-- without commands, where only one box can shift, its Shift comes first, and must come before rest
shift_first : (turns : List Turn) (world last : WorldState) (who : ℕ) (shift : Shifted) → IsSound world → IsTrue (is_quiet world) → OwesNoRetry world → IsOnlyProgram world who
    → enabled_shift (box_at world who) ≡ Some shift → ((k : ℕ) → commands_of k turns ≡ []) → run world turns ≡ Some last → IsTrue (rests last) → ComesFirst world (turn_of who Shift) turns last
shift_first [] world last who shift sound quiet owes only leads none goes rest =
    let same : world ≡ last = cc in absurd (rest_shifts_none last who shift rest (subst (λ (w : WorldState). enabled_shift (box_at w who) ≡ Some shift) same leads))
shift_first (turn ∷ turns) world last who shift sound quiet owes only leads none goes rest =
    let one = then_some (λ (w : WorldState). run w turns) (step world turn) last goes in
    let turned = step_turns world one.0 turn sound one.1 in
    elim (calm_turn turn.event world one.0 turn.who sound quiet owes one.1) [
      | inl commands ↦
          let some = commands_itself turn commands in
          let not_here = (commands_none turn.who turn turns (none turn.who)).0 in
          absurd (cc)
      | inr shifts ↦ elim (cases_eq turn.who who) [
        | inl same ↦
            let is : turn ≡ turn_of who Shift = ap (λ (w : ℕ). turn_of w turn.event) same ∙ ap (turn_of who) shifts in
            record {
              later = turns;
              next = one.0;
              are = ap (λ (t : Turn). t ∷ turns) is;
              goes = subst (λ (t : Turn). step world t ≡ Some one.0) is one.1;
              goes_on = one.2;
              none = λ k. (commands_none k turn turns (none k)).1;
            }
        | inr other ↦
            absurd (no_program_shifts (box_at world turn.who) turned.signal turned.step (only turn.who other)
            (subst (λ (e : Event). box_event (box_at world turn.who) e turned.signal ≡ Some turned.step) shifts turned.goes))
      ]
    ]

-- ---- what is left

only_stays : (world next : WorldState) (who : ℕ) → HasShape next world → IsOnlyProgram world who → IsOnlyProgram next who
only_stays world next who shape only other apart = (shape.alike other).program ∙ only other apart

besides_of : (event : Event) → is_command event ≡ false → event ≢ Shift → takes_or_retries event ≡ true
besides_of (Take local) none other = refl
besides_of (Set change) none other = absurd (cc)
besides_of (Media change) none other = absurd (cc)
besides_of (Tell word) none other = absurd (cc)
besides_of (Retry local) none other = refl
besides_of Shift none other = absurd (other refl)

both_true : (a b : Bool) → a ≡ true → b ≡ true → (a && b) ≡ true
both_true a b one two = rw one two

-- without commands, where the only program awaits a word, there are Takes and Retries alone
rest_besides : (turns : List Turn) (world last : WorldState) (who at : ℕ) (states : List ProgStateState) (settings : Settings) → IsSound world → AwaitsWord states at
    → IsOnlyProgram world who → ProgramStands (box_at world who) states (Some at) None settings → ((k : ℕ) → commands_of k turns ≡ []) → run world turns ≡ Some last
    → list_all (λ (turn : Turn). takes_or_retries turn.event) turns ≡ true
rest_besides [] world last who at states settings sound awaits only stands none goes = refl
rest_besides (turn ∷ turns) world last who at states settings sound awaits only stands none goes =
    let one = then_some (λ (w : WorldState). run w turns) (step world turn) last goes in
    let turned = step_turns world one.0 turn sound one.1 in
    let uncommanded = no_command (is_command turn.event) turn.who turn.who (commands_none turn.who turn turns (none turn.who)).0 refl in
    let first = besides_of turn.event uncommanded (λ is. elim (cases_eq turn.who who) [
      | inl same ↦ no_shift_here world one.0 turn who at states settings awaits stands turned same is
      | inr other ↦
          no_program_shifts (box_at world turn.who) turned.signal turned.step (only turn.who other)
          (subst (λ (e : Event). box_event (box_at world turn.who) e turned.signal ≡ Some turned.step) is turned.goes)
    ]) in
    both_true (takes_or_retries turn.event) (list_all (λ (turn : Turn). takes_or_retries turn.event) turns) first
    (rest_besides turns one.0 last who at states settings (step_keeps_sound world one.0 turn sound one.1) awaits
    (only_stays world one.0 who (step_keeps_shape world one.0 turn sound one.1) only)
    (untold_next world one.0 turn who at states settings awaits stands (commands_none who turn turns (none who)).0 turned) (λ k. (commands_none k turn turns (none k)).1) one.2)

-- ---- the segment of one Tell

pub told_word_leads : ToldWordLeads
told_word_leads world last turns who word at target states settings sound rest owes only stands leads awaits settled =
    let first = tell_first turns world last who word sound rest owes settled.commands settled.runs in
    let told = step_turns world first.next (turn_of who (Tell word)) sound first.goes in
    let told_sound = step_keeps_sound world first.next (turn_of who (Tell word)) sound first.goes in
    let boxes = told_boxes world first.next who word told in
    let quiet : IsTrue (is_quiet first.next) = told_quiet world first.next who word first.goes ∙ rests_quiet world rest in
    let told_only = only_stays world first.next who (step_keeps_shape world first.next (turn_of who (Tell word)) sound first.goes) only in
    let told_stands : ProgramStands (box_at first.next who) states (Some at) (Some word) settings =
    subst (λ (b : BoxState). ProgramStands b states (Some at) (Some word) settings) (sym told.after)
    (tell_stands (box_at world who) word told.signal told.step states (Some at) None settings stands told.goes) in
    let shift : Shifted = record { target = target; spends = true } in
    let enabled_here = shift_is (box_at first.next who) states (Some at) (Some word) settings told_stands ∙ leads (box_at first.next who).slots in
    let second = shift_first first.later first.next last who shift told_sound quiet (same_owes world first.next told.stepped.channels boxes owes) told_only enabled_here first.none first.goes_on settled.at_rest in
    let shifted = step_turns first.next second.next (turn_of who Shift) told_sound second.goes in
    let shifted_sound = step_keeps_sound first.next second.next (turn_of who Shift) told_sound second.goes in
    let shifted_only = only_stays first.next second.next who (step_keeps_shape first.next second.next (turn_of who Shift) told_sound second.goes) told_only in
    let shifted_stands : ProgramStands (box_at second.next who) states (Some target) None (settings_in states settings.media target) =
    shifted_here first.next second.next (turn_of who Shift) who states (Some at) (Some word) settings shift None told_stands (leads (box_at first.next who).slots) shifted refl refl refl in (
      record {
        rest = second.later;
        are = first.are ∙ ap (λ (l : List Turn). turn_of who (Tell word) ∷ l) second.are;
        besides = rest_besides second.later second.next last who target states (settings_in states settings.media target) shifted_sound awaits shifted_only shifted_stands second.none second.goes_on;
      },
      untold_run second.later second.next last who target states (settings_in states settings.media target) shifted_sound awaits shifted_stands (second.none who) second.goes_on,
    )
