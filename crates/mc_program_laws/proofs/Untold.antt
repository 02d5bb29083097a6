-- Boxes that are told nothing: those without programs follow their commands, and a program stays where it awaits a word, or begins at its first state.
use Rattle.std.proofs.Common.{◌≡◌, ◌≢◌, ◌⊎◌, ◌==◌, ◌&&◌, ℕ, Bool, true, false, is_some, if◌then◌else◌, inl, inr, List, [], ◌∷◌, Option, Some, None, IsTrue, refl, ap, sym, ◌∙◌, subst, arith}
use Rattle.std.proofs.lemmas.Bool.{cases_eq, eq-eqb, ne_eqb}
use Rattle.mc_rule.specs.Programs.{ProgStateState, begins, enabled}
use Rattle.mc_rule.specs.declared.Shifted.{Shifted}
use Rattle.mc_signal.specs.declared.Signal.{Signal}
use Rattle.mc_box.specs.BoxEvents.{BoxStep, box_event, enabled_shift, is_command, is_shift}
use Rattle.mc_box.specs.Boxes.{BoxState}
use Rattle.mc_box.specs.declared.event.Event.{Event}
use Rattle.mc_box.specs.declared.event.Event.TheVariants.{Take, Set, Media, Tell, Retry, Shift}
use Rattle.mc_box.specs.declared.event.Turn.{Turn}
use Rattle.mc_box.proofs.Options.{then_some}
use Rattle.mc_model.specs.Settles.{commands_of, rests}
use Rattle.mc_model.specs.Sound.{IsSound}
use Rattle.mc_model.specs.Steps.{run, step}
use Rattle.mc_model.specs.Worlds.{WorldState, box_at, place}
use Rattle.mc_laws.proofs.ShapesKept.{step_keeps_shape}
use Rattle.mc_laws.proofs.StepActs.{Turned, step_turns}
use Rattle.mc_laws.proofs.StepKeeps.{step_keeps_sound}
use Rattle.mc_laws.proofs.Words.{rest_awaits_words, shift_to_come}
use Rattle.mc_settings.specs.Settings.{Settings, set_by, set_by_all, settings_of}
use Rattle.mc_settings.proofs.BoxSettings.{event_sets}
use Rattle.mc_settings.proofs.CommandedWorlds.{more_commands, set_if}
use Rattle.mc_program_laws.specs.Told.{AwaitsWord, BeginsAtFirst, ProgramStands, UnprogrammedFollows, UntoldStays, settings_in}
use Rattle.mc_program_laws.proofs.BoxWords.{no_program_shifts, no_shift, shift_is, shift_stands, untold_stands}

-- ---- commands among turns

none_by : (command mine : Bool) (turn : Turn) (rest : List Turn) → (if command && mine then turn ∷ rest else rest) ≡ [] → ((command && mine) ≡ false) × (rest ≡ [])
none_by true true turn rest is = absurd (cc)
none_by true false turn rest is = (refl, is)
none_by false mine turn rest is = (refl, is)

-- where a box has no command, the first turn is none of it
pub commands_none : (who : ℕ) (turn : Turn) (turns : List Turn) → commands_of who (turn ∷ turns) ≡ [] → ((is_command turn.event && turn.who == who) ≡ false) × (commands_of who turns ≡ [])
commands_none who turn turns is = none_by (is_command turn.event) (turn.who == who) turn (commands_of who turns) is

-- a turn of the box is no command then
pub no_command : (command : Bool) (turn_who who : ℕ) → (command && turn_who == who) ≡ false → turn_who ≡ who → command ≡ false
no_command true turn_who who none same = let here : (turn_who == who) ≡ true = eq-eqb turn_who who same in absurd (cc)
no_command false turn_who who none same = refl

-- ---- boxes without programs

no_shift_by : (event : Event) (box : BoxState) (signal : Option Signal) (step : BoxStep) → box.program ≡ None → box_event box event signal ≡ Some step → is_shift event ≡ false
no_shift_by (Take local) box signal step none goes = refl
no_shift_by (Set change) box signal step none goes = refl
no_shift_by (Media change) box signal step none goes = refl
no_shift_by (Tell word) box signal step none goes = refl
no_shift_by (Retry local) box signal step none goes = refl
no_shift_by Shift box signal step none goes = absurd (no_program_shifts box signal step none goes)

-- a turn sets what its event says, at its box alone
turn_follows : (world next : WorldState) (turn : Turn) (who : ℕ) → (box_at world who).program ≡ None → Turned world next turn.who turn.event
    → settings_of (box_at next who) ≡ set_if (turn.who == who) turn.event (settings_of (box_at world who))
turn_follows world next turn who none turned = elim (cases_eq who turn.who) [
  | inl same ↦
      let test : (turn.who == who) ≡ true = eq-eqb turn.who who (sym same) in
      let unshifted = no_shift_by turn.event (box_at world turn.who) turned.signal turned.step (subst (λ (w : ℕ). (box_at world w).program ≡ None) same none) turned.goes in
      ap (λ (w : ℕ). settings_of (box_at next w)) same
      ∙ (ap settings_of turned.after
      ∙ (event_sets (box_at world turn.who) turn.event turned.signal turned.step unshifted turned.goes
      ∙ (ap (λ (w : ℕ). set_by turn.event (settings_of (box_at world w))) (sym same)
      ∙ ap (λ (b : Bool). set_if b turn.event (settings_of (box_at world who))) (sym test))))
  | inr other ↦
      let test : (turn.who == who) ≡ false = ne_eqb turn.who who (λ same. other (sym same)) in
      ap settings_of (turned.stepped.boxes who other) ∙ ap (λ (b : Bool). set_if b turn.event (settings_of (box_at world who))) (sym test)
]

run_follows : (turns : List Turn) (world last : WorldState) (who : ℕ) → IsSound world → (box_at world who).program ≡ None → run world turns ≡ Some last
    → settings_of (box_at last who) ≡ set_by_all (commands_of who turns) (settings_of (box_at world who))
run_follows [] world last who sound none goes = let same : world ≡ last = cc in ap (λ (w : WorldState). settings_of (box_at w who)) (sym same)
run_follows (turn ∷ turns) world last who sound none goes =
    let one = then_some (λ (w : WorldState). run w turns) (step world turn) last goes in
    run_follows turns one.0 last who (step_keeps_sound world one.0 turn sound one.1) (((step_keeps_shape world one.0 turn sound one.1).alike who).program ∙ none) one.2
    ∙ (ap (set_by_all (commands_of who turns)) (turn_follows world one.0 turn who none (step_turns world one.0 turn sound one.1))
    ∙ sym (more_commands who turn turns (settings_of (box_at world who))))

pub unprogrammed_follows : UnprogrammedFollows
unprogrammed_follows world last turns who sound none goes = run_follows turns world last who sound none goes

-- ---- a box without commands

-- a turn leaves where the program of a box stands, unless it is the box's Shift
untold_turn : (world next : WorldState) (turn : Turn) (who : ℕ) (states : List ProgStateState) (place word : Option ℕ) (settings : Settings)
    → (is_command turn.event && turn.who == who) ≡ false → ProgramStands (box_at world who) states place word settings → (turned : Turned world next turn.who turn.event)
    → (turn.who ≡ who → turn.event ≡ Shift → ProgramStands turned.step.after states place word settings) → ProgramStands (box_at next who) states place word settings
untold_turn world next turn who states place word settings none stands turned shifts = elim (cases_eq turn.who who) [
  | inl same ↦
      let here : ProgramStands (box_at world turn.who) states place word settings = subst (λ (w : ℕ). ProgramStands (box_at world w) states place word settings) (sym same) stands in
      let after = untold_stands turn.event (box_at world turn.who) turned.signal turned.step states place word settings (no_command (is_command turn.event) turn.who who none same) here
      (shifts same) turned.goes in
      subst (λ (w : ℕ). ProgramStands (box_at next w) states place word settings) same
      (subst (λ (b : BoxState). ProgramStands b states place word settings) (sym turned.after) after)
  | inr other ↦ subst (λ (b : BoxState). ProgramStands b states place word settings) (sym (turned.stepped.boxes who (λ is. other (sym is)))) stands
]

-- at a state that awaits a word there is no Shift of the box
pub no_shift_here : (world next : WorldState) (turn : Turn) (who at : ℕ) (states : List ProgStateState) (settings : Settings) → AwaitsWord states at
    → ProgramStands (box_at world who) states (Some at) None settings → Turned world next turn.who turn.event → turn.who ≡ who → turn.event ≡ Shift → ⊥
no_shift_here world next turn who at states settings awaits stands turned same is =
    no_shift (box_at world turn.who) turned.signal turned.step states at settings awaits
    (subst (λ (w : ℕ). ProgramStands (box_at world w) states (Some at) None settings) (sym same) stands)
    (subst (λ (e : Event). box_event (box_at world turn.who) e turned.signal ≡ Some turned.step) is turned.goes)

pub untold_next : (world next : WorldState) (turn : Turn) (who at : ℕ) (states : List ProgStateState) (settings : Settings) → AwaitsWord states at
    → ProgramStands (box_at world who) states (Some at) None settings → (is_command turn.event && turn.who == who) ≡ false → Turned world next turn.who turn.event
    → ProgramStands (box_at next who) states (Some at) None settings
untold_next world next turn who at states settings awaits stands none turned =
    untold_turn world next turn who states (Some at) None settings none stands turned (λ same is. absurd (no_shift_here world next turn who at states settings awaits stands turned same is))

pub untold_run : (turns : List Turn) (world last : WorldState) (who at : ℕ) (states : List ProgStateState) (settings : Settings) → IsSound world → AwaitsWord states at
    → ProgramStands (box_at world who) states (Some at) None settings → commands_of who turns ≡ [] → run world turns ≡ Some last
    → ProgramStands (box_at last who) states (Some at) None settings
untold_run [] world last who at states settings sound awaits stands none goes =
    let same : world ≡ last = cc in subst (λ (w : WorldState). ProgramStands (box_at w who) states (Some at) None settings) same stands
untold_run (turn ∷ turns) world last who at states settings sound awaits stands none goes =
    let parts = commands_none who turn turns none in
    let one = then_some (λ (w : WorldState). run w turns) (step world turn) last goes in
    let turned = step_turns world one.0 turn sound one.1 in
    untold_run turns one.0 last who at states settings (step_keeps_sound world one.0 turn sound one.1) awaits
    (untold_next world one.0 turn who at states settings awaits stands parts.0 turned) parts.1 one.2

pub untold_stays : UntoldStays
untold_stays world last turns who at states settings sound awaits stands none goes = untold_run turns world last who at states settings sound awaits stands none goes

-- ---- the first state

shift_or_not : (event : Event) → (event ≡ Shift) ⊎ (event ≢ Shift)
shift_or_not (Take local) = inr (λ is. absurd (cc))
shift_or_not (Set change) = inr (λ is. absurd (cc))
shift_or_not (Media change) = inr (λ is. absurd (cc))
shift_or_not (Tell word) = inr (λ is. absurd (cc))
shift_or_not (Retry local) = inr (λ is. absurd (cc))
shift_or_not Shift = inl refl

-- the box after its Shift
pub shifted_here : (world next : WorldState) (turn : Turn) (who : ℕ) (states : List ProgStateState) (place word : Option ℕ) (settings : Settings) (shift : Shifted) (left : Option ℕ)
    → ProgramStands (box_at world who) states place word settings → enabled states place (box_at world who).slots word ≡ Some shift → Turned world next turn.who turn.event → turn.who ≡ who
    → turn.event ≡ Shift → (if shift.spends then None else word) ≡ left → ProgramStands (box_at next who) states (Some shift.target) left (settings_in states settings.media shift.target)
shifted_here world next turn who states place word settings shift left stands leads turned same is kept =
    let here : ProgramStands (box_at world turn.who) states place word settings = subst (λ (w : ℕ). ProgramStands (box_at world w) states place word settings) (sym same) stands in
    let leads_here : enabled states place (box_at world turn.who).slots word ≡ Some shift = subst (λ (w : ℕ). enabled states place (box_at world w).slots word ≡ Some shift) (sym same) leads in
    let goes : box_event (box_at world turn.who) Shift turned.signal ≡ Some turned.step = subst (λ (e : Event). box_event (box_at world turn.who) e turned.signal ≡ Some turned.step) is turned.goes in
    let after = shift_stands (box_at world turn.who) turned.signal turned.step shift states place word settings here leads_here goes in
    subst (λ (w : ℕ). ProgramStands (box_at next w) states (Some shift.target) left (settings_in states settings.media shift.target)) same
    (subst (λ (b : BoxState). ProgramStands b states (Some shift.target) left (settings_in states settings.media shift.target)) (sym turned.after)
    (subst (λ (o : Option ℕ). ProgramStands turned.step.after states (Some shift.target) o (settings_in states settings.media shift.target)) kept after))

-- a box whose program is at no state is so still, or at the first state
abbrev Begun : BoxState → List ProgStateState → Settings → Type 0
Begun box states settings = ProgramStands box states None None settings ⊎ ProgramStands box states (Some 0) None (settings_in states settings.media 0)

begun_run : (turns : List Turn) (world last : WorldState) (who : ℕ) (states : List ProgStateState) (settings : Settings) → IsSound world → AwaitsWord states 0
    → ProgramStands (box_at world who) states None None settings → commands_of who turns ≡ [] → run world turns ≡ Some last → Begun (box_at last who) states settings
begun_run [] world last who states settings sound awaits stands none goes =
    let same : world ≡ last = cc in inl (subst (λ (w : WorldState). ProgramStands (box_at w who) states None None settings) same stands)
begun_run (turn ∷ turns) world last who states settings sound awaits stands none goes =
    let parts = commands_none who turn turns none in
    let one = then_some (λ (w : WorldState). run w turns) (step world turn) last goes in
    let turned = step_turns world one.0 turn sound one.1 in
    let next_sound = step_keeps_sound world one.0 turn sound one.1 in
    elim (cases_eq turn.who who) [
      | inl same ↦ elim (shift_or_not turn.event) [
        | inl is ↦
            inr (untold_run turns one.0 last who 0 states (settings_in states settings.media 0) next_sound awaits
            (shifted_here world one.0 turn who states None None settings begins None stands refl turned same is refl) parts.1 one.2)
        | inr other ↦
            begun_run turns one.0 last who states settings next_sound awaits
            (untold_turn world one.0 turn who states None None settings parts.0 stands turned (λ here is. absurd (other is))) parts.1 one.2
      ]
      | inr other ↦
          begun_run turns one.0 last who states settings next_sound awaits
          (untold_turn world one.0 turn who states None None settings parts.0 stands turned (λ here is. absurd (other here))) parts.1 one.2
    ]

-- in a world that rests no transition is enabled
pub rest_shifts_none : (world : WorldState) (who : ℕ) (shift : Shifted) → IsTrue (rests world) → enabled_shift (box_at world who) ≡ Some shift → ⊥
rest_shifts_none world who shift rest is =
    let more = shift_to_come (box_at world who) (ap (λ (o : Option Shifted). is_some o) is) in
    let none = rest_awaits_words world who rest in
    absurd (omega (arith, more, none))

begun_at_rest : (world : WorldState) (who : ℕ) (states : List ProgStateState) (settings : Settings) → IsTrue (rests world) → Begun (box_at world who) states settings
    → ProgramStands (box_at world who) states (Some 0) None (settings_in states settings.media 0)
begun_at_rest world who states settings rest (inl stands) = absurd (rest_shifts_none world who begins rest (shift_is (box_at world who) states None None settings stands))
begun_at_rest world who states settings rest (inr stands) = stands

pub begins_at_first : BeginsAtFirst
begins_at_first world last batch turns who states settings sound awaits stands none settled =
    begun_at_rest last who states settings settled.at_rest
    (begun_run turns world last who states settings sound awaits stands (settled.commands who ∙ none) settled.runs)
