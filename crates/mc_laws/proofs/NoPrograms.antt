-- A world without programs rests where nothing is under way. Its runs have no Shift, and leave it without programs.
use Rattle.std.proofs.Common.{◌≡◌, ◌||◌, ℕ, suc, Bool, true, false, Option, Some, None, List, [], ◌∷◌, refl, ◌∙◌, arith}
use Rattle.std.specs.List.{list_any}
use Rattle.std.proofs.Math.ListN.{get_or}
use Rattle.mc_signal.specs.declared.Signal.{Signal}
use Rattle.mc_box.specs.BoxEvents.{BoxStep, box_event, is_enabled, is_shift}
use Rattle.mc_box.specs.Boxes.{BoxState, no_box}
use Rattle.mc_box.specs.declared.event.Event.{Event}
use Rattle.mc_box.specs.declared.event.Event.TheVariants.{Take, Set, Media, Tell, Retry, Shift}
use Rattle.mc_box.specs.declared.event.Turn.{Turn}
use Rattle.mc_box.proofs.EventGoes.{event_was_enabled}
use Rattle.mc_box.proofs.Options.{then_some}
use Rattle.mc_model.specs.Shapes.{HasShape}
use Rattle.mc_model.specs.Sound.{IsSound}
use Rattle.mc_model.specs.Steps.{run, step}
use Rattle.mc_model.specs.Unprogrammed.{HasNoPrograms, QuietRests, RunMakesNoShift}
use Rattle.mc_model.specs.Worlds.{WorldState, box_at}
use Rattle.mc_laws.proofs.ShapesKept.{step_keeps_shape}
use Rattle.mc_laws.proofs.StepActs.{step_turns}
use Rattle.mc_laws.proofs.StepKeeps.{step_keeps_sound}

-- a box without a program has no Shift
none_shifts : (box : BoxState) → box.program ≡ None → is_enabled box Shift ≡ false
none_shifts box none = rw none refl

both_false : (a b : Bool) → a ≡ false → b ≡ false → a || b ≡ false
both_false a b one two = rw (one, two) refl

no_shifts : (boxes : List BoxState) → ((who : ℕ) → (get_or boxes who no_box).program ≡ None) → list_any (λ box. is_enabled box Shift) boxes ≡ false
no_shifts [] none = refl
no_shifts (box ∷ boxes) none =
    both_false (is_enabled box Shift) (list_any (λ (b : BoxState). is_enabled b Shift) boxes) (none_shifts box (none 0)) (no_shifts boxes (λ who. none (suc who)))

pub quiet_rests : QuietRests
quiet_rests world none = rw (no_shifts world.boxes none) (grind arith)

-- ---- runs

-- programs stay, and so does that there are none
pub still_none : (new old : WorldState) → HasShape new old → HasNoPrograms old → HasNoPrograms new
still_none new old shape none who = (shape.alike who).program ∙ none who

no_shift_by : (event : Event) (box : BoxState) (signal : Option Signal) (step : BoxStep) → box.program ≡ None → box_event box event signal ≡ Some step → is_shift event ≡ false
no_shift_by (Take local) box signal step none goes = refl
no_shift_by (Set change) box signal step none goes = refl
no_shift_by (Media change) box signal step none goes = refl
no_shift_by (Tell word) box signal step none goes = refl
no_shift_by (Retry local) box signal step none goes = refl
no_shift_by Shift box None step none goes =
    let enabled : is_enabled box Shift ≡ true = event_was_enabled box Shift step goes in
    let disabled : is_enabled box Shift ≡ false = none_shifts box none in
    absurd (cc)
no_shift_by Shift box (Some signal) step none goes = absurd (cc)

run_by : (turns : List Turn) (world last : WorldState) → IsSound world → HasNoPrograms world → run world turns ≡ Some last → list_any (λ turn. is_shift turn.event) turns ≡ false
run_by [] world last sound none goes = refl
run_by (turn ∷ turns) world last sound none goes =
    let one = then_some (λ (w : WorldState). run w turns) (step world turn) last goes in
    let turned = step_turns world one.0 turn sound one.1 in
    let first = no_shift_by turn.event (box_at world turn.who) turned.signal turned.step (none turn.who) turned.goes in
    let rest = run_by turns one.0 last (step_keeps_sound world one.0 turn sound one.1) (still_none one.0 world (step_keeps_shape world one.0 turn sound one.1) none) one.2 in
    both_false (is_shift turn.event) (list_any (λ (t : Turn). is_shift t.event) turns) first rest

pub run_makes_no_shift : RunMakesNoShift
run_makes_no_shift world last turns sound none goes = run_by turns world last sound none goes
