-- What the events of a box leave of where its program stands, and of its settings.
use Rattle.std.proofs.Common.{◌≡◌, ℕ, false, true, is_some, List, [], ◌∷◌, max, min, Option, Some, None, refl, ap, sym, ◌∙◌, subst}
use Rattle.std.specs.Option.{option_and_then, option_map}
use Rattle.mc_link.specs.LinkTurn.{closed_side}
use Rattle.mc_rule.specs.Programs.{ProgStateState, enabled}
use Rattle.mc_rule.specs.declared.Shifted.{Shifted}
use Rattle.mc_signal.specs.declared.Signal.{Signal}
use Rattle.mc_slot.specs.declared.Cause.{Cause}
use Rattle.mc_slot.specs.declared.Cause.TheVariants.{Push}
use Rattle.mc_slot.specs.declared.SlotGoal.{SlotGoal}
use Rattle.mc_slot.specs.declared.SlotGoal.TheVariants.{End, Link}
use Rattle.mc_box.specs.BoxEvents.{BoxStep, box_event, enabled_shift, goal_step, goal_step_by, goal_steps, is_command, is_enabled, kept_word, sends_first, shift_by, shift_goals, shift_step, side_of, with_shift}
use Rattle.mc_box.specs.Boxes.{BoxState, goals_in, states_of, with_goals}
use Rattle.mc_box.specs.Goals.{changed_slots}
use Rattle.mc_box.specs.declared.event.Event.{Event}
use Rattle.mc_box.specs.declared.event.Event.TheVariants.{Take, Set, Media, Tell, Retry, Shift}
use Rattle.mc_box.specs.declared.setup.SlotMedia.{SlotMedia}
use Rattle.mc_box.proofs.Events.{event_goes, taking_is}
use Rattle.mc_box.proofs.GoalTurns.{end_form, pair_form}
use Rattle.mc_box.proofs.Options.{map_some, then_some}
use Rattle.mc_laws.proofs.BoxStays.{Stays, shift_made, take_stays, tell_stays, turn_stays}
use Rattle.mc_settings.specs.Settings.{Settings, settings_of}
use Rattle.mc_settings.proofs.BoxSettings.{event_sets}
use Rattle.mc_program_laws.specs.Told.{AwaitsWord, ProgramStands, settings_in}

-- ---- media in turns of goals

turn_media_by : (goal : SlotGoal) (box : BoxState) (local : ℕ) (cause : Cause) (step : BoxStep) → goal_step_by goal box local cause ≡ Some step → step.after.media ≡ box.media
turn_media_by (End goal) box local cause step goes = ap (λ (s : BoxStep). s.after.media) (sym (end_form box local goal cause step goes).is)
turn_media_by (Link partner) box local cause step goes =
    ap (λ (s : BoxStep). s.after.media) (sym (pair_form box (min local partner) (max local partner) (closed_side cause (side_of local partner)) step goes).is)

turns_media : (locals : List ℕ) (box : BoxState) (step : BoxStep) → goal_steps box locals ≡ Some step → step.after.media ≡ box.media
turns_media [] box step goes = let same : record { sent = []; after = box } ≡ step = cc in ap (λ (s : BoxStep). s.after.media) (sym same)
turns_media (local ∷ locals) box step goes =
    let one = then_some (λ (turn : BoxStep). option_map (sends_first turn.sent) (goal_steps turn.after locals)) (goal_step box local Push) step goes in
    let two = map_some (sends_first one.0.sent) (goal_steps one.0.after locals) step one.2 in
    ap (λ (s : BoxStep). s.after.media) (sym two.2) ∙ (turns_media locals one.0.after two.0 two.1 ∙ turn_media_by _ box local Push one.0 one.1)

-- a Shift leaves the media
shift_media : (box : BoxState) (step : BoxStep) → shift_step box ≡ Some step → step.after.media ≡ box.media
shift_media box step goes =
    let one = then_some (shift_by box) (enabled_shift box) step goes in
    turns_media (changed_slots box.goals (shift_goals box one.0)) (with_goals (with_shift box one.0) (shift_goals box one.0)) step one.2

-- ---- where a program stands

-- the fields of settings
settings_parts : (box : BoxState) (goals : List SlotGoal) (media : List SlotMedia) → box.goals ≡ goals → box.media ≡ media → settings_of box ≡ record { goals = goals; media = media }
settings_parts box goals media one two =
    ap (λ (g : List SlotGoal). record { goals = g; media = box.media }) one ∙ ap (λ (m : List SlotMedia). record { goals = goals; media = m }) two

-- the enabled transition of a box that stands somewhere
pub shift_is : (box : BoxState) (states : List ProgStateState) (place word : Option ℕ) (settings : Settings) → ProgramStands box states place word settings
    → enabled_shift box ≡ enabled states place box.slots word
shift_is box states place word settings stands =
    ap (λ (p : Option (List ProgStateState)). option_and_then (λ states. enabled states box.at box.slots box.told) p) stands.program
    ∙ (ap (λ (a : Option ℕ). enabled states a box.slots box.told) stands.at ∙ ap (λ (t : Option ℕ). enabled states place box.slots t) stands.told)

-- what leaves all of that
stands_still : (new old : BoxState) (states : List ProgStateState) (place word : Option ℕ) (settings : Settings) → Stays new old → settings_of new ≡ settings_of old
    → ProgramStands old states place word settings → ProgramStands new states place word settings
stands_still new old states place word settings stays same stands =
    record { program = stays.program ∙ stands.program; at = stays.at ∙ stands.at; told = stays.told ∙ stands.told; set = same ∙ stands.set }

-- a Tell leaves the word
pub tell_stands : (box : BoxState) (told : ℕ) (signal : Option Signal) (step : BoxStep) (states : List ProgStateState) (place word : Option ℕ) (settings : Settings)
    → ProgramStands box states place word settings → box_event box (Tell told) signal ≡ Some step → ProgramStands step.after states place (Some told) settings
tell_stands box told (Some signal) step states place word settings stands goes = absurd (cc)
tell_stands box told None step states place word settings stands goes =
    let stays = tell_stays box told step (event_goes (Tell told) box step goes).1 in
    record {
      program = stays.program ∙ stands.program;
      at = stays.at ∙ stands.at;
      told = stays.told;
      set = event_sets box (Tell told) None step refl goes ∙ stands.set;
    }

-- a Shift leaves the state to which the enabled transition leads
pub shift_stands : (box : BoxState) (signal : Option Signal) (step : BoxStep) (shift : Shifted) (states : List ProgStateState) (place word : Option ℕ) (settings : Settings)
    → ProgramStands box states place word settings → enabled states place box.slots word ≡ Some shift → box_event box Shift signal ≡ Some step
    → ProgramStands step.after states (Some shift.target) (kept_word word shift.spends) (settings_in states settings.media shift.target)
shift_stands box (Some signal) step shift states place word settings stands leads goes = absurd (cc)
shift_stands box None step shift states place word settings stands leads goes =
    let happens = (event_goes Shift box step goes).1 in
    let made = shift_made box step happens in
    let found : Some made.shift ≡ Some shift = sym made.goes ∙ (shift_is box states place word settings stands ∙ leads) in
    let same : made.shift ≡ shift = cc in
    record {
      program = made.stays.program ∙ stands.program;
      at = made.stays.at ∙ ap (λ (s : Shifted). Some s.target) same;
      told = made.stays.told ∙ (ap (λ (s : Shifted). kept_word box.told s.spends) same ∙ ap (λ (t : Option ℕ). kept_word t shift.spends) stands.told);
      set = settings_parts step.after (goals_in states shift.target) settings.media
          (made.stays.goals ∙ (ap (λ (s : Shifted). goals_in (states_of box.program) s.target) same
          ∙ ap (λ (p : Option (List ProgStateState)). goals_in (states_of p) shift.target) stands.program))
          (shift_media box step happens ∙ ap (λ (s : Settings). s.media) stands.set);
    }

-- ---- events that are no commands

-- at a state that awaits a word there is no Shift
pub no_shift : (box : BoxState) (signal : Option Signal) (step : BoxStep) (states : List ProgStateState) (at : ℕ) (settings : Settings) → AwaitsWord states at
    → ProgramStands box states (Some at) None settings → box_event box Shift signal ≡ Some step → ⊥
no_shift box (Some signal) step states at settings awaits stands goes = absurd (cc)
no_shift box None step states at settings awaits stands goes =
    let enabled_here : is_enabled box Shift ≡ true = (event_goes Shift box step goes).0 in
    let none : enabled_shift box ≡ None = shift_is box states (Some at) None settings stands ∙ awaits box.slots in
    let not_here : is_enabled box Shift ≡ false = ap (λ (o : Option Shifted). is_some o) none in
    absurd (cc)

-- nor where there is no program
pub no_program_shifts : (box : BoxState) (signal : Option Signal) (step : BoxStep) → box.program ≡ None → box_event box Shift signal ≡ Some step → ⊥
no_program_shifts box (Some signal) step none goes = absurd (cc)
no_program_shifts box None step none goes =
    let enabled_here : is_enabled box Shift ≡ true = (event_goes Shift box step goes).0 in
    let not_here : is_enabled box Shift ≡ false = rw none refl in
    absurd (cc)

acts_untold : (event : Event) (box : BoxState) (step : BoxStep) (states : List ProgStateState) (place word : Option ℕ) (settings : Settings) → is_command event ≡ false
    → ProgramStands box states place word settings → (event ≡ Shift → ProgramStands step.after states place word settings) → box_event box event None ≡ Some step
    → ProgramStands step.after states place word settings
acts_untold (Take local) box step states place word settings other stands shifts goes =
    let none = (event_goes (Take local) box step goes).1 in absurd (cc)
acts_untold (Set change) box step states place word settings other stands shifts goes = absurd (cc)
acts_untold (Media change) box step states place word settings other stands shifts goes = absurd (cc)
acts_untold (Tell told) box step states place word settings other stands shifts goes = absurd (cc)
acts_untold (Retry local) box step states place word settings other stands shifts goes =
    stands_still step.after box states place word settings (turn_stays box local Push step (event_goes (Retry local) box step goes).1)
    (event_sets box (Retry local) None step refl goes) stands
acts_untold Shift box step states place word settings other stands shifts goes = shifts refl

-- what isn't a command, nor a Shift that leads on, leaves all of that
pub untold_stands : (event : Event) (box : BoxState) (signal : Option Signal) (step : BoxStep) (states : List ProgStateState) (place word : Option ℕ) (settings : Settings)
    → is_command event ≡ false → ProgramStands box states place word settings → (event ≡ Shift → ProgramStands step.after states place word settings) → box_event box event signal ≡ Some step
    → ProgramStands step.after states place word settings
untold_stands event box None step states place word settings other stands shifts goes = acts_untold event box step states place word settings other stands shifts goes
untold_stands event box (Some signal) step states place word settings other stands shifts goes =
    let one = taking_is event box signal step goes in
    let took : box_event box (Take one.0) (Some signal) ≡ Some step = subst (λ (e : Event). box_event box e (Some signal) ≡ Some step) one.1 goes in
    stands_still step.after box states place word settings (take_stays box one.0 signal step one.3) (event_sets box (Take one.0) (Some signal) step refl took) stands
