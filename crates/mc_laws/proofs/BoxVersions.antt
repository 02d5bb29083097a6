-- What an event of a box does to the versions of its slots.
use Rattle.std.proofs.Common.{◌≡◌, ◌≢◌, ◌==◌, ◌+◌, ◌<◌, ℕ, Bool, true, false, if◌then◌else◌, inl, inr, List, [], ◌∷◌, length, Option, Some, None, refl, ap, sym, ◌∙◌, subst, arith, max, min}
use Rattle.std.specs.Option.{option_map}
use Rattle.std.proofs.Math.ListN.{set}
use Rattle.std.proofs.lemmas.Bool.{and_parts, cases_eq, eq-eqb, ne_eqb}
use Rattle.std.proofs.lemmas.List.{get_or-set_same, get_or-set_other}
use Rattle.mc_signal.specs.declared.Signal.{Signal}
use Rattle.mc_slot.specs.EndTurn.{cause_of}
use Rattle.mc_slot.specs.Moves.{slot_take, Took}
use Rattle.mc_slot.specs.declared.Cause.{Cause}
use Rattle.mc_slot.specs.declared.Cause.TheVariants.{Other, Push}
use Rattle.mc_slot.specs.declared.SlotGoal.{SlotGoal}
use Rattle.mc_slot.specs.declared.SlotGoal.TheVariants.{End, Link}
use Rattle.mc_box.specs.BoxEvents.{BoxStep, box_event, enabled_shift, event_step, goal_step, goal_step_by, goal_steps, goals_step, is_enabled, sends_first, shift_by, shift_goals, shift_step, side_of, take_step, with_answer, with_shift, with_hearing, with_talking}
use Rattle.mc_box.specs.BoxShapes.{is_device}
use Rattle.mc_box.specs.Boxes.{BoxState, IsBox, goal_at, is_slot, media_at, no_media, slot_at, with_goals, with_media, with_slot}
use Rattle.mc_box.specs.Goals.{changed_slots, change_goals}
use Rattle.mc_box.specs.declared.event.Event.{Event}
use Rattle.mc_box.specs.declared.event.Event.TheVariants.{Take, Set, Media, Tell, Retry, Shift}
use Rattle.mc_box.specs.declared.event.MediaChange.TheVariants.{Hear, Talk}
use Rattle.mc_box.specs.declared.limit.TheConstants.{LAST_VERSION}
use Rattle.mc_box.specs.declared.setup.SlotMedia.{SlotMedia}
use Rattle.mc_box.proofs.Changes.{slot_inside}
use Rattle.mc_box.proofs.Events.{event_goes, taking_is}
use Rattle.mc_box.proofs.GoalTurns.{end_form, pair_form}
use Rattle.mc_box.proofs.Options.{else_some, map_some, then_some}
use Rattle.mc_link.specs.LinkTurn.{closed_side}
use Rattle.mc_model.specs.Settles.{is_hear_at}

-- ---- turns leave what descriptors are made of

turn_media_by : (goal : SlotGoal) (box : BoxState) (local : ℕ) (cause : Cause) (step : BoxStep) → goal_step_by goal box local cause ≡ Some step → step.after.media ≡ box.media
turn_media_by (End goal) box local cause step goes = ap (λ (s : BoxStep). s.after.media) (sym (end_form box local goal cause step goes).is)
turn_media_by (Link partner) box local cause step goes =
    ap (λ (s : BoxStep). s.after.media) (sym (pair_form box (min local partner) (max local partner) (closed_side cause (side_of local partner)) step goes).is)

turn_media : (box : BoxState) (local : ℕ) (cause : Cause) (step : BoxStep) → goal_step box local cause ≡ Some step → step.after.media ≡ box.media
turn_media box local cause step goes = turn_media_by (goal_at box local) box local cause step goes

turns_media : (locals : List ℕ) (box : BoxState) (step : BoxStep) → goal_steps box locals ≡ Some step → step.after.media ≡ box.media
turns_media [] box step goes = let same : record { sent = []; after = box } ≡ step = cc in ap (λ (s : BoxStep). s.after.media) (sym same)
turns_media (local ∷ locals) box step goes =
    let one = then_some (λ (turn : BoxStep). option_map (sends_first turn.sent) (goal_steps turn.after locals)) (goal_step box local Push) step goes in
    let two = map_some (sends_first one.0.sent) (goal_steps one.0.after locals) step one.2 in
    ap (λ (s : BoxStep). s.after.media) (sym two.2) ∙ (turns_media locals one.0.after two.0 two.1 ∙ turn_media box local Push one.0 one.1)

take_media : (box : BoxState) (local : ℕ) (signal : Signal) (step : BoxStep) → take_step box local signal ≡ Some step → step.after.media ≡ box.media
take_media box local signal step goes =
    let one = then_some (λ (took : Took). option_map (with_answer local took.answer)
    (goal_step (with_slot box local took.after) local (cause_of signal took.after.state))) (slot_take (slot_at box local) signal) step goes in
    let two = map_some (with_answer local one.0.answer) (goal_step (with_slot box local one.0.after) local (cause_of signal one.0.after.state)) step one.2 in
    ap (λ (s : BoxStep). s.after.media) (sym two.2) ∙ turn_media (with_slot box local one.0.after) local (cause_of signal one.0.after.state) two.0 two.1

-- goals that change, to any others
goals_media : (box : BoxState) (news : List SlotGoal) (step : BoxStep) → goals_step box news ≡ Some step → step.after.media ≡ box.media
goals_media box news step goes = turns_media (changed_slots box.goals news) (with_goals box news) step goes

shift_media : (box : BoxState) (step : BoxStep) → shift_step box ≡ Some step → step.after.media ≡ box.media
shift_media box step goes =
    let one = then_some (shift_by box) (enabled_shift box) step goes in
    goals_media (with_shift box one.0) (shift_goals box one.0) step one.2

-- ---- versions

-- how much an event adds to the version of a slot
abbrev pub added : ℕ → Event → ℕ
added local event = if is_hear_at local event then 1 else 0

-- media that stay add nothing
stays : (box : BoxState) (event : Event) (step : BoxStep) (k : ℕ) → is_hear_at k event ≡ false → step.after.media ≡ box.media
    → (media_at step.after k).version ≡ (media_at box k).version + added k event
stays box event step k none same =
    let here : (media_at step.after k).version ≡ (media_at box k).version = ap (λ (l : List SlotMedia). (media_at (record box { media = l }) k).version) same in
    rw none (omega arith)

-- the media of one slot are replaced
replaced : (box : BoxState) (event : Event) (local more : ℕ) (media : SlotMedia) (step : BoxStep) (k : ℕ) → local < length box.media → step.after.media ≡ set box.media local media
    → media.version ≡ (media_at box local).version + more → (k ≡ local → added k event ≡ more) → (k ≢ local → added k event ≡ 0)
    → (media_at step.after k).version ≡ (media_at box k).version + added k event
replaced box event local more media step k inside is newer here away =
    let same : (media_at step.after k).version ≡ (media_at (with_media box local media) k).version = ap (λ (l : List SlotMedia). (media_at (record box { media = l }) k).version) is in
    elim (cases_eq k local) [
      | inl at ↦
          let put : media_at (with_media box local media) local ≡ media = get_or-set_same box.media local media no_media inside in
          let there : (media_at (with_media box local media) k).version ≡ media.version = ap (λ (j : ℕ). (media_at (with_media box local media) j).version) at ∙ ap (λ (m : SlotMedia). m.version) put in
          let old : (media_at box local).version ≡ (media_at box k).version = ap (λ (j : ℕ). (media_at box j).version) (sym at) in
          let adds : added k event ≡ more = here at in
          omega arith
      | inr other ↦
          let there : (media_at (with_media box local media) k).version ≡ (media_at box k).version = ap (λ (m : SlotMedia). m.version) (get_or-set_other box.media local k media no_media other) in
          let adds : added k event ≡ 0 = away other in
          omega arith
    ]

hears_here : (k local : ℕ) (on : Bool) → k ≡ local → added k (Media (Hear local on)) ≡ 1
hears_here k local on at = let test : (local == k) ≡ true = eq-eqb local k (sym at) in rw test refl

hears_else : (k local : ℕ) (on : Bool) → k ≢ local → added k (Media (Hear local on)) ≡ 0
hears_else k local on other = let test : (local == k) ≡ false = ne_eqb local k (λ same. other (sym same)) in rw test refl

acts : (event : Event) (box : BoxState) (step : BoxStep) (k : ℕ) → IsBox box → is_enabled box event ≡ true → event_step box event ≡ Some step
    → (media_at step.after k).version ≡ (media_at box k).version + added k event
acts (Take local) box step k whole enabled goes = absurd cc
acts (Set change) box step k whole enabled goes =
    stays box (Set change) step k refl (goals_media box (change_goals box.goals change) step goes)
acts (Media (Hear local on)) box step k whole enabled goes =
    let here = and_parts (is_device box.kind) (is_slot box local) enabled in
    let turns = else_some ((media_at box local).version == LAST_VERSION) (goal_step (with_media box local (with_hearing on (media_at box local))) local Other) step goes in
    replaced box (Media (Hear local on)) local 1 (with_hearing on (media_at box local)) step k (subst (λ (n : ℕ). local < n) (sym whole.media) (slot_inside box local here.1))
    (turn_media (with_media box local (with_hearing on (media_at box local))) local Other step turns.1) refl (hears_here k local on) (hears_else k local on)
acts (Media (Talk local on)) box step k whole enabled goes =
    let here = and_parts (is_device box.kind) (is_slot box local) enabled in
    replaced box (Media (Talk local on)) local 0 (with_talking on (media_at box local)) step k (subst (λ (n : ℕ). local < n) (sym whole.media) (slot_inside box local here.1))
    (turn_media (with_media box local (with_talking on (media_at box local))) local Other step goes) (omega arith) (λ at. refl) (λ other. refl)
acts (Tell word) box step k whole enabled goes =
    let same : record { sent = []; after = record box { told = Some word } } ≡ step = cc in
    stays box (Tell word) step k refl (ap (λ (s : BoxStep). s.after.media) (sym same))
acts (Retry local) box step k whole enabled goes = stays box (Retry local) step k refl (turn_media box local Push step goes)
acts Shift box step k whole enabled goes = stays box Shift step k refl (shift_media box step goes)

-- an event adds one to the version of the slot whose Hear it is, and nothing to others
pub event_versions : (box : BoxState) (event : Event) (signal : Option Signal) (step : BoxStep) (k : ℕ) → IsBox box → box_event box event signal ≡ Some step
    → (media_at step.after k).version ≡ (media_at box k).version + added k event
event_versions box event None step k whole goes =
    let one = event_goes event box step goes in
    acts event box step k whole one.0 one.1
event_versions box event (Some signal) step k whole goes =
    let one = taking_is event box signal step goes in
    subst (λ (e : Event). (media_at step.after k).version ≡ (media_at box k).version + added k e) (sym one.1)
    (stays box (Take one.0) step k refl (take_media box one.0 signal step one.3))
