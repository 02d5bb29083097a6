-- What an event leaves of a box: its shape.
use Rattle.std.proofs.Common.{◌≡◌, ◌==◌, ℕ, ◌<◌, Bool, if◌then◌else◌, is_some, Option, Some, None, List, [], ◌∷◌, length, map, refl, ap, sym, ◌∙◌, subst, arith}
use Rattle.std.proofs.lemmas.Grind.{common_steps}
use Rattle.std.proofs.lemmas.List.{ext_get_or, length-map}
use Rattle.mc_signal.specs.declared.Medium.{Medium}
use Rattle.mc_signal.specs.declared.Medium.TheVariants.{Audio}
use Rattle.mc_signal.specs.declared.Signal.{Signal}
use Rattle.mc_slot.specs.declared.Slot.{Slot}
use Rattle.mc_slot_laws.proofs.Steps.{took_medium}
use Rattle.mc_box.specs.Acting.{Acted, BoxActs, sends, takes}
use Rattle.mc_box.specs.BoxEvents.{BoxStep, box_event}
use Rattle.mc_box.specs.BoxShapes.{box_shape}
use Rattle.mc_box.specs.BoxSound.{IsSoundBox}
use Rattle.mc_box.specs.Boxes.{BoxState}
use Rattle.mc_box.specs.declared.event.Event.{Event}
use Rattle.mc_box.specs.declared.event.Event.TheVariants.{Take, Set, Media, Tell, Retry, Shift}
use Rattle.mc_box.specs.declared.event.Kind.{Kind}
use Rattle.mc_box.proofs.EventActs.{event_acts, take_acts}
use Rattle.mc_box.proofs.Events.{event_keeps_sound}
use Rattle.mc_box.proofs.GoalTurns.{all_medium}
use Rattle.mc_box.proofs.ShapeEnables.{medium_of}
use Rattle.mc_port.specs.Entries.{AreMade, Entry, signal_in}

acted_medium : (a after : Slot) (to signals left : List Signal) → Acted a to signals after left → after.medium ≡ a.medium
acted_medium a after to signals left (sends goes) = all_medium signals a after goes
acted_medium a after to signals left (takes middle more answer took goes) = all_medium more middle after goes ∙ took_medium a _ _ took

same_by : (box : BoxState) (step : BoxStep) (to left : ℕ → List Signal) → BoxActs box to step left → box_shape step.after ≡ box_shape box
same_by box step to left acts =
    let media : map (λ (s : Slot). s.medium) step.after.slots ≡ map (λ (s : Slot). s.medium) box.slots =
    ext_get_or Audio (map (λ (s : Slot). s.medium) step.after.slots) (map (λ (s : Slot). s.medium) box.slots)
    (length-map step.after.slots (λ (s : Slot). s.medium) ∙ (acts.make.alike.slots ∙ sym (length-map box.slots (λ (s : Slot). s.medium))))
    (λ k inside.
    let here : k < length box.slots = subst (λ (n : ℕ). k < n) (length-map step.after.slots (λ (s : Slot). s.medium) ∙ acts.make.alike.slots) inside in
    medium_of step.after.slots k ∙ (acted_medium _ _ _ _ _ (acts.acted k here) ∙ sym (medium_of box.slots k))) in
    let programmed : is_some step.after.program ≡ is_some box.program = ap is_some acts.make.alike.program in
    ap (λ (kind : Kind). record { kind = kind; media = map (λ (s : Slot). s.medium) step.after.slots; programmed = is_some step.after.program }) acts.make.alike.kind
    ∙ (ap (λ (media : List Medium). record { kind = box.kind; media = media; programmed = is_some step.after.program }) media
    ∙ ap (λ (programmed : Bool). record { kind = box.kind; media = map (λ (s : Slot). s.medium) box.slots; programmed = programmed }) programmed)

-- a Take leaves the shape
pub take_same : (box : BoxState) (local : ℕ) (signal : Signal) (step : BoxStep) → IsSoundBox box → box_event box (Take local) (Some signal) ≡ Some step → box_shape step.after ≡ box_shape box
take_same box local signal step sound goes =
    let to : ℕ → List Signal = λ k. if k == local then signal ∷ [] else [] in
    let left : ℕ → List Signal = λ k. [] in
    let first : to local ≡ signal ∷ left local = grind (arith, common_steps) in
    same_by box step to left (take_acts box local signal step to left sound goes first (λ k inside other. grind (arith, common_steps)))

-- and so does any other event
pub act_same : (box : BoxState) (event : Event) (step : BoxStep) → IsSoundBox box → box_event box event None ≡ Some step → box_shape step.after ≡ box_shape box
act_same box event step sound goes =
    let none : ℕ → List Signal = λ k. [] in
    same_by box step none none (event_acts box event step none none sound goes (λ k inside. refl))

-- and so any event at all
pub event_same : (box : BoxState) (event : Event) (signal : Option Signal) (step : BoxStep) → IsSoundBox box → box_event box event signal ≡ Some step → box_shape step.after ≡ box_shape box
event_same box event None step sound goes = act_same box event step sound goes
event_same box (Take local) (Some signal) step sound goes = take_same box local signal step sound goes
event_same box (Set change) (Some signal) step sound goes = absurd (cc)
event_same box (Media change) (Some signal) step sound goes = absurd (cc)
event_same box (Tell word) (Some signal) step sound goes = absurd (cc)
event_same box (Retry local) (Some signal) step sound goes = absurd (cc)
event_same box Shift (Some signal) step sound goes = absurd (cc)

-- and so do all events of a log
pub made_same : (box last : BoxState) (entries : List Entry) → IsSoundBox box → AreMade box entries last → box_shape last ≡ box_shape box
made_same box last [] sound made = ap box_shape (sym made)
made_same box last (entry ∷ entries) sound made =
    made_same entry.after last entries (event_keeps_sound box entry.event (signal_in entry.taken) _ sound made.0) made.1 ∙ event_same box entry.event (signal_in entry.taken) _ sound made.0

-- a box of the same shape has as many slots
