-- A turn that a part has made.
use Rattle.std.proofs.Common.{get_or, ◌≡◌, ◌↔◌, ◌<◌, ◌&&◌, Bool, true, false, if◌then◌else◌, nat_lt, Option, None, IsSome, IsTrue, IfErr, Result, Ok, Err, refl, ℕ, ◌+◌, ◌*◌, max, List, [], ◌∷◌, ◌++◌, length, Some, ap, sym, ◌∙◌}
use Rattle.std.specs.Option.{option_map}
use Rattle.std.proofs.lemmas.Bool.{lt-ltb}
use Rattle.std.proofs.lemmas.List.{get_or_read}
use Rattle.mc_box.specs.Boxes.{BoxState, no_box}
use Rattle.mc_box.specs.BoxEvents.{BoxStep, box_event, is_enabled, is_take, is_version_end, turn_of}
use Rattle.mc_box.specs.BoxSound.{IsSoundBox}
use Rattle.mc_box.proofs.EventGoes.{event_goes}
use Rattle.mc_box.specs.declared.event.Event.TheVariants.{Take, Set, Media, Tell, Retry, Shift}
use Rattle.mc_box.specs.declared.event.Event.{Event}
use Rattle.mc_box.specs.declared.event.Turn.{Turn}
use Rattle.mc_model.specs.Steps.{after_making, step, step_by}
use Rattle.mc_model.specs.Worlds.{ChannelState, WorldState, box_at}
use Rattle.mc_merge.specs.Logs.{Own}
use Rattle.mc_merge.specs.Steps.{IsStep, part_world}
use Rattle.mc_merge.proofs.ClockJoins.{turns_are_clocked}
use Rattle.mc_merge.proofs.Steps.{step_channels, steps_are_turns}
use Rattle.mc_merge.proofs.Turns.{turns_are_work}
use Rattle.mc_merge.specs.Wholes.{made_of}
use Rattle.mc_merge.specs.declared.log.Made.{Made}
use Rattle.mc_world.specs.StepAnswers.{CannotHappen, LacksVersion}
use Rattle.mc_world.specs.declared.network.step.StepFault.{StepFault}
use Rattle.mc_world.specs.declared.network.step.StepFault.TheVariants.{NotEnabled, NoMemory, VersionEnd}
use Rattle.mc_part.specs.Parts.{IsRefused, TurnsOnce, state_of, tables_of}
use Rattle.mc_part.specs.declared.part.Part.{Part}

-- the entry of the log, by its fields
same_made : (own : Own) (stamp who : ℕ) (event : Event) → own.entry.stamp ≡ stamp → own.who ≡ who → own.entry.event ≡ event → record { stamp = stamp; who = who; event = event } ≡ made_of own
same_made own stamp who event one two three =
    ap (λ (n : ℕ). record { stamp = n; who = who; event = event }) (sym one)
    ∙ (ap (λ (n : ℕ). record { stamp = own.entry.stamp; who = n; event = event }) (sym two) ∙ ap (λ (e : Event). record { stamp = own.entry.stamp; who = own.who; event = e }) (sym three))

pub turned : (a b : Part) (who : ℕ) (event : Event) → length a.engine.lanes ≡ 2 * length a.engine.channels → step a.engine (turn_of who event) ≡ Some b.engine → b.stamp ≡ max a.stamp a.heard + 1
    → b.log.items ≡ a.log.items ++ record { stamp = b.stamp; who = who; event = event } ∷ [] → b ≡ record a { engine = b.engine; stamp = b.stamp; log = b.log } → TurnsOnce a b who event
turned a b who event count goes stamp log kept =
    let channels : b.engine.channels ≡ a.engine.channels = step_channels (tables_of a) (state_of a) who event b.engine count goes in
    let same : b.engine ≡ part_world (tables_of a) (state_of b) = ap (λ (c : List ChannelState). record b.engine { channels = c }) channels in
    let is : IsStep (tables_of a) (state_of a) (state_of b) who event = record {
      each_lane = count;
      goes = goes ∙ ap (λ (w : WorldState). Some w) same;
      stamp = stamp;
      heard = ap (λ (p : Part). p.heard) kept;
    } in
    let made = steps_are_turns (tables_of a) (state_of a) (state_of b) who event is in
    record {
      own = made.own;
      box = made.box;
      event_is = made.event_is;
      here = made.turn.here;
      work = turns_are_work (tables_of a) (state_of a) (state_of b) made.own made.turn;
      clocked = turns_are_clocked (tables_of a) (state_of a) (state_of b) made.own made.turn;
      channels = channels;
      stamp = stamp;
      log = log ∙ ap (λ (m : Made). a.log.items ++ m ∷ []) (same_made made.own b.stamp who event made.stamp made.box made.event_is);
      kept = kept;
    }

-- ---- where there is none

pub refused : (result : Result (Unit {0}) StepFault) (world : WorldState) (turn : Turn) → ((result ≡ Err VersionEnd) ↔ LacksVersion world turn) → ((result ≡ Err NotEnabled) ↔ CannotHappen world turn)
    → IfErr result (IsRefused world turn)
refused (Ok done) world turn version enabled = tt
refused (Err NotEnabled) world turn version enabled = enabled.0 refl
refused (Err VersionEnd) world turn version enabled = version.0 refl
refused (Err (NoMemory e)) world turn version enabled = tt

-- ---- an event that takes nothing happens, where it is enabled and ends no version

act_by : (world : WorldState) (who : ℕ) (event : Event) → is_take event ≡ false → step_by world who event ≡ option_map (after_making world who) (box_event (box_at world who) event None)
act_by world who (Take local) other = absurd (cc)
act_by world who (Set change) other = refl
act_by world who (Media change) other = refl
act_by world who (Tell word) other = refl
act_by world who (Retry local) other = refl
act_by world who Shift other = refl

not_none : (o : Option BoxStep) (f : BoxStep → WorldState) → IsSome o → option_map f o ≡ None → ⊥
not_none None f some is = absurd (cc)
not_none (Some step) f some is = absurd (cc)

if_here : (here : Bool) (o : Option WorldState) → here ≡ true → (if here then o else None) ≡ None → o ≡ None
if_here true o is none = none
if_here false o is none = absurd (cc)

pub can_act : (world : WorldState) (who : ℕ) (event : Event) → who < length world.boxes → IsSoundBox (box_at world who) → is_take event ≡ false → is_enabled (box_at world who) event ≡ true
    → is_version_end (box_at world who) event ≡ false → CannotHappen world (turn_of who event) → ⊥
can_act world who event here sound other enabled newer cannot =
    let none : step_by world who event ≡ None = if_here (nat_lt who (length world.boxes)) (step_by world who event) (lt-ltb who (length world.boxes) here) cannot.0 in
    not_none (box_event (box_at world who) event None) (after_making world who) (event_goes (box_at world who) event sound enabled other newer) (sym (act_by world who event other) ∙ none)

no_end : (one two three : Bool) → two ≡ false → IsTrue (one && (two && three)) → ⊥
no_end true true three is both = absurd (cc)
no_end true false three is both = absurd (cc)
no_end false two three is both = absurd (cc)

pub read_box : (world : WorldState) (boxes : List BoxState) (who : ℕ) (box : BoxState) → boxes ≡ world.boxes → who < length world.boxes → box ≡ get_or boxes who box → box ≡ box_at world who
read_box world boxes who box same inside is = get_or_read world.boxes who box inside (is ∙ ap (λ (l : List BoxState). get_or l who box) same) no_box
