-- The world allows each command that was made.
use Rattle.std.proofs.Common.{◌≡◌, if◌then◌else◌, nat_lt, ℕ, Bool, true, false, List, [], ◌∷◌, Option, Some, None, length, take, refl, ◌∙◌}
use Rattle.std.specs.List.{AllByRecursion, list_all}
use Rattle.std.proofs.lemmas.List.Elements.{All-from_recursion}
use Rattle.mc_box.specs.BoxEvents.{box_event, event_step, is_command, is_enabled}
use Rattle.mc_box.specs.BoxShapes.{box_shape, is_enabled_by}
use Rattle.mc_box.specs.declared.event.Event.{Event}
use Rattle.mc_box.specs.declared.event.Event.TheVariants.{Take, Set, Media, Tell, Retry, Shift}
use Rattle.mc_box.specs.declared.event.Turn.{Turn}
use Rattle.mc_box.proofs.Options.{if_some, map_some, then_some}
use Rattle.mc_box.proofs.ShapeEnables.{shape_enables}
use Rattle.mc_laws.proofs.CommandsGo.{both_is, both_true}
use Rattle.mc_laws.proofs.ShapesKept.{run_keeps_shape, shape_both, step_keeps_shape}
use Rattle.mc_laws.proofs.StepKeeps.{run_keeps_sound, step_keeps_sound}
use Rattle.mc_model.specs.Shapes.{AreAllAllowed, AreAllowed, HasShape, is_allowed}
use Rattle.mc_model.specs.Sound.{IsSound}
use Rattle.mc_model.specs.Steps.{after, after_making, run, step, step_by}
use Rattle.mc_model.specs.Worlds.{WorldState, box_at}
use Rattle.mc_seq.proofs.AllowedCommands.{all_kept}
use Rattle.mc_settings.proofs.AlikeWorlds.{shape_back}
use Rattle.mc_replay.proofs.Prefixes.{moment_goes}
use Rattle.mc_segments.specs.Ends.{AreEnds, commands_in, turns_between}
use Rattle.mc_segments.specs.Lines.{settled_batches}

-- ---- one command

-- an event that happens without a signal is enabled
event_enabled : (world next : WorldState) (who : ℕ) (event : Event) → ◌≡◌ {A = Option WorldState} (step_by world who event) (Some next) → is_command event ≡ true → is_enabled (box_at world who) event ≡ true
event_enabled world next who (Take local) goes is = absurd (cc)
event_enabled world next who (Retry local) goes is = absurd (cc)
event_enabled world next who Shift goes is = absurd (cc)
event_enabled world next who (Set change) goes is =
    let made = map_some (after_making world who) (box_event (box_at world who) (Set change) None) next goes in
    (if_some (is_enabled (box_at world who) (Set change)) (event_step (box_at world who) (Set change)) made.0 made.1).0
event_enabled world next who (Media change) goes is =
    let made = map_some (after_making world who) (box_event (box_at world who) (Media change) None) next goes in
    (if_some (is_enabled (box_at world who) (Media change)) (event_step (box_at world who) (Media change)) made.0 made.1).0
event_enabled world next who (Tell word) goes is =
    let made = map_some (after_making world who) (box_event (box_at world who) (Tell word) None) next goes in
    (if_some (is_enabled (box_at world who) (Tell word)) (event_step (box_at world who) (Tell word)) made.0 made.1).0

-- the world in which it happens allows it
made_allowed : (world next : WorldState) (turn : Turn) → step world turn ≡ Some next → is_command turn.event ≡ true → is_allowed world turn ≡ true
made_allowed world next turn goes is =
    let box = box_at world turn.who in
    let parts = if_some (nat_lt turn.who (length world.boxes)) (step_by world turn.who turn.event) next goes in
    both_is (nat_lt turn.who (length world.boxes)) (is_enabled_by (box_shape box) turn.event) parts.0
    (shape_enables box turn.event ∙ both_is (is_command turn.event) (is_enabled box turn.event) is (event_enabled world next turn.who turn.event parts.1 is))

-- ---- those of a run

one_more : (b : Bool) (world now next : WorldState) (turn : Turn) (rest : List Turn) → is_command turn.event ≡ b → IsSound world → IsSound now → HasShape now world → step now turn ≡ Some next → AreAllowed world rest
    → AreAllowed world (if b then turn ∷ rest else rest)
one_more false world now next turn rest is sound sound_now shape goes allowed = allowed
one_more true world now next turn rest is sound sound_now shape goes allowed =
    let here : AreAllowed now (turn ∷ []) = both_is (is_allowed now turn) true (made_allowed now next turn goes is) refl in
    let there = all_kept (turn ∷ []) now world sound_now sound (shape_back now world shape) here in
    both_is (is_allowed world turn) (list_all (is_allowed world) rest) (both_true (is_allowed world turn) true there).0 allowed

run_allowed : (turns : List Turn) (world now last : WorldState) → IsSound world → IsSound now → HasShape now world → run now turns ≡ Some last → AreAllowed world (commands_in turns)
run_allowed [] world now last sound sound_now shape goes = refl
run_allowed (turn ∷ turns) world now last sound sound_now shape goes =
    let first = then_some (λ (next : WorldState). run next turns) (step now turn) last goes in
    let shape_next = shape_both first.0 now world (step_keeps_shape now first.0 turn sound_now first.1) shape in
    let rest = run_allowed turns world first.0 last sound (step_keeps_sound now first.0 turn sound_now first.1) shape_next first.2 in
    one_more (is_command turn.event) world now first.0 turn (commands_in turns) refl sound sound_now shape first.1 rest

-- ---- those of each segment

each_allowed : (ends : List ℕ) (world last : WorldState) (turns : List Turn) (from : ℕ) → IsSound world → run world turns ≡ Some last → AreEnds world turns from ends → AllByRecursion (AreAllowed world) (settled_batches turns from ends)
each_allowed [] world last turns from sound goes are = tt
each_allowed (place ∷ ends) world last turns from sound goes are =
    let begins = after world (take from turns) in
    let began = (moment_goes world last turns from goes).0 in (
      run_allowed (turns_between from place turns) world begins (after world (take place turns)) sound (run_keeps_sound world begins (take from turns) sound began)
          (run_keeps_shape world begins (take from turns) sound began) are.0.is.settles.runs,
      each_allowed ends world last turns place sound goes are.1,
    )

pub all_allowed : (world last : WorldState) (turns : List Turn) (ends : List ℕ) → IsSound world → run world turns ≡ Some last → AreEnds world turns 0 ends → AreAllAllowed world (settled_batches turns 0 ends)
all_allowed world last turns ends sound goes are = All-from_recursion (AreAllowed world) (settled_batches turns 0 ends) (each_allowed ends world last turns 0 sound goes are)
