-- While only Takes and Retries come, goals stay, and so do walks and rings.
use Rattle.std.proofs.Common.{◌≡◌, ℕ, true, Some, List, [], ◌∷◌, refl, ap, ◌∙◌, subst}
use Rattle.std.specs.List.{list_all}
use Rattle.std.proofs.lemmas.Bool.{and_parts}
use Rattle.mc_box.specs.declared.event.Event.{Event}
use Rattle.mc_box.specs.declared.event.Event.TheVariants.{Take, Set, Media, Tell, Retry, Shift}
use Rattle.mc_box.specs.declared.event.Turn.{Turn}
use Rattle.mc_model.specs.Paths.{has_ring}
use Rattle.mc_model.specs.Rings.{RestKeepsRings}
use Rattle.mc_model.specs.Settles.{takes_or_retries}
use Rattle.mc_model.specs.Sound.{IsSound}
use Rattle.mc_model.specs.Steps.{run, step}
use Rattle.mc_model.specs.Worlds.{ChannelState, WorldState}
use Rattle.mc_laws.proofs.Reaches.{GoalsStay, ring_same, with_boxes}
use Rattle.mc_laws.proofs.StepActs.{take_happened}
use Rattle.mc_box.proofs.Options.{then_some}
use Rattle.mc_laws.proofs.StepKeeps.{step_keeps_sound}
use Rattle.mc_laws.proofs.TakeParts.{retry_goals_stay, retry_is, take_goals_stay}

-- the same goals and channels
pub record Stay (world last : WorldState) : Type 0 where
  pub goals : GoalsStay last world
  pub channels : last.channels ≡ world.channels
  pub sound : IsSound last

-- a Take or a Retry leaves the goals
event_stays : (event : Event) (world next : WorldState) (who : ℕ) → IsSound world → takes_or_retries event ≡ true → step world (record { who = who; event = event }) ≡ Some next → Stay world next
event_stays (Take local) world next who sound is goes =
    let took = take_happened world next who local sound goes in
    record { goals = take_goals_stay world next took.0 took.1 sound; channels = took.1.happened.stepped.channels; sound = step_keeps_sound world next (record { who = who; event = Take local }) sound goes }
event_stays (Retry local) world next who sound is goes =
    let retried = retry_is world next who local sound goes in
    record { goals = retry_goals_stay world next retried.0 retried.2; channels = retried.2.happened.stepped.channels; sound = step_keeps_sound world next (record { who = who; event = Retry local }) sound goes }
event_stays (Set change) world next who sound is goes = absurd (cc)
event_stays (Media change) world next who sound is goes = absurd (cc)
event_stays (Tell word) world next who sound is goes = absurd (cc)
event_stays Shift world next who sound is goes = absurd (cc)

-- and so does a run of these
pub run_stays : (turns : List Turn) (world last : WorldState) → IsSound world → list_all (λ turn. takes_or_retries turn.event) turns ≡ true → run world turns ≡ Some last → Stay world last
run_stays [] world last sound all goes =
    let same : world ≡ last = cc in subst (λ (w : WorldState). Stay world w) same (record { goals = λ who local. refl; channels = refl; sound = sound })
run_stays (turn ∷ turns) world last sound all goes =
    let parts = and_parts (takes_or_retries turn.event) (list_all (λ (turn : Turn). takes_or_retries turn.event) turns) all in
    let one = then_some (λ (w : WorldState). run w turns) (step world turn) last goes in
    let first = event_stays turn.event world one.0 turn.who sound parts.0 one.1 in
    let later = run_stays turns one.0 last first.sound parts.1 one.2 in
    record { goals = λ who local. later.goals who local ∙ first.goals who local; channels = later.channels ∙ first.channels; sound = later.sound }

-- so there are rings as before
pub ring_stays : (world last : WorldState) → Stay world last → has_ring last ≡ has_ring world
ring_stays world last stay =
    let is : last ≡ with_boxes world last.boxes last.lanes = ap (λ (c : List ChannelState). record last { channels = c }) stay.channels in
    ap has_ring is ∙ ring_same world last.boxes last.lanes (subst (λ (w : WorldState). GoalsStay w world) is stay.goals)

-- so rings stay
pub rest_keeps_rings : RestKeepsRings
rest_keeps_rings world next turns sound all goes = ring_stays world next (run_stays turns world next sound all goes)
