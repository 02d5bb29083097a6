-- What a script that stops shows of its plans; and that one whose plans show that it comes to its end does so.
use Rattle.std.proofs.Common.{◌≡◌, inl, inr, Some, None, Option, List, ◌∷◌, refl, subst, ℕ}
use Rattle.mc_box.specs.declared.event.Turn.{Turn}
use Rattle.mc_growth.specs.Growths.{GrownState}
use Rattle.mc_model.specs.Sound.{IsSound}
use Rattle.mc_stages.specs.Plans.{AreLawful}
use Rattle.mc_stages.specs.declared.plan.StagePlan.{StagePlan}
use Rattle.mc_text.specs.NameLists.{NameLists}
use Rattle.mc_grown_script.specs.ScriptRuns.{EndsBy, StopsStage, StoppedWithin}
use Rattle.mc_grown_script.specs.declared.stop.GrownStop.{GrownStop}
use Rattle.mc_grown_script.specs.declared.stop.GrownStop.TheVariants.{Cut, Settle}
use Rattle.mc_grown_script.specs.declared.stop.ScriptRun.{ScriptRun}
use Rattle.mc_seq.specs.declared.stopping.SettleStop.TheVariants.{Restless, Ring, VersionEnd}
use Rattle.mc_grown_rest.specs.RestLaws.{ScriptsComeToEnd, StopsShow}
use Rattle.mc_grown_rest.specs.Rests.{AreClosed, ClosesBeforeCuts, ComesToEnd, PlansMakeNoRing, ProgramsRest, StopShows}
use Rattle.mc_grown_rest.proofs.ClosedCuts.{CutsClosed, cuts_first, keeps_closed, none_refused}
use Rattle.mc_grown_rest.specs.Planned.{all_batches}
use Rattle.mc_grown_rest.proofs.FullWorlds.{full_world}
use Rattle.mc_grown_rest.proofs.LeftRings.{LeavesNone, keeps_leaves, leaves_first, none_left}
use Rattle.mc_grown_rest.proofs.NamedRings.{StillNamed, closes_none, keeps_named, named_first}
use Rattle.mc_grown_rest.proofs.Restless.{StillByWords, Unprogrammed, keeps_unprogrammed, keeps_words, none_restless, still_first, words_rest}
use Rattle.mc_model.specs.Worlds.{WorldState}
use Rattle.mc_grown_rest.proofs.LastVersions.{StillCounts, counts_first, keeps_counts, meets_none, stop_passes}
use Rattle.mc_grown_rest.proofs.Reaching.{IsReady, Keeps, reaches}

-- the stage at which a script stopped, and what holds there of the network and the plans that are left
record StoppedAt (P : GrownState → List StagePlan → Type 0) (stop : GrownStop) : Type 0 where
  plan : StagePlan
  later : List StagePlan
  last : GrownState
  turns : List Turn
  ready : IsReady last (plan ∷ later)
  holds : P last (plan ∷ later)
  stops : StopsStage last plan stop turns

stopped_at : (P : GrownState → List StagePlan → Type 0) → Keeps P → (names : NameLists) (first : GrownState) (plans : List StagePlan) (stop : GrownStop) (run : ScriptRun) → IsReady first plans
    → P first plans → StoppedWithin names first plans stop run → StoppedAt P stop
stopped_at P keeps names first plans stop run ready holds stopped =
    let there = reaches P keeps stopped.before (stopped.plan ∷ stopped.later) stopped.stages first stopped.last (subst (λ (l : List StagePlan). IsReady first l) stopped.plans_are ready)
    (subst (λ (l : List StagePlan). P first l) stopped.plans_are holds) stopped.ran.runs stopped.ran.of_plans in
    record { plan = stopped.plan; later = stopped.later; last = stopped.last; turns = stopped.turns; ready = there.0; holds = there.1; stops = stopped.stops }

-- ---- what each stop shows

passes_last : (names : NameLists) (first : GrownState) (plans : List StagePlan) (run : ScriptRun) (at : ℕ) → IsReady first plans
    → StoppedWithin names first plans (Settle (VersionEnd at)) run → StopShows first plans (Settle (VersionEnd at))
passes_last names first plans run at ready stopped =
    let start : WorldState = full_world first plans in
    let here = stopped_at (StillCounts start (all_batches plans)) (keeps_counts start (all_batches plans)) names first plans (Settle (VersionEnd at)) run ready (counts_first first plans) stopped in
    stop_passes start (all_batches plans) here.last here.plan here.later here.turns at here.ready here.holds here.stops.1

makes_ring : (names : NameLists) (first : GrownState) (plans : List StagePlan) (run : ScriptRun) (at : ℕ) → IsReady first plans
    → StoppedWithin names first plans (Settle (Ring at)) run → PlansMakeNoRing first plans → ⊥
makes_ring names first plans run at ready stopped (inl closes) =
    let start : WorldState = full_world first plans in
    let here = stopped_at (StillNamed start (all_batches plans)) (keeps_named start (all_batches plans)) names first plans (Settle (Ring at)) run ready (named_first first plans) stopped in
    closes_none start (all_batches plans) here.last here.plan here.later here.turns at closes here.ready here.holds here.stops.1
makes_ring names first plans run at ready stopped (inr (unprogrammed, leaves)) =
    let here = stopped_at LeavesNone keeps_leaves names first plans (Settle (Ring at)) run ready (leaves_first first plans unprogrammed leaves) stopped in
    none_left here.last here.plan here.later here.turns at here.ready here.holds here.stops.1

goes_on : (names : NameLists) (first : GrownState) (plans : List StagePlan) (run : ScriptRun) (at : ℕ) → IsReady first plans
    → StoppedWithin names first plans (Settle (Restless at)) run → ProgramsRest first plans → ⊥
goes_on names first plans run at ready stopped (inl unprogrammed) =
    let here = stopped_at Unprogrammed keeps_unprogrammed names first plans (Settle (Restless at)) run ready unprogrammed stopped in
    none_restless here.last here.plan here.later here.turns at here.ready here.holds here.stops.1
goes_on names first plans run at ready stopped (inr words) =
    let here = stopped_at StillByWords keeps_words names first plans (Settle (Restless at)) run ready (still_first first plans words) stopped in
    words_rest here.last here.plan here.later here.turns at here.ready here.holds here.stops.1

cuts_in_use : (names : NameLists) (first : GrownState) (plans : List StagePlan) (run : ScriptRun) (at : ℕ) → IsReady first plans → AreClosed first.world
    → StoppedWithin names first plans (Cut at) run → ClosesBeforeCuts first plans → ⊥
cuts_in_use names first plans run at ready closed stopped cuts =
    let here = stopped_at CutsClosed keeps_closed names first plans (Cut at) run ready (cuts_first first plans closed cuts) stopped in
    none_refused here.last here.plan here.later at here.ready here.holds here.stops.0

shows : (stop : GrownStop) (names : NameLists) (first : GrownState) (plans : List StagePlan) (run : ScriptRun) → IsReady first plans → AreClosed first.world
    → StoppedWithin names first plans stop run → StopShows first plans stop
shows (Settle (VersionEnd at)) names first plans run ready closed stopped = passes_last names first plans run at ready stopped
shows (Settle (Ring at)) names first plans run ready closed stopped = makes_ring names first plans run at ready stopped
shows (Settle (Restless at)) names first plans run ready closed stopped = goes_on names first plans run at ready stopped
shows (Cut at) names first plans run ready closed stopped = cuts_in_use names first plans run at ready closed stopped

pub stops_show : StopsShow
stops_show names first plans stop run sound closed lawful stopped = shows stop names first plans run (record { sound = sound; lawful = lawful }) closed stopped

-- ---- so there is none

-- where the plans show that it comes to its end no stop shows that it doesn't
none_shown : (stop : GrownStop) (first : GrownState) (plans : List StagePlan) → ComesToEnd first plans → StopShows first plans stop → ⊥
none_shown (Settle (VersionEnd at)) first plans comes shows = meets_none first plans comes.versions shows
none_shown (Settle (Ring at)) first plans comes shows = shows comes.rings
none_shown (Settle (Restless at)) first plans comes shows = shows comes.programs
none_shown (Cut at) first plans comes shows = shows comes.cuts

-- so it doesn't stop
pub never_stops : (stop : GrownStop) (names : NameLists) (first : GrownState) (plans : List StagePlan) (run : ScriptRun) → IsSound first.world → AreClosed first.world → AreLawful first plans
    → ComesToEnd first plans → StoppedWithin names first plans stop run → ⊥
never_stops stop names first plans run sound closed lawful comes stopped = none_shown stop first plans comes (stops_show names first plans stop run sound closed lawful stopped)

ends_by : (stop : Option GrownStop) (names : NameLists) (first : GrownState) (plans : List StagePlan) (run : ScriptRun) → IsSound first.world → AreClosed first.world → AreLawful first plans
    → ComesToEnd first plans → EndsBy names first plans stop run → stop ≡ None
ends_by None names first plans run sound closed lawful comes ends = refl
ends_by (Some stop) names first plans run sound closed lawful comes ends = absurd (never_stops stop names first plans run sound closed lawful comes ends)

pub scripts_come_to_end : ScriptsComeToEnd
scripts_come_to_end names first plans run sound closed lawful comes ends = ends_by run.stop names first plans run sound closed lawful comes ends
