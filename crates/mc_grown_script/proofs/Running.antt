-- A script that is run: the stages so far, and what was kept and printed of them.
use Rattle.std.proofs.Common.{◌≡◌, ◌<◌, ◌≤◌, ◌++◌, ◌∷◌, [], ℕ, ◌+◌, Option, List, add-one, append-nil, append_assoc, arith, drop, length, length-append, map, refl, ap, sym, ◌∙◌, subst, slice_index_or}
use Rattle.std.proofs.Math.Seq.{drop-cons}
use Rattle.std.proofs.lemmas.List.{drop_all}
use Rattle.std.proofs.lemmas.List.Elements.{All-append, All-cons, All-nil}
use Rattle.std.specs.List.{flat_map}
use Rattle.mc_box.specs.declared.event.Turn.{Turn}
use Rattle.mc_growth.specs.Growths.{GrownState, Growth, IsGrownRun, IsStage, Stage, after_stage, grown_by_all, with_world}
use Rattle.mc_stages.specs.Plans.{AreLawful, MayAskAll, NamesEnough, batch_of, grown_at_end, growths_of}
use Rattle.mc_grown_script.specs.Printed.{network_text, networks_text}
use Rattle.mc_grown_script.specs.Progress.{Staging, Stopping, stage_by}
use Rattle.mc_grown_script.specs.Scripts.{ScriptState, first_state}
use Rattle.mc_grown_script.specs.ScriptRuns.{CameToEnd, EndsAs, EndsBy, HasRun, journal_of}
use Rattle.mc_stages.proofs.SettlesHold.{end_is}
use Rattle.mc_stages.specs.StageRuns.{networks_after, stage_end}
use Rattle.mc_stages.specs.declared.plan.StagePlan.{StagePlan}
use Rattle.mc_grown_script.specs.declared.stop.GrownStop.{GrownStop}
use Rattle.mc_grown_script.specs.declared.stop.ScriptRun.{ScriptRun}
use Rattle.mc_stages.proofs.Grows.{sound_all}
use Rattle.mc_grown_script.proofs.Lawful.{AreAlike, alike_all, asks_end, end_after, lawful_same}
use Rattle.mc_grown_script.proofs.Names.{before_all, boxes_stay, names_kept}
use Rattle.mc_laws.proofs.ShapesKept.{run_keeps_shape}
use Rattle.mc_laws.proofs.StepKeeps.{run_keeps_sound}
use Rattle.mc_model.specs.Sound.{IsSound}
use Rattle.mc_model.specs.Steps.{run}
use Rattle.mc_model.specs.Worlds.{WorldState}
use Rattle.mc_divided.specs.declared.limit.TheConstants.{NETWORK_LIMIT}
use Rattle.mc_replay.specs.Journals.{lines_for}
use Rattle.mc_script.specs.declared.command.JournalLine.{JournalLine}
use Rattle.mc_script.specs.declared.command.JournalLine.TheVariants.{Turn as Made}
use Rattle.mc_seq.specs.ShiftLimit.{KeepsShiftLimit}
use Rattle.mc_text.specs.NameLists.{NameLists}

-- ---- one stage more

run_more : (stages : List Stage) (first now : GrownState) (stage : Stage) (last : WorldState) → IsGrownRun first stages now → IsStage now stage last
    → IsGrownRun first (stages ++ stage ∷ []) (after_stage now stage last)
run_more [] first now stage last goes is = subst (λ (n : GrownState). IsGrownRun n (stage ∷ []) (after_stage now stage last)) (sym goes) (last, is, refl)
run_more (one ∷ stages) first now stage last goes is = (goes.0, goes.1, run_more stages (after_stage first one goes.0) now stage last goes.2 is)

networks_more : (stages : List Stage) (first now next : GrownState) (stage : Stage) → IsGrownRun first stages now → stage_end now stage ≡ next
    → networks_after first (stages ++ stage ∷ []) ≡ networks_after first stages ++ next ∷ []
networks_more [] first now next stage goes is = ap (λ (n : GrownState). stage_end n stage ∷ []) goes ∙ ap (λ (n : GrownState). n ∷ []) is
networks_more (one ∷ stages) first now next stage goes is =
    ap (λ (others : List GrownState). stage_end first one ∷ others)
    (networks_more stages (stage_end first one) now next stage
    (subst (λ (n : GrownState). IsGrownRun n stages now) (sym (end_is first one goes.0 goes.1)) goes.2) is)

count_networks : (stages : List Stage) (first : GrownState) → length (networks_after first stages) ≡ length stages
count_networks [] first = refl
count_networks (stage ∷ stages) first = let rest = count_networks stages (stage_end first stage) in omega (arith, rest)

texts_more : (networks : List GrownState) (names : NameLists) (number last : ℕ) (network : GrownState) → number + length networks ≡ last
    → networks_text names number (networks ++ network ∷ []) ≡ networks_text names number networks ++ network_text names last network
texts_more [] names number last network is =
    append-nil (network_text names number network) ∙ ap (λ (n : ℕ). network_text names n network) (let same : number ≡ last = omega (arith, is) in same)
texts_more (one ∷ networks) names number last network is =
    ap (λ (text : List ℕ). network_text names number one ++ text) (texts_more networks names (number + 1) last network (omega (arith, is)))
    ∙ sym (append_assoc (network_text names number one) (networks_text names (number + 1) networks) (network_text names last network))

map_more : {A B : Type 0} (f : A → B) (xs : List A) (x : A) → map f (xs ++ x ∷ []) ≡ map f xs ++ f x ∷ []
map_more f [] x = refl
map_more f (y ∷ xs) x = ap (λ (ys : List _). f y ∷ ys) (map_more f xs x)

journal_more : (stages : List Stage) (stage : Stage) → journal_of (stages ++ stage ∷ []) ≡ journal_of stages ++ lines_for stage.turns
journal_more [] stage = append-nil (lines_for stage.turns)
journal_more (one ∷ stages) stage =
    ap (λ (lines : List JournalLine). lines_for one.turns ++ lines) (journal_more stages stage)
    ∙ sym (append_assoc (lines_for one.turns) (journal_of stages) (lines_for stage.turns))

-- ---- what is kept

-- what is kept after so many stages: they are of the first plans, and the others may still be asked for
pub record GoesOn (names : NameLists) (first : GrownState) (all rest : List StagePlan) (count : ℕ) (now : ScriptState) : Type 0 where
  pub before : List StagePlan
  pub whole : all ≡ before ++ rest
  pub stages : List Stage
  pub counted : length stages ≡ count
  pub ran : HasRun before first stages now.network
  pub journal : now.journal ≡ journal_of stages
  pub output : now.output ≡ networks_text names 1 (networks_after first stages)
  pub lawful : AreLawful now.network rest
  pub named : NamesEnough names (grown_at_end now.network rest).world
  pub few : length now.network.world.boxes ≤ NETWORK_LIMIT
  pub sound : IsSound now.network.world

pub goes_first : (names : NameLists) (first : GrownState) (all : List StagePlan) → AreLawful first all → NamesEnough names (grown_at_end first all).world
    → length first.world.boxes ≤ NETWORK_LIMIT → IsSound first.world → GoesOn names first all all 0 (first_state first)
goes_first names first all lawful named few sound = record {
  before = [];
  whole = refl;
  stages = [];
  counted = refl;
  ran = record { runs = refl; of_plans = record { growths = refl; batches = refl }; shift_limit = All-nil (λ (stage : Stage). KeepsShiftLimit stage.turns) };
  journal = refl;
  output = refl;
  lawful = lawful;
  named = named;
  few = few;
  sound = sound;
}

-- ---- before a stage

-- all that the joins and cuts of a plan make has names
pub stage_named : (names : NameLists) (network : GrownState) (plan : StagePlan) (rest : List StagePlan) → AreLawful network (plan ∷ rest)
    → NamesEnough names (grown_at_end network (plan ∷ rest)).world → NamesEnough names (grown_by_all network (growths_of plan)).world
stage_named names network plan rest lawful named =
    before_all (flat_map growths_of rest) names (grown_by_all network (growths_of plan)) (asks_end rest (grown_by_all network (growths_of plan)) lawful.2)
    (subst (λ (n : GrownState). NamesEnough names n.world) (end_after plan rest network) named)

-- ---- after a stage

-- a settle keeps the network that was made for it
settle_alike : (network next : GrownState) (plan : StagePlan) (turns : List Turn) → IsSound network.world → MayAskAll network (growths_of plan)
    → IsStage network (stage_by plan turns) next.world → next.out ≡ (grown_by_all network (growths_of plan)).out → AreAlike next (grown_by_all network (growths_of plan))
settle_alike network next plan turns sound asks stage out =
    let grown = sound_all (growths_of plan) network sound asks in
    record {
      out = out;
      shape = run_keeps_shape (grown_by_all network (growths_of plan)).world next.world turns grown stage.settles.runs;
      new_sound = run_keeps_sound (grown_by_all network (growths_of plan)).world next.world turns grown stage.settles.runs;
      old_sound = grown;
    }

same_network : (next grown : GrownState) → next.out ≡ grown.out → with_world grown next.world ≡ next
same_network next grown out = rw (out) refl

pub goes_more : (names : NameLists) (first : GrownState) (all rest : List StagePlan) (count : ℕ) (plan : StagePlan) (now next : ScriptState)
    → Staging names (count + 1) plan now next → GoesOn names first all (plan ∷ rest) count now → GoesOn names first all rest (count + 1) next
goes_more names first all rest count plan now next s on =
    let grown : GrownState = grown_by_all now.network (growths_of plan) in
    let stage : Stage = stage_by plan s.turns in
    let alike = settle_alike now.network next.network plan s.turns on.sound on.lawful.0 s.stage s.out in
    let last : after_stage now.network stage next.network.world ≡ next.network = same_network next.network grown s.out in
    let ended : stage_end now.network stage ≡ next.network = end_is now.network stage next.network.world s.stage ∙ last in
    let end_alike = alike_all (flat_map growths_of rest) next.network grown alike (asks_end rest grown on.lawful.2) in
    record {
      before = on.before ++ plan ∷ [];
      whole = on.whole ∙ sym (append_assoc on.before (plan ∷ []) rest);
      stages = on.stages ++ stage ∷ [];
      counted = length-append on.stages (stage ∷ []) ∙ ap (λ (n : ℕ). n + 1) on.counted;
      ran = record {
        runs = subst (λ (n : GrownState). IsGrownRun first (on.stages ++ stage ∷ []) n) last (run_more on.stages first now.network stage next.network.world on.ran.runs s.stage);
        of_plans = record {
          growths = map_more (λ (st : Stage). st.growths) on.stages stage
              ∙ (ap (λ (l : List (List Growth)). l ++ growths_of plan ∷ []) on.ran.of_plans.growths ∙ sym (map_more growths_of on.before plan));
          batches = map_more (λ (st : Stage). st.batch) on.stages stage
              ∙ (ap (λ (l : List (List Turn)). l ++ batch_of plan ∷ []) on.ran.of_plans.batches ∙ sym (map_more batch_of on.before plan));
        };
        shift_limit = All-append (λ (st : Stage). KeepsShiftLimit st.turns) on.stages (stage ∷ []) on.ran.shift_limit
            (All-cons (λ (st : Stage). KeepsShiftLimit st.turns) stage [] s.shift_limit (All-nil (λ (st : Stage). KeepsShiftLimit st.turns)));
      };
      journal = s.journal ∙ (ap (λ (lines : List JournalLine). lines ++ lines_for s.turns) on.journal ∙ sym (journal_more on.stages stage));
      output = s.output
          ∙ (ap (λ (text : List ℕ). text ++ network_text names (count + 1) next.network) on.output
          ∙ (sym (texts_more (networks_after first on.stages) names 1 (count + 1) next.network
          (let many = count_networks on.stages first in let counted = on.counted in omega (arith, many, counted)))
          ∙ ap (λ (networks : List GrownState). networks_text names 1 networks) (sym (networks_more on.stages first now.network next.network stage on.ran.runs ended))));
      lawful = lawful_same rest next.network grown alike on.lawful.2;
      named = names_kept names (grown_at_end next.network rest).world (grown_at_end grown rest).world end_alike.shape
          (subst (λ (n : GrownState). NamesEnough names n.world) (end_after plan rest now.network) on.named);
      few = let same = alike.shape.boxes ∙ boxes_stay (growths_of plan) now.network in let few = on.few in omega (arith, same, few);
      sound = alike.new_sound;
    }

-- ---- by places

-- the next plan, and those after it
pub next_plan : (all : List StagePlan) (i : ℕ) (none : StagePlan) → i < length all → drop i all ≡ slice_index_or all i none ∷ drop (i + 1) all
next_plan all i none within = drop-cons all i none within ∙ ap (λ (n : ℕ). slice_index_or all i none ∷ drop n all) (sym (add-one i))

-- the plan at a place comes next
pub goes_at : (names : NameLists) (first : GrownState) (all : List StagePlan) (i : ℕ) (plan none : StagePlan) (now : ScriptState) → plan ≡ slice_index_or all i none
    → i < length all → GoesOn names first all (drop i all) i now → GoesOn names first all (plan ∷ drop (i + 1) all) i now
goes_at names first all i plan none now is within on =
    subst (λ (one : StagePlan). GoesOn names first all (one ∷ drop (i + 1) all) i now) (sym is)
    (subst (λ (left : List StagePlan). GoesOn names first all left i now) (next_plan all i none within) on)

-- ---- ends

pub came_to_end : (names : NameLists) (first : GrownState) (all : List StagePlan) (i : ℕ) (now : ScriptState) (run : ScriptRun) → length all ≤ i
    → run.journal.items ≡ now.journal → run.output.items ≡ now.output → GoesOn names first all (drop i all) i now → CameToEnd names first all run
came_to_end names first all i now run past journal output on =
    let none : drop i all ≡ [] = drop_all i all past in
    let whole : all ≡ on.before = on.whole ∙ (ap (λ (left : List StagePlan). on.before ++ left) none ∙ append-nil on.before) in
    record {
      stages = on.stages;
      last = now.network;
      ran = subst (λ (plans : List StagePlan). HasRun plans first on.stages now.network) (sym whole) on.ran;
      journal = journal ∙ on.journal;
      output = output ∙ on.output;
    }

pub stopped_within : (names : NameLists) (first : GrownState) (all rest : List StagePlan) (count : ℕ) (plan : StagePlan) (now : ScriptState) (run : ScriptRun)
    → Stopping names plan now run → GoesOn names first all (plan ∷ rest) count now → EndsAs names first all run
stopped_within names first all rest count plan now run s on =
    subst (λ (o : Option GrownStop). EndsBy names first all o run) (sym s.is) (record {
      before = on.before;
      plan = plan;
      later = rest;
      plans_are = on.whole;
      stages = on.stages;
      last = now.network;
      ran = on.ran;
      turns = s.turns;
      stops = s.stops;
      journal = s.journal ∙ ap (λ (lines : List JournalLine). lines ++ map Made s.turns) on.journal;
      output = s.output;
    })
