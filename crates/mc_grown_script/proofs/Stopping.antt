-- What comes of a stage: it is settled, or it stops, and the line of the stop is that of its slot's place.
use Rattle.std.proofs.Common.{◌≡◌, ◌++◌, ◌∷◌, [], ℕ, List, map, refl, ap, ◌∙◌, subst}
use Rattle.mc_box.specs.declared.event.Turn.{Turn}
use Rattle.mc_growth.specs.Growths.{GrownState, MayGrowAll, grown_by_all}
use Rattle.mc_stages.specs.Plans.{batch_of, growths_of}
use Rattle.mc_grown_script.specs.Printed.{network_text, stop_line, stop_word}
use Rattle.mc_grown_script.specs.Progress.{CameOf, CameOfBatch, EndsAt, EndsByFault, Settling, Staging, StopsBatch, Stopping, box_line, slot_line}
use Rattle.mc_grown_script.specs.Scripts.{ScriptState}
use Rattle.mc_grown_script.specs.ScriptRuns.{StopsSettle}
use Rattle.mc_stages.specs.StageRuns.{IsCutShort}
use Rattle.mc_stages.specs.declared.plan.StagePlan.{StagePlan}
use Rattle.mc_grown_script.specs.declared.script.StageOutcome.{StageOutcome}
use Rattle.mc_grown_script.specs.declared.script.StageOutcome.TheVariants.{Settled, Stopped as HasStopped}
use Rattle.mc_grown_script.specs.declared.stop.GrownStop.TheVariants.{Cut, Settle}
use Rattle.mc_grown_script.specs.declared.stop.ScriptRun.{ScriptRun}
use Rattle.mc_growth.specs.Outs.{SetNoneOut}
use Rattle.mc_model.specs.Settles.{IsSettled}
use Rattle.mc_model.specs.Worlds.{WorldState, place}
use Rattle.mc_replay.specs.Journals.{lines_for}
use Rattle.mc_rounds.specs.Stops.{Stops}
use Rattle.mc_script.specs.declared.command.JournalLine.{JournalLine}
use Rattle.mc_script.specs.declared.command.JournalLine.TheVariants.{Turn as Made}
use Rattle.mc_seq.specs.declared.fault.SettleFault.{SettleFault}
use Rattle.mc_seq.specs.declared.fault.SettleFault.TheVariants.{NoMemory, Restless as NeverRests, Ring as AtRing, VersionEnd as EndsVersion}
use Rattle.mc_seq.specs.declared.stopping.SettleStop.{SettleStop}
use Rattle.mc_seq.specs.declared.stopping.SettleStop.TheVariants.{Restless, Ring, VersionEnd}
use Rattle.mc_settle_text.specs.Words.{place_word}
use Rattle.mc_table.specs.Words.{line_of}
use Rattle.mc_text.specs.NameLists.{NameLists, slot_word}

-- the line of a stop, by the slot's place
line_at : (names : NameLists) (world : WorldState) (word : List ℕ) (s : ℕ) (at : ℕ × ℕ) → at ≡ place world s
    → line_of (word ∷ slot_word names at.0 at.1 ∷ []) ≡ line_of (word ∷ place_word names world s ∷ [])
line_at names world word s at there = ap (λ (p : ℕ × ℕ). line_of (word ∷ slot_word names p.0 p.1 ∷ [])) there

-- ---- a settle that stops

by_end : (names : NameLists) (batch : List Turn) (old : ScriptState) (stop : SettleStop) (line : List ℕ) (turns : List Turn) (run : ScriptRun)
    → StopsSettle old.network.world batch stop turns → line ≡ stop_line names old.network.world (Settle stop) → EndsAt (Settle stop) line turns old.journal run → StopsBatch names batch old run
by_end names batch old stop line turns run stops is ends = record {
  turns = turns;
  stop = stop;
  stops = stops;
  journal = ends.journal;
  output = ends.output ∙ is;
  is = ends.is;
}

pub stops_by : (fault : SettleFault) (names : NameLists) (batch : List Turn) (old : ScriptState) (run : ScriptRun) → Stops old.network.world batch fault
    → EndsByFault names old.journal fault run → StopsBatch names batch old run
stops_by (EndsVersion stop) names batch old run stops ends =
    by_end names batch old (VersionEnd stop.at) (slot_line names (Settle (VersionEnd stop.at)) stop.place) stop.turns.items run stops.0
    (line_at names old.network.world (stop_word (Settle (VersionEnd stop.at))) stop.at stop.place stops.1) ends
stops_by (AtRing stop) names batch old run stops ends =
    by_end names batch old (Ring stop.at) (slot_line names (Settle (Ring stop.at)) stop.place) stop.turns.items run stops.0
    (line_at names old.network.world (stop_word (Settle (Ring stop.at))) stop.at stop.place stops.1) ends
stops_by (NeverRests stop) names batch old run stops ends =
    by_end names batch old (Restless stop.at) (box_line names (Settle (Restless stop.at)) stop.at) stop.turns.items run stops refl ends
stops_by (NoMemory e) names batch old run stops ends = absurd ends

-- ---- a stage

-- it stops at its settle
stopped_at_settle : (names : NameLists) (plan : StagePlan) (old mid : ScriptState) (run : ScriptRun) → MayGrowAll old.network (growths_of plan)
    → mid.network ≡ grown_by_all old.network (growths_of plan) → mid.journal ≡ old.journal → StopsBatch names (batch_of plan) mid run → Stopping names plan old run
stopped_at_settle names plan old mid run may grown journal s = record {
  turns = s.turns;
  stop = Settle s.stop;
  stops = (may, subst (λ (n : GrownState). StopsSettle n.world (batch_of plan) s.stop s.turns) grown s.stops);
  journal = s.journal ∙ ap (λ (lines : List JournalLine). lines ++ map Made s.turns) journal;
  output = s.output ∙ ap (λ (n : GrownState). stop_line names n.world (Settle s.stop)) grown;
  is = s.is;
}

settled_stage : (names : NameLists) (number : ℕ) (plan : StagePlan) (old mid next : ScriptState) → MayGrowAll old.network (growths_of plan)
    → SetNoneOut (grown_by_all old.network (growths_of plan)).world (grown_by_all old.network (growths_of plan)).out (batch_of plan)
    → mid.network ≡ grown_by_all old.network (growths_of plan) → mid.journal ≡ old.journal → mid.output ≡ old.output
    → Settling names number (batch_of plan) mid next → Staging names number plan old next
settled_stage names number plan old mid next may none grown journal output s = record {
  turns = s.turns;
  stage = record { grows = may; commands = none; settles = subst (λ (n : GrownState). IsSettled n.world (batch_of plan) s.turns next.network.world) grown s.settled };
  out = s.out ∙ ap (λ (n : GrownState). n.out) grown;
  shift_limit = s.shift_limit;
  journal = s.journal ∙ ap (λ (lines : List JournalLine). lines ++ lines_for s.turns) journal;
  output = s.output ∙ ap (λ (text : List ℕ). text ++ network_text names number next.network) output;
}

-- whichever comes of the batch
pub came_of : (outcome : StageOutcome) (names : NameLists) (number : ℕ) (plan : StagePlan) (old mid : ScriptState) → MayGrowAll old.network (growths_of plan)
    → SetNoneOut (grown_by_all old.network (growths_of plan)).world (grown_by_all old.network (growths_of plan)).out (batch_of plan)
    → mid.network ≡ grown_by_all old.network (growths_of plan) → mid.journal ≡ old.journal → mid.output ≡ old.output
    → CameOfBatch names number (batch_of plan) mid outcome → CameOf names number plan old outcome
came_of (Settled next) names number plan old mid may none grown journal output came = settled_stage names number plan old mid next may none grown journal output came
came_of (HasStopped run) names number plan old mid may none grown journal output came = stopped_at_settle names plan old mid run may grown journal came

-- it stops at a cut
pub stopped_at_cut : (names : NameLists) (plan : StagePlan) (old : ScriptState) (at : ℕ) (there : ℕ × ℕ) (line : List ℕ) (run : ScriptRun)
    → IsCutShort old.network (growths_of plan) at → there ≡ place (grown_by_all old.network (growths_of plan)).world at
    → line ≡ slot_line names (Cut at) there → EndsAt (Cut at) line [] old.journal run → Stopping names plan old run
stopped_at_cut names plan old at there line run short is text ends = record {
  turns = [];
  stop = Cut at;
  stops = (short, refl);
  journal = ends.journal;
  output = ends.output ∙ (text ∙ line_at names (grown_by_all old.network (growths_of plan)).world (stop_word (Cut at)) at there is);
  is = ends.is;
}
