-- How a script of a network that grows ends.
use Rattle.std.proofs.Common.{◌≡◌, ◌⊎◌, ◌==◌, ◌≢◌, ◌≤◌, ℕ, List, [], length, map, Result, Option, Some, None, Ok, Err, IfOk, false, ap, arith, inl, inr, refl, subst, sym, eq-eqb, true≢false, ◌∙◌}
use Rattle.std.specs.declared.alloc.AllocError.{AllocError}
use Rattle.mc_box.specs.declared.event.Turn.{Turn}
use Rattle.mc_growth.specs.Growths.{GrownState, grown_by_all, grown_from}
use Rattle.mc_growth.specs.Outs.{AreOut}
use Rattle.mc_grown_script.specs.Printed.{stop_place}
use Rattle.mc_grown_script.specs.ScriptRuns.{CameToEnd, EndsAs, EndsBy}
use Rattle.mc_grown_script.specs.declared.stop.GrownStop.{GrownStop}
use Rattle.mc_grown_script.specs.declared.stop.GrownStop.TheVariants.{Cut, Settle}
use Rattle.mc_grown_script.specs.declared.stop.ScriptRun.{ScriptRun}
use Rattle.mc_lines.specs.declared.tail.Tail.TheVariants.{Grow}
use Rattle.mc_model.specs.Sound.{IsSound}
use Rattle.mc_model.specs.Worlds.{WorldState}
use Rattle.mc_net.specs.Nets.{DeclaresNet, NamesAll, batch_turns}
use Rattle.mc_net.specs.declared.net.Net.{Net}
use Rattle.mc_script.specs.declared.command.JournalLine.{JournalLine}
use Rattle.mc_seq.specs.declared.stopping.SettleStop.{SettleStop}
use Rattle.mc_seq.specs.declared.stopping.SettleStop.TheVariants.{Restless, Ring, VersionEnd}
use Rattle.mc_stage_plans.specs.PlanLaws.{ArePlanned, PlansAreFew, PlansAreNamed, PlansMayHappen}
use Rattle.mc_stage_plans.specs.Planned.{ArePlansOf}
use Rattle.mc_stages.specs.Plans.{growths_of}
use Rattle.mc_stages.specs.StageLaws.{SettlesHold}
use Rattle.mc_stages.specs.declared.plan.StagePlan.{StagePlan}
use Rattle.mc_tail.specs.Tails.{DeclaresTail}
use Rattle.mc_tail.specs.declared.item.Item.{Item}
use Rattle.mc_tail.specs.declared.tail.TailText.{TailText}
use Rattle.mc_text.specs.NameLists.{NameLists}
use Rattle.mc_top.specs.Growing.{EndsGrown, EndsGrownAs, IsGrowingFault, IsGrowingFaultOf, IsGrowingFaultOfTold, MayBeRun, PrintsGrownStop, RanPlans, RanStages, StopsGrown}
use Rattle.mc_call.specs.Printed.{fault_line}
use Rattle.mc_call.specs.Answers.{Refuses}
use Rattle.mc_call.specs.Reasons.{Told}
use Rattle.mc_top.specs.Statuses.{IsDueForGrowing, grown_due_by, grown_stop_status}
use Rattle.mc_call.specs.Statuses.{keeps_journal, stop_status}
use Rattle.mc_call.specs.Calls.{Delivers, IsTextOf}
use Rattle.mc_call.specs.declared.done.Done.{Done}
use Rattle.mc_call.proofs.Told.{keeps_same}
use Rattle.mc_script_end.proofs.Ending.{kept_zero}
use Rattle.mc_top.proofs.Ending.{gave_by}
use Rattle.mc_top.proofs.GrownTexts.{fault_told, planned_told}

-- ---- want of memory, and a fault in reading

-- nothing was written
pub grown_gave_up : (told old : Option (List ℕ)) (status due : ℕ) (journal : List JournalLine)
    → (due ≡ 3) ⊎ (due ≡ 4) → status ≡ due → journal ≡ [] → EndsGrown told old old status due journal
grown_gave_up told old status due journal either same none = record {
  dues = elim either [ inl three ↦ inr (inr (inl three)) | inr four ↦ inr (inr (inr (inl four))) ];
  worked = λ zero. absurd (grind (arith, either));
  refused = λ one. absurd (grind (arith, either));
  at_stop = λ stops. absurd (grind (arith, either, stops));
  gave_up = λ ended. (same, keeps_same old);
  no_journal = λ some. none;
}

-- words that are no command aren't told so
pub no_usage : (due : ℕ) → IsDueForGrowing due → due ≡ 2 → ⊥
no_usage due dues usage = grind (arith, dues)

-- ---- a faulty text

-- the line that names the first fault was delivered
pub grown_refused : (text : List ℕ) (number line : ℕ) (old new : Option (List ℕ)) (done : Done)
    → IsGrowingFault text number line → (done.due ≡ 1) ⊎ (done.due ≡ 3) → Refuses 1 (fault_line number line) old new done → EndsGrownAs (Some text) old new done
grown_refused text number line old new done fault dues refuses = record {
  dues = elim dues [ inl one ↦ inr (inl one) | inr three ↦ inr (inr (inl three)) ];
  worked = λ zero. absurd (grind (arith, dues, zero));
  refused = λ one. inl (record { number = number; line = line; fault = fault; delivered = refuses.delivered one; no_journal = refuses.no_journal });
  at_stop = λ stops. absurd (grind (arith, dues, stops));
  gave_up = λ ended. elim ended [ inl three ↦ gave_by old new done (refuses.gave_up three) | inr four ↦ absurd (grind (arith, dues, four)) ];
  no_journal = λ some. refuses.no_journal;
}

-- and it isn't that of a fault in reading
pub refused_past : (due : ℕ) → (due ≡ 1) ⊎ (due ≡ 3) → (due == 4) ≡ false
refused_past due (inl one) = ap (λ (n : ℕ). n == 4) one
refused_past due (inr three) = ap (λ (n : ℕ). n == 4) three

-- ---- a script that was run

-- the status of a stop keeps the journal
settle_keeps : (stop : SettleStop) (due : ℕ) → due ≡ stop_status stop → keeps_journal due ≡ false → ⊥
settle_keeps (VersionEnd at) due is some = let here : keeps_journal 1 ≡ false = subst (λ (n : ℕ). keeps_journal n ≡ false) is some in cc
settle_keeps (Restless at) due is some = let here : keeps_journal 6 ≡ false = subst (λ (n : ℕ). keeps_journal n ≡ false) is some in cc
settle_keeps (Ring at) due is some = let here : keeps_journal 7 ≡ false = subst (λ (n : ℕ). keeps_journal n ≡ false) is some in cc

stop_keeps : (stop : GrownStop) (due : ℕ) → due ≡ grown_stop_status stop → keeps_journal due ≡ false → ⊥
stop_keeps (Settle stop) due is some = settle_keeps stop due is some
stop_keeps (Cut at) due is some = let here : keeps_journal 10 ≡ false = subst (λ (n : ℕ). keeps_journal n ≡ false) is some in cc

-- which statuses those are
settle_by : (stop : SettleStop) (due : ℕ) → due ≡ stop_status stop → (due ≡ 1) ⊎ (due ≡ 6) ⊎ (due ≡ 7) ⊎ (due ≡ 10)
settle_by (VersionEnd at) due is = inl is
settle_by (Restless at) due is = inr (inl is)
settle_by (Ring at) due is = inr (inr (inl is))

stop_by : (stop : GrownStop) (due : ℕ) → due ≡ grown_stop_status stop → (due ≡ 1) ⊎ (due ≡ 6) ⊎ (due ≡ 7) ⊎ (due ≡ 10)
stop_by (Settle stop) due is = settle_by stop due is
stop_by (Cut at) due is = inr (inr (inr is))

dues_of : (due : ℕ) → (due ≡ 1) ⊎ (due ≡ 6) ⊎ (due ≡ 7) ⊎ (due ≡ 10)
    → (due ≡ 0) ⊎ (due ≡ 1) ⊎ (due ≡ 3) ⊎ (due ≡ 4) ⊎ (due ≡ 6) ⊎ (due ≡ 7) ⊎ (due ≡ 10)
dues_of due (inl one) = inr (inl one)
dues_of due (inr (inl six)) = inr (inr (inr (inr (inl six))))
dues_of due (inr (inr (inl seven))) = inr (inr (inr (inr (inr (inl seven)))))
dues_of due (inr (inr (inr ten))) = inr (inr (inr (inr (inr (inr ten)))))

-- it stopped
ends_stopped : (told old new : Option (List ℕ)) (stop : GrownStop) (status due : ℕ) (journal : List JournalLine)
    → due ≡ grown_stop_status stop → StopsGrown told old new status due journal → EndsGrown told old new status due journal
ends_stopped told old new stop status due journal is stops =
    let either : (due ≡ 1) ⊎ (due ≡ 6) ⊎ (due ≡ 7) ⊎ (due ≡ 10) = stop_by stop due is in
    record {
      dues = dues_of due either;
      worked = λ zero. absurd (grind (arith, either));
      refused = λ one. inr stops;
      at_stop = λ any. stops;
      gave_up = λ ended. absurd (grind (arith, either, ended));
      no_journal = λ some. absurd (stop_keeps stop due is some);
    }

-- the network and the lines after `grow` are those that the text declares
planned_of : (text : List ℕ) (net : Net) (tail : TailText) (run : ScriptRun) → DeclaresNet Grow text net → DeclaresTail text tail
    → (ran : RanPlans net tail run) → ArePlanned text net tail ran.plans
planned_of text net tail run declares says ran = record { declares = declares; grows = says; planned = ran.planned }

-- it came to its end
ends_came : (text : List ℕ) (net : Net) (tail : TailText) (run : ScriptRun) (old new : Option (List ℕ)) (status due : ℕ) (journal : List JournalLine)
    → SettlesHold → IsSound net.world → (ran : RanPlans net tail run) → ArePlanned text net tail ran.plans → CameToEnd tail.names (grown_from net.world) ran.plans run
    → due ≡ 0 → journal ≡ run.journal.items → Delivers status 0 old new run.output.items → EndsGrown (Some text) old new status due journal
ends_came text net tail run old new status due journal holds sound ran planned came is kept delivered = record {
  dues = inl is;
  worked = λ none. record {
    net = net;
    tail = tail;
    plans = ran.plans;
    run = run;
    planned = planned;
    sound = sound;
    came = came;
    holds = holds (grown_from net.world) came.last came.stages sound ran.out came.ran.runs;
    kept = kept;
    delivered = delivered;
  };
  refused = λ one. absurd (omega arith);
  at_stop = λ stops. absurd (grind (arith, stops));
  gave_up = λ ended. absurd (grind (arith, ended));
  no_journal = λ some. absurd (kept_zero due is some);
}

ended_by : (stop : Option GrownStop) (text : List ℕ) (net : Net) (tail : TailText) (run : ScriptRun) (old new : Option (List ℕ)) (status due : ℕ) (journal : List JournalLine)
    → SettlesHold → IsSound net.world → (ran : RanPlans net tail run) → ArePlanned text net tail ran.plans → EndsBy tail.names (grown_from net.world) ran.plans stop run
    → due ≡ grown_due_by stop → journal ≡ run.journal.items → Delivers status due old new run.output.items → EndsGrown (Some text) old new status due journal
ended_by None text net tail run old new status due journal holds sound ran planned came is kept delivered =
    ends_came text net tail run old new status due journal holds sound ran planned came is kept (subst (λ (n : ℕ). Delivers status n old new run.output.items) is delivered)
ended_by (Some stop) text net tail run old new status due journal holds sound ran planned stopped is kept delivered =
    ends_stopped (Some text) old new stop status due journal is (record {
      net = net;
      tail = tail;
      plans = ran.plans;
      run = run;
      stop = stop;
      planned = planned;
      sound = sound;
      due_is = is;
      stopped = stopped;
      kept = kept;
      delivered = delivered;
    })

-- it was run to its end, or to a stop
pub grown_ran : (text : List ℕ) (net : Net) (tail : TailText) (run : ScriptRun) (old new : Option (List ℕ)) (status due : ℕ) (journal : List JournalLine)
    → SettlesHold → IsSound net.world → DeclaresNet Grow text net → DeclaresTail text tail → RanPlans net tail run
    → due ≡ grown_due_by run.stop → journal ≡ run.journal.items → Delivers status due old new run.output.items → EndsGrown (Some text) old new status due journal
grown_ran text net tail run old new status due journal holds sound declares says ran is kept delivered =
    ended_by run.stop text net tail run old new status due journal holds sound ran (planned_of text net tail run declares says ran) ran.ended is kept delivered

-- its stages may be run
pub may_be_run : (text : List ℕ) (net : Net) (tail : TailText) → PlansMayHappen → PlansAreNamed → PlansAreFew → DeclaresNet Grow text net → DeclaresTail text tail
    → NamesAll net.names net.world → length net.names.boxes ≤ 256 → MayBeRun tail.names net.world (map batch_turns net.batches.items) tail.items.items
may_be_run text net tail may named few declares says all short = record {
  lawful = λ plans are. may text net tail plans (record { declares = declares; grows = says; planned = are });
  named = λ plans are. named text net tail plans (record { declares = declares; grows = says; planned = are });
  few = λ plans are. few text net tail plans (record { declares = declares; grows = says; planned = are });
  few_boxes = omega (arith, all.boxes);
}

-- they were run from a network of which nothing is out
pub ran_stages : (names : NameLists) (world : WorldState) (batches : List (List Turn)) (items : List Item) (network : GrownState) (plans given : List StagePlan) (result : Result ScriptRun AllocError)
    → network ≡ grown_from world → given ≡ plans → ArePlansOf batches items plans → AreOut network.world network.out → IfOk result (EndsAs names network given)
    → IfOk result (RanStages names world batches items)
ran_stages names world batches items network plans given (Err e) first same are out ended = tt
ran_stages names world batches items network plans given (Ok run) first same are out ended = record {
  plans = plans;
  planned = are;
  out = subst (λ (n : GrownState). AreOut n.world n.out) first out;
  ended = subst (λ (n : GrownState). EndsAs names n plans run) first (subst (λ (l : List StagePlan). EndsAs names network l run) same ended);
}

-- neither a fault in reading nor one in writing is due for it
pub never_read : (stop : Option GrownStop) (due : ℕ) → due ≡ grown_due_by stop → (due == 4) ≡ false
never_read None due is = ap (λ (n : ℕ). n == 4) is
never_read (Some (Settle (VersionEnd at))) due is = ap (λ (n : ℕ). n == 4) is
never_read (Some (Settle (Ring at))) due is = ap (λ (n : ℕ). n == 4) is
never_read (Some (Settle (Restless at))) due is = ap (λ (n : ℕ). n == 4) is
never_read (Some (Cut at)) due is = ap (λ (n : ℕ). n == 4) is

ne_by : (one other : ℕ) → (one == other) ≡ false → one ≡ other → ⊥
ne_by one other differs same = true≢false (sym (eq-eqb one other same) ∙ differs)

apart : (due status other : ℕ) → due ≡ status → (status == other) ≡ false → due ≡ other → ⊥
apart due status other is differs same = ne_by status other differs (sym is ∙ same)

pub never_unwritten : (stop : Option GrownStop) (due : ℕ) → due ≡ grown_due_by stop → due ≢ 5
never_unwritten None due is = apart due 0 5 is refl
never_unwritten (Some (Settle (VersionEnd at))) due is = apart due 1 5 is refl
never_unwritten (Some (Settle (Ring at))) due is = apart due 7 5 is refl
never_unwritten (Some (Settle (Restless at))) due is = apart due 6 5 is refl
never_unwritten (Some (Cut at)) due is = apart due 10 5 is refl

-- ---- what is told of it

-- what was printed for a stop has its word and a place
prints_by : (stop : Option GrownStop) (net : Net) (tail : TailText) (run : ScriptRun) (plans : List StagePlan) → EndsBy tail.names (grown_from net.world) plans stop run
    → PrintsGrownStop stop run.output.items
prints_by None net tail run plans came = tt
prints_by (Some stop) net tail run plans stopped = (stop_place tail.names (grown_by_all stopped.last (growths_of stopped.plan)).world stop, stopped.output)

pub prints_grown_stop : (net : Net) (tail : TailText) (run : ScriptRun) → RanPlans net tail run → PrintsGrownStop run.stop run.output.items
prints_grown_stop net tail run ran = prints_by run.stop net tail run ran.plans ran.ended

-- ---- the text that is told

-- the fault of what was read is told
pub told_grown : (told : Option (List ℕ)) (text : List ℕ) → IsTextOf Grow told text → (fault : Told) → IsGrowingFaultOf text fault → IsGrowingFaultOfTold told fault
told_grown None text read fault is = tt
told_grown (Some all) text read fault is = subst (λ (t : List ℕ). IsGrowingFaultOf t fault) read is

-- a script that stopped is that of what was left
stops_told : (told old new : Option (List ℕ)) (text : List ℕ) (status due : ℕ) (journal : List JournalLine)
    → IsTextOf Grow told text → StopsGrown (Some text) old new status due journal → StopsGrown told old new status due journal
stops_told told old new text status due journal read stops = record {
  net = stops.net;
  tail = stops.tail;
  plans = stops.plans;
  run = stops.run;
  stop = stops.stop;
  planned = planned_told told text stops.net stops.tail stops.plans read stops.planned;
  sound = stops.sound;
  due_is = stops.due_is;
  stopped = stops.stopped;
  kept = stops.kept;
  delivered = stops.delivered;
}

-- what was said of the text that was read holds of what was left
pub ends_grown_told : (told old new : Option (List ℕ)) (text : List ℕ) (status due : ℕ) (journal : List JournalLine)
    → IsTextOf Grow told text → EndsGrown (Some text) old new status due journal → EndsGrown told old new status due journal
ends_grown_told told old new text status due journal read ends = record {
  dues = ends.dues;
  worked = λ zero.
      let worked = ends.worked zero in
      record {
        net = worked.net;
        tail = worked.tail;
        plans = worked.plans;
        run = worked.run;
        planned = planned_told told text worked.net worked.tail worked.plans read worked.planned;
        sound = worked.sound;
        came = worked.came;
        holds = worked.holds;
        kept = worked.kept;
        delivered = worked.delivered;
      };
  refused = λ one. elim (ends.refused one) [
    | inl refused ↦ inl (record {
      number = refused.number;
      line = refused.line;
      fault = fault_told told text refused.number refused.line read refused.fault;
      delivered = refused.delivered;
      no_journal = refused.no_journal;
    })
    | inr stops ↦ inr (stops_told told old new text status due journal read stops)
  ];
  at_stop = λ any. stops_told told old new text status due journal read (ends.at_stop any);
  gave_up = ends.gave_up;
  no_journal = ends.no_journal;
}
