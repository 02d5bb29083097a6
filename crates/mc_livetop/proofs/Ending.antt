-- How a live run ends.
use Rattle.std.proofs.Common.{◌≡◌, ◌⊎◌, ◌∙◌, ◌<◌, ℕ, Bool, true, false, List, [], map, inl, inr, refl, sym, subst, arith, None, Some}
use Rattle.std.specs.declared.option.Option.{Option}
use Rattle.std.specs.Io.KnownBytes.{Keeps}
use Rattle.mc_call.proofs.Told.{keeps_same, told_declares, told_fault}
use Rattle.mc_call.specs.Answers.{Refuses}
use Rattle.mc_call.specs.Calls.{Delivers, GivesUp, IsTextOf, ToldDeclares, ToldFault}
use Rattle.mc_call.specs.Printed.{fault_line}
use Rattle.mc_call.specs.Reasons.{PrintsStop}
use Rattle.mc_call.specs.Statuses.{due_by, stop_status}
use Rattle.mc_call.specs.declared.done.Done.{Done}
use Rattle.mc_lines.specs.declared.tail.Tail.TheVariants.{Nothing}
use Rattle.mc_livetop.proofs.NeverStop.{never_shown}
use Rattle.mc_livetop.proofs.Shows.{stops_show}
use Rattle.mc_livetop.specs.Journals.{IsLiveJournal, IsLiveJournalTo, IsStoppedLive}
use Rattle.mc_livetop.specs.Printed.{live_output}
use Rattle.mc_livetop.specs.Statuses.{IsDueForLive, IsDueForText}
use Rattle.mc_livetop.specs.Texts.{CanRunLive}
use Rattle.mc_livetop.specs.Top.{EndsLive, StopsLiveScript}
use Rattle.mc_model.specs.Sound.{IsSound}
use Rattle.mc_model.specs.Worlds.{WorldState}
use Rattle.mc_net.proofs.Faults.{declares_or_faults}
use Rattle.mc_net.specs.Nets.{DeclaresNet, batch_turns}
use Rattle.mc_net.specs.Texts.{IsFault, Says}
use Rattle.mc_net.specs.declared.net.Net.{Net}
use Rattle.mc_replay.proofs.Holds.{journals_hold}
use Rattle.mc_script.specs.declared.command.JournalLine.{JournalLine}
use Rattle.mc_script_end.proofs.Ending.{kept_zero, stop_by, stop_keeps}
use Rattle.mc_seq.specs.declared.stopping.SettleStop.{SettleStop}
use Rattle.mc_seq.specs.declared.stopping.SettleStop.TheVariants.{Restless, Ring, VersionEnd}
use Rattle.mc_settle_text.specs.Stops.{stop_line, stop_place}
use Rattle.mc_text.specs.NameLists.{NameLists}

-- ---- a script that was run

-- after the line of a stop stands no journal
line_alone : (asked : Bool) (stop : SettleStop) (names : NameLists) (world : WorldState) (journal : List JournalLine) → live_output asked names world (Some stop) journal ≡ stop_line names world stop
line_alone true stop names world journal = refl
line_alone false stop names world journal = refl

-- what was printed for a stop has its word and a place
pub prints_stop : (asked : Bool) (names : NameLists) (world : WorldState) (stop : Option SettleStop) (journal : List JournalLine) (output : List ℕ) → output ≡ live_output asked names world stop journal → PrintsStop stop output
prints_stop asked names world None journal output is = tt
prints_stop asked names world (Some stop) journal output is = (stop_place names world stop, is ∙ line_alone asked stop names world journal)

-- it came to its end
ends_worked : (operators : ℕ) (asked : Bool) (text : List ℕ) (net : Net) (old new : Option (List ℕ)) (done : Done) (output : List ℕ)
    → DeclaresNet Nothing text net → IsSound net.world → IsLiveJournal operators net.world (map batch_turns net.batches.items) done.journal.items → output ≡ live_output asked net.names net.world None done.journal.items → done.due ≡ 0
    → Delivers done.status 0 old new output → EndsLive operators asked (Some text) old new done
ends_worked operators asked text net old new done output declares sound settled is zero delivered = record {
  worked = λ due. record {
    net = net;
    declared = declares;
    sound = sound;
    settled = settled;
    holds = journals_hold net.world settled.orders done.journal.items sound settled.settled;
    delivered = subst (Delivers done.status 0 old new) is delivered;
  };
  refused = λ one. absurd (grind (arith, zero, one));
  at_stop = λ either. absurd (grind (arith, zero, either));
  gave_up = λ ended. absurd (grind (arith, zero, ended));
  no_journal = λ some. absurd (kept_zero done.due zero some);
}

-- or it stopped
stops_script : (operators : ℕ) (asked : Bool) (text : List ℕ) (net : Net) (stop : SettleStop) (old new : Option (List ℕ)) (done : Done) (output : List ℕ) → 0 < operators
    → DeclaresNet Nothing text net → IsSound net.world → IsStoppedLive operators stop net.world (map batch_turns net.batches.items) done.journal.items → output ≡ live_output asked net.names net.world (Some stop) done.journal.items
    → done.due ≡ stop_status stop → Delivers done.status (stop_status stop) old new output → StopsLiveScript operators (Some text) old new done.status done.due done.journal.items
stops_script operators asked text net stop old new done output some declares sound stopped is due_is delivered = record {
  net = net;
  stop = stop;
  declared = declares;
  due_is = due_is;
  sound = sound;
  settled = stopped;
  shows = stops_show operators stop (map batch_turns net.batches.items) net.world done.journal.items some sound stopped;
  delivered = subst (λ (n : ℕ). Delivers done.status n old new (stop_line net.names net.world stop)) (sym due_is)
      (subst (Delivers done.status (stop_status stop) old new) (is ∙ line_alone asked stop net.names net.world done.journal.items) delivered);
}

ends_at_stop : (operators : ℕ) (asked : Bool) (told old new : Option (List ℕ)) (stop : SettleStop) (done : Done) → done.due ≡ stop_status stop
    → StopsLiveScript operators told old new done.status done.due done.journal.items → EndsLive operators asked told old new done
ends_at_stop operators asked told old new stop done is stops =
    let either : (done.due ≡ 1) ⊎ (done.due ≡ 6) ⊎ (done.due ≡ 7) = stop_by stop done.due is in
    record {
      worked = λ zero. absurd (grind (arith, either, zero));
      refused = λ one. inr stops;
      at_stop = λ ended. stops;
      gave_up = λ ended. absurd (grind (arith, either, ended));
      no_journal = λ some. absurd (stop_keeps stop done.due is some);
    }

ends_by : (stop : Option SettleStop) (operators : ℕ) (asked : Bool) (text : List ℕ) (net : Net) (old new : Option (List ℕ)) (done : Done) (output : List ℕ) → 0 < operators
    → DeclaresNet Nothing text net → IsSound net.world → IsLiveJournalTo operators stop net.world (map batch_turns net.batches.items) done.journal.items → output ≡ live_output asked net.names net.world stop done.journal.items
    → done.due ≡ due_by stop → Delivers done.status (due_by stop) old new output → EndsLive operators asked (Some text) old new done
ends_by None operators asked text net old new done output some declares sound ran is due_is delivered = ends_worked operators asked text net old new done output declares sound ran is due_is delivered
ends_by (Some stop) operators asked text net old new done output some declares sound ran is due_is delivered =
    ends_at_stop operators asked (Some text) old new stop done due_is (stops_script operators asked text net stop old new done output some declares sound ran is due_is delivered)

-- and its journal was kept
pub ends_ran : (stop : Option SettleStop) (operators : ℕ) (asked : Bool) (text : List ℕ) (net : Net) (old new : Option (List ℕ)) (done : Done) (journal : List JournalLine) (output : List ℕ) → 0 < operators
    → DeclaresNet Nothing text net → IsSound net.world → IsLiveJournalTo operators stop net.world (map batch_turns net.batches.items) journal → output ≡ live_output asked net.names net.world stop journal
    → done.journal.items ≡ journal → done.due ≡ due_by stop → Delivers done.status (due_by stop) old new output → EndsLive operators asked (Some text) old new done
ends_ran stop operators asked text net old new done journal output some declares sound ran is kept due_is delivered =
    ends_by stop operators asked text net old new done output some declares sound
    (subst (λ (lines : List JournalLine). IsLiveJournalTo operators stop net.world (map batch_turns net.batches.items) lines) (sym kept) ran)
    (subst (λ (lines : List JournalLine). output ≡ live_output asked net.names net.world stop lines) (sym kept) is) due_is delivered

-- ---- statuses

-- that of a script may be due for a text
pub due_for_text : (stop : Option SettleStop) (due : ℕ) → due ≡ due_by stop → IsDueForText due
due_for_text None due is = inl is
due_for_text (Some (VersionEnd at)) due is = inr (inl is)
due_for_text (Some (Restless at)) due is = inr (inr (inr (inl is)))
due_for_text (Some (Ring at)) due is = inr (inr (inr (inr is)))

-- and so is that of a refusal
pub refused_due : (due : ℕ) → (due ≡ 1) ⊎ (due ≡ 3) → IsDueForText due
refused_due due (inl one) = inr (inl one)
refused_due due (inr three) = inr (inr (inl three))

-- ---- a call that gave up

-- a refusal that lacked memory wrote nothing
gave_by : (old new : Option (List ℕ)) (done : Done) → GivesUp old new done → (done.status ≡ done.due) × Keeps old new
gave_by old new done (three, status, kept) = (status ∙ sym three, kept)

-- memory was wanting, or the source failed
pub ends_gave_up : (operators : ℕ) (asked : Bool) (told at : Option (List ℕ)) (status : ℕ) (done : Done) → (status ≡ 3) ⊎ (status ≡ 4) → done.status ≡ status → done.due ≡ status → done.journal.items ≡ [] → EndsLive operators asked told at at done
ends_gave_up operators asked told at status done either stands due none = record {
  worked = λ zero. absurd (grind (arith, either, due, zero));
  refused = λ one. absurd (grind (arith, either, due, one));
  at_stop = λ stop. absurd (grind (arith, either, due, stop));
  gave_up = λ ended. (stands ∙ sym due, keeps_same at);
  no_journal = λ some. none;
}

-- ---- a refusal

pub ends_refused : (operators : ℕ) (asked : Bool) (text : List ℕ) (number line : ℕ) (old new : Option (List ℕ)) (done : Done)
    → IsFault Nothing text number line → (done.due ≡ 1) ⊎ (done.due ≡ 3) → Refuses 1 (fault_line number line) old new done → EndsLive operators asked (Some text) old new done
ends_refused operators asked text number line old new done fault dues refuses = record {
  worked = λ zero. absurd (grind (arith, dues, zero));
  refused = λ one. inl (record { number = number; line = line; fault = fault; delivered = refuses.delivered one; no_journal = refuses.no_journal });
  at_stop = λ either. absurd (grind (arith, dues, either));
  gave_up = λ ended. elim ended [ inl three ↦ gave_by old new done (refuses.gave_up three) | inr four ↦ absurd (grind (arith, dues, four)) ];
  no_journal = λ some. refuses.no_journal;
}

-- ---- what was read of what a source has left

stops_told : (operators : ℕ) (told old new : Option (List ℕ)) (text : List ℕ) (status due : ℕ) (journal : List JournalLine) → IsTextOf Nothing told text
    → StopsLiveScript operators (Some text) old new status due journal → StopsLiveScript operators told old new status due journal
stops_told operators told old new text status due journal read stops = record {
  net = stops.net;
  stop = stops.stop;
  declared = told_declares Nothing told text stops.net read stops.declared;
  due_is = stops.due_is;
  sound = stops.sound;
  settled = stops.settled;
  shows = stops.shows;
  delivered = stops.delivered;
}

-- what was said of the text that was read holds of what was left
pub ends_told : (operators : ℕ) (asked : Bool) (told old new : Option (List ℕ)) (text : List ℕ) (done : Done) → IsTextOf Nothing told text → EndsLive operators asked (Some text) old new done → EndsLive operators asked told old new done
ends_told operators asked told old new text done read ends = record {
  worked = λ zero.
      let worked = ends.worked zero in
      record {
        net = worked.net;
        declared = told_declares Nothing told text worked.net read worked.declared;
        sound = worked.sound;
        settled = worked.settled;
        holds = worked.holds;
        delivered = worked.delivered;
      };
  refused = λ one. elim (ends.refused one) [
    | inl refused ↦ inl (record {
      number = refused.number;
      line = refused.line;
      fault = told_fault Nothing told text refused.number refused.line read refused.fault;
      delivered = refused.delivered;
      no_journal = refused.no_journal;
    })
    | inr stops ↦ inr (stops_told operators told old new text done.status done.due done.journal.items read stops)
  ];
  at_stop = λ either. stops_told operators told old new text done.status done.due done.journal.items read (ends.at_stop either);
  gave_up = ends.gave_up;
  no_journal = ends.no_journal;
}

-- ---- texts that can be run live

-- such a text has no fault
fault_runs : (operators : ℕ) (told : Option (List ℕ)) (text : List ℕ) (number line : ℕ) → ToldFault Nothing told number line → told ≡ Some text → CanRunLive operators text → ⊥
fault_runs operators None text number line fault is can = cc
fault_runs operators (Some all) text number line fault is can =
    let same : text ≡ all = cc in
    declares_or_faults Nothing all can.0 number line (subst (λ (t : List ℕ). Says Nothing t can.0) same can.1) fault

-- nor does its script stop
stop_runs : (operators : ℕ) (told old new : Option (List ℕ)) (text : List ℕ) (status due : ℕ) (journal : List JournalLine) → StopsLiveScript operators told old new status due journal → told ≡ Some text → CanRunLive operators text → ⊥
stop_runs operators told old new text status due journal stops is can =
    never_shown operators stops.stop text stops.net can (subst (λ (t : Option (List ℕ)). ToldDeclares Nothing t stops.net) is stops.declared) stops.shows

-- so it is run, but for want of memory
pub completes : (operators : ℕ) (asked : Bool) (told old new : Option (List ℕ)) (text : List ℕ) (done : Done) → IsDueForLive done.due → (done.status ≡ done.due) ⊎ (done.status ≡ 5) → EndsLive operators asked told old new done
    → told ≡ Some text → CanRunLive operators text → (done.due ≡ 4 → ⊥) → (done.status ≡ 5 → ⊥) → (done.status ≡ 0) ⊎ (done.status ≡ 3)
completes operators asked told old new text done dues stands ends is can no_read no_write =
    by dues (elim stands [ inl same ↦ same | inr five ↦ absurd (no_write five) ])
  where
    never : StopsLiveScript operators told old new done.status done.due done.journal.items → ⊥
    never stops = stop_runs operators told old new text done.status done.due done.journal.items stops is can

    by : IsDueForLive done.due → done.status ≡ done.due → (done.status ≡ 0) ⊎ (done.status ≡ 3)
    by (inl (inl zero)) same = inl (same ∙ zero)
    by (inl (inr (inl one))) same = elim (ends.refused one) [
      | inl refused ↦ absurd (fault_runs operators told text refused.number refused.line refused.fault is can)
      | inr stops ↦ absurd (never stops)
    ]
    by (inl (inr (inr (inl three)))) same = inr (same ∙ three)
    by (inl (inr (inr (inr (inl six))))) same = absurd (never (ends.at_stop (inl six)))
    by (inl (inr (inr (inr (inr seven))))) same = absurd (never (ends.at_stop (inr seven)))
    by (inr four) same = absurd (no_read four)
