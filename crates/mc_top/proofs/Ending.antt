-- How a run ends.
use Rattle.std.proofs.Common.{◌≡◌, ◌⊎◌, ◌∙◌, ◌<◌, length, ℕ, Bool, true, false, List, [], map, inl, inr, refl, ap, sym, subst, arith, None, Some}
use Rattle.std.specs.declared.option.Option.{Option}
use Rattle.std.specs.Io.KnownBytes.{Keeps}
use Rattle.mc_replay.specs.Journals.{HoldsAtSettles, IsJournal}
use Rattle.mc_replay.specs.Segments.{EachKeepsShiftLimit}
use Rattle.mc_script_end.specs.Journals.{IsJournalTo, IsStoppedJournal, ShowsCause}
use Rattle.mc_top.specs.Drawn.{FollowsDraws}
use Rattle.mc_program_lines.proofs.Found.{found_within}
use Rattle.mc_text.specs.NameLists.{place_of, NameLists}
use Rattle.std.specs.Option.{unwrap_or}
use Rattle.mc_top.specs.Shown.{HasNamedBox}
use Rattle.mc_words.specs.Commands.{bytes_of, name_for, prints_journal}
use Rattle.mc_top.specs.Modes.{checks, draws_from, has_box, is_feature_at, output_of, report_of, tail_of}
use Rattle.mc_model.specs.Sound.{IsSound}
use Rattle.mc_model.specs.Worlds.{WorldState}
use Rattle.mc_net.specs.Nets.{DeclaresNet, batch_turns}
use Rattle.mc_net.specs.Texts.{IsFault}
use Rattle.mc_lines.specs.declared.tail.Tail.{Tail}
use Rattle.mc_lines.specs.declared.tail.Tail.TheVariants.{Nothing, Journal}
use Rattle.mc_net.specs.declared.net.Net.{Net}
use Rattle.mc_replay.proofs.Holds.{journals_hold}
use Rattle.mc_call.specs.Behind.{HasJournal, HasJournalFault}
use Rattle.mc_script_end.specs.Printed.{with_journal}
use Rattle.mc_top.specs.Printed.{checked_text, run_text, script_text}
use Rattle.mc_call.specs.Printed.{fault_line, journal_fault_line, no_box_line}
use Rattle.mc_settle_text.specs.Stops.{stop_line}
use Rattle.mc_top.specs.Statuses.{IsDueForMode, IsDueForText}
use Rattle.mc_call.specs.Statuses.{due_by, stop_status}
use Rattle.mc_call.specs.Answers.{Refuses}
use Rattle.mc_call.specs.Calls.{Delivers, GivesUp}
use Rattle.mc_call.specs.declared.done.Done.{Done}
use Rattle.mc_call.proofs.Told.{keeps_same}
use Rattle.mc_top.specs.Top.{Ends, EndsAs, StopsScript, ToldJournal}
use Rattle.mc_script.specs.declared.command.JournalLine.{JournalLine}
use Rattle.mc_top.specs.declared.report.Report.{Report}
use Rattle.mc_seq.specs.declared.stopping.SettleStop.{SettleStop}
use Rattle.mc_seq.specs.declared.stopping.SettleStop.TheVariants.{Restless, Ring, VersionEnd}
use Rattle.mc_words.specs.declared.words.Mode.{Mode}
use Rattle.mc_words.specs.declared.words.Mode.TheVariants.{Check, Conf, Gen, One, Run, Scene}
use Rattle.mc_script_end.proofs.Ending.{kept_zero, stop_by, stop_keeps}

-- what a mode prints is what its run prints
printed_by : (mode : Mode) (net : Net) (journal : List JournalLine) → checks mode ≡ false → run_text (report_of mode net.names) (prints_journal mode) net.names net.world None journal ≡ output_of mode net journal
printed_by (Run asked) net journal runs = refl
printed_by (One state asked) net journal runs = refl
printed_by (Check why) net journal runs = absurd (cc)
printed_by (Gen number size) net journal runs = refl
printed_by (Scene scene) net journal runs = refl
printed_by (Conf name) net journal runs = refl

-- a mode that runs a script reads a text after whose commands nothing stands
runs_reads : (mode : Mode) → checks mode ≡ false → tail_of mode ≡ Nothing
runs_reads (Run asked) runs = refl
runs_reads (One state asked) runs = refl
runs_reads (Check why) runs = absurd (cc)
runs_reads (Gen number size) runs = refl
runs_reads (Scene scene) runs = refl
runs_reads (Conf name) runs = refl

-- after the line of a stop stands no journal
stopped_by : (report : Report) (asked : Bool) (stop : SettleStop) (names : NameLists) (world : WorldState) (journal : List JournalLine) → run_text report asked names world (Some stop) journal ≡ stop_line names world stop
stopped_by report true stop names world journal = refl
stopped_by report false stop names world journal = refl

-- the work was done, and what it printed was delivered
ends_worked : (mode : Mode) (text : List ℕ) (net : Net) (old new : Option (List ℕ)) (status due : ℕ) (journal : List JournalLine) (output : List ℕ)
    → checks mode ≡ false → DeclaresNet (tail_of mode) text net → has_box mode net.names net.world ≡ true → IsSound net.world → IsJournal net.world (map batch_turns net.batches.items) journal → FollowsDraws (draws_from mode) None net.world (map batch_turns net.batches.items) journal
    → HoldsAtSettles net.world journal → EachKeepsShiftLimit journal → output ≡ run_text (report_of mode net.names) (prints_journal mode) net.names net.world None journal → due ≡ 0 → Delivers status 0 old new output → Ends mode (Some text) old new status due journal
ends_worked mode text net old new status due journal output runs declared boxed sound settled drawn holds limit is none delivered = record {
  worked = λ zero. record {
    net = net;
    declared = declared;
    box = boxed;
    told_journal = subst (λ (t : Tail). ToldJournal t (Some text) net journal) (sym (runs_reads mode runs)) tt;
    settles = record { sound = sound; settled = settled; holds = holds; drawn = drawn };
    shift_limit = λ runs. limit;
    delivered = rw (is, printed_by mode net journal) at delivered;
  };
  refused = λ one. absurd (omega arith);
  at_stop = λ either. absurd (grind (arith, either));
  check_refused = λ eight. absurd (omega arith);
  no_box = λ nine. absurd (omega arith);
  gave_up = λ ended. elim ended [ inl three ↦ absurd (omega arith) | inr four ↦ absurd (omega arith) ];
  no_journal = λ some. absurd (kept_zero due none some);
}

-- or the script stopped, and the line of the stop was
stops_script : (mode : Mode) (text : List ℕ) (net : Net) (stop : SettleStop) (old new : Option (List ℕ)) (status due : ℕ) (journal : List JournalLine) (output : List ℕ)
    → checks mode ≡ false → DeclaresNet (tail_of mode) text net → has_box mode net.names net.world ≡ true → IsSound net.world → IsStoppedJournal stop net.world (map batch_turns net.batches.items) journal → FollowsDraws (draws_from mode) (Some stop) net.world (map batch_turns net.batches.items) journal
    → ShowsCause (Some stop) net.world (map batch_turns net.batches.items) → EachKeepsShiftLimit journal → output ≡ stop_line net.names net.world stop → due ≡ stop_status stop → Delivers status (stop_status stop) old new output
    → StopsScript mode (Some text) old new status due journal
stops_script mode text net stop old new status due journal output runs declared boxed sound settled drawn shows limit is due_is delivered = record {
  net = net;
  stop = stop;
  runs = runs;
  declared = declared;
  box = boxed;
  due_is = due_is;
  sound = sound;
  settled = settled;
  shift_limit = limit;
  drawn = drawn;
  shows = shows;
  delivered = subst (λ (n : ℕ). Delivers status n old new (stop_line net.names net.world stop)) (sym due_is) (rw is at delivered);
}

ends_at_stop : (mode : Mode) (text : List ℕ) (stop : SettleStop) (old new : Option (List ℕ)) (status due : ℕ) (journal : List JournalLine) → due ≡ stop_status stop
    → StopsScript mode (Some text) old new status due journal → Ends mode (Some text) old new status due journal
ends_at_stop mode text stop old new status due journal is stops =
    let either : (due ≡ 1) ⊎ (due ≡ 6) ⊎ (due ≡ 7) = stop_by stop due is in
    record {
      worked = λ zero. absurd (grind (arith, either));
      refused = λ one. inr stops;
      at_stop = λ either. stops;
      check_refused = λ eight. absurd (grind (arith, either));
      no_box = λ nine. absurd (grind (arith, either));
      gave_up = λ ended. absurd (grind (arith, either, ended));
      no_journal = λ some. absurd (stop_keeps stop due is some);
    }

-- what a run printed, by what its mode reports and whether it asks for the journal
pub run_is : (mode : Mode) (report : Report) (asked : Bool) (stop : Option SettleStop) (names : NameLists) (world : WorldState) (journal : List JournalLine) (text whole : List ℕ)
    → report ≡ report_of mode names → asked ≡ prints_journal mode → text ≡ script_text report names world stop journal → whole ≡ with_journal asked stop names journal text
    → whole ≡ run_text (report_of mode names) (prints_journal mode) names world stop journal
run_is mode report asked stop names world journal text whole reported flag is printed =
    printed
    ∙ (ap (λ (b : Bool). with_journal b stop names journal text) flag
    ∙ ap (λ (t : List ℕ). with_journal (prints_journal mode) stop names journal t) (is ∙ ap (λ (r : Report). script_text r names world stop journal) reported))

-- the status of a script may be due for a text
pub due_for_text : (stop : Option SettleStop) (due : ℕ) → due ≡ due_by stop → IsDueForText due
due_for_text None due is = inl is
due_for_text (Some (VersionEnd at)) due is = inr (inl is)
due_for_text (Some (Restless at)) due is = inr (inr (inr (inl is)))
due_for_text (Some (Ring at)) due is = inr (inr (inr (inr (inl is))))

-- a script was run to its end, or to a stop
pub ends_ran : (stop : Option SettleStop) (mode : Mode) (text : List ℕ) (net : Net) (old new : Option (List ℕ)) (status due : ℕ) (journal : List JournalLine) (output : List ℕ)
    → checks mode ≡ false → DeclaresNet (tail_of mode) text net → has_box mode net.names net.world ≡ true → IsSound net.world → IsJournalTo stop net.world (map batch_turns net.batches.items) journal → FollowsDraws (draws_from mode) stop net.world (map batch_turns net.batches.items) journal
    → HoldsAtSettles net.world journal → ShowsCause stop net.world (map batch_turns net.batches.items) → EachKeepsShiftLimit journal
    → output ≡ run_text (report_of mode net.names) (prints_journal mode) net.names net.world stop journal → due ≡ due_by stop → Delivers status (due_by stop) old new output → Ends mode (Some text) old new status due journal
ends_ran None mode text net old new status due journal output runs declared boxed sound ran drawn holds shows limit is due_is delivered =
    ends_worked mode text net old new status due journal output runs declared boxed sound ran drawn holds limit is due_is delivered
ends_ran (Some stop) mode text net old new status due journal output runs declared boxed sound ran drawn holds shows limit is due_is delivered =
    ends_at_stop mode text stop old new status due journal due_is
    (stops_script mode text net stop old new status due journal output runs declared boxed sound ran drawn shows limit (is ∙ stopped_by (report_of mode net.names) (prints_journal mode) stop net.names net.world journal) due_is delivered)

-- memory ran out, and nothing was written
pub ends_gave_up : (mode : Mode) (text : List ℕ) (old : Option (List ℕ)) (status due : ℕ) (journal : List JournalLine)
    → status ≡ 3 → due ≡ 3 → journal ≡ [] → Ends mode (Some text) old old status due journal
ends_gave_up mode text old status due journal three due_three none = record {
  worked = λ zero. absurd (omega arith);
  refused = λ one. absurd (omega arith);
  at_stop = λ either. absurd (grind (arith, either));
  check_refused = λ eight. absurd (omega arith);
  no_box = λ nine. absurd (omega arith);
  gave_up = λ ended. (omega arith, keeps_same old);
  no_journal = λ some. none;
}

-- a refusal that lacked memory wrote nothing
pub gave_by : (old new : Option (List ℕ)) (done : Done) → GivesUp old new done → (done.status ≡ done.due) × Keeps old new
gave_by old new done (three, status, kept) = (status ∙ sym three, kept)

pub ends_wanting : (mode : Mode) (text : List ℕ) (old new : Option (List ℕ)) (done : Done) → GivesUp old new done → done.journal.items ≡ [] → EndsAs mode (Some text) old new done
ends_wanting mode text old new done gave none = let three : done.due ≡ 3 = gave.0 in record {
  worked = λ zero. absurd (grind (arith, three, zero));
  refused = λ one. absurd (grind (arith, three, one));
  at_stop = λ either. absurd (grind (arith, three, either));
  check_refused = λ eight. absurd (grind (arith, three, eight));
  no_box = λ nine. absurd (grind (arith, three, nine));
  gave_up = λ ended. gave_by old new done gave;
  no_journal = λ some. none;
}

-- the text has a fault, and the line that names it was delivered
pub ends_refused : (mode : Mode) (text : List ℕ) (number line : ℕ) (old new : Option (List ℕ)) (done : Done)
    → IsFault (tail_of mode) text number line → (done.due ≡ 1) ⊎ (done.due ≡ 3) → Refuses 1 (fault_line number line) old new done → EndsAs mode (Some text) old new done
ends_refused mode text number line old new done fault dues refuses = record {
  worked = λ zero. absurd (grind (arith, dues, zero));
  refused = λ one. inl (record { number = number; line = line; fault = fault; delivered = refuses.delivered one; no_journal = refuses.no_journal });
  at_stop = λ either. absurd (grind (arith, dues, either));
  check_refused = λ eight. absurd (grind (arith, dues, eight));
  no_box = λ nine. absurd (grind (arith, dues, nine));
  gave_up = λ ended. elim ended [ inl three ↦ gave_by old new done (refuses.gave_up three) | inr four ↦ absurd (grind (arith, dues, four)) ];
  no_journal = λ some. refuses.no_journal;
}

-- the statuses of refusals may be due for a text
pub text_due : (due : ℕ) → (due ≡ 1) ⊎ (due ≡ 3) → IsDueForText due
text_due due (inl one) = inr (inl one)
text_due due (inr three) = inr (inr (inl three))

pub journal_due : (due : ℕ) → (due ≡ 8) ⊎ (due ≡ 3) → IsDueForText due
journal_due due (inl eight) = inr (inr (inr (inr (inr (inl eight)))))
journal_due due (inr three) = inr (inr (inl three))

pub box_due : (due : ℕ) → (due ≡ 9) ⊎ (due ≡ 3) → IsDueForText due
box_due due (inl nine) = inr (inr (inr (inr (inr (inr nine)))))
box_due due (inr three) = inr (inr (inl three))

-- and those of a text for a mode
pub mode_due : (due : ℕ) → IsDueForText due → IsDueForMode due
mode_due due dues = grind (arith, dues)

-- ---- a journal that is checked

-- it is good, and what it settles was delivered
pub ends_checked : (why : Bool) (text : List ℕ) (net : Net) (old new : Option (List ℕ)) (status due : ℕ) (journal : List JournalLine) (output : List ℕ)
    → DeclaresNet Journal text net → IsSound net.world → HasJournal text net journal → IsJournal net.world (map batch_turns net.batches.items) journal
    → output ≡ checked_text why net.names net.world journal → due ≡ 0 → Delivers status 0 old new output → Ends (Check why) (Some text) old new status due journal
ends_checked why text net old new status due journal output declared sound has settled is none delivered = record {
  worked = λ zero. record {
    net = net;
    declared = declared;
    box = refl;
    told_journal = has;
    settles = record { sound = sound; settled = settled; holds = journals_hold net.world (map batch_turns net.batches.items) journal sound settled; drawn = tt };
    shift_limit = λ runs. absurd (cc);
    delivered = rw is at delivered;
  };
  refused = λ one. absurd (omega arith);
  at_stop = λ either. absurd (grind (arith, either));
  check_refused = λ eight. absurd (omega arith);
  no_box = λ nine. absurd (omega arith);
  gave_up = λ ended. elim ended [ inl three ↦ absurd (omega arith) | inr four ↦ absurd (omega arith) ];
  no_journal = λ some. absurd (kept_zero due none some);
}

-- it has a fault, and the line that names it was delivered
pub ends_check_refused : (why : Bool) (text : List ℕ) (net : Net) (number turn : ℕ) (old new : Option (List ℕ)) (done : Done)
    → DeclaresNet Journal text net → HasJournalFault text net number turn → (done.due ≡ 8) ⊎ (done.due ≡ 3) → Refuses 8 (journal_fault_line number turn) old new done
    → EndsAs (Check why) (Some text) old new done
ends_check_refused why text net number turn old new done declared fault dues refuses = record {
  worked = λ zero. absurd (grind (arith, dues, zero));
  refused = λ one. absurd (grind (arith, dues, one));
  at_stop = λ either. absurd (grind (arith, dues, either));
  check_refused = λ eight. (refl, record { net = net; number = number; turn = turn; declared = declared; fault = fault; delivered = refuses.delivered eight; no_journal = refuses.no_journal });
  no_box = λ nine. absurd (grind (arith, dues, nine));
  gave_up = λ ended. elim ended [ inl three ↦ gave_by old new done (refuses.gave_up three) | inr four ↦ absurd (grind (arith, dues, four)) ];
  no_journal = λ some. refuses.no_journal;
}

-- ---- a box that isn't there

-- no feature has its name, and the line that says so was delivered
pub ends_no_box : (mode : Mode) (text : List ℕ) (net : Net) (old new : Option (List ℕ)) (done : Done)
    → DeclaresNet (tail_of mode) text net → has_box mode net.names net.world ≡ false → (done.due ≡ 9) ⊎ (done.due ≡ 3) → Refuses 9 (no_box_line (name_for mode)) old new done
    → EndsAs mode (Some text) old new done
ends_no_box mode text net old new done declared none dues refuses = record {
  worked = λ zero. absurd (grind (arith, dues, zero));
  refused = λ one. absurd (grind (arith, dues, one));
  at_stop = λ either. absurd (grind (arith, dues, either));
  check_refused = λ eight. absurd (grind (arith, dues, eight));
  no_box = λ nine. record { net = net; declared = declared; none = none; delivered = refuses.delivered nine; no_journal = refuses.no_journal };
  gave_up = λ ended. elim ended [ inl three ↦ gave_by old new done (refuses.gave_up three) | inr four ↦ absurd (grind (arith, dues, four)) ];
  no_journal = λ some. refuses.no_journal;
}

-- the box of a conference has a name where it is there
pub named_box : (mode : Mode) (names : NameLists) (world : WorldState) → has_box mode names world ≡ true → HasNamedBox names (report_of mode names)
named_box (Run asked) names world has = tt
named_box (One state asked) names world has = tt
named_box (Check why) names world has = tt
named_box (Gen number size) names world has = tt
named_box (Scene scene) names world has = tt
named_box (Conf name) names world has = by_place (place_of names.boxes (bytes_of name)) (λ who found. found_within names.boxes (bytes_of name) who found) has where
  by_place : (found : Option ℕ) → ((who : ℕ) → found ≡ Some who → who < length names.boxes) → is_feature_at world found ≡ true → unwrap_or found 0 < length names.boxes
  by_place None within is = absurd (cc)
  by_place (Some who) within is = within who refl
