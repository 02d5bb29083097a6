-- Two calls that judged one text end alike, where the draws or the told journal leave nothing open.
use Rattle.std.proofs.Common.{◌≡◌, ◌⊎◌, inl, inr, ℕ, Bool, true, false, IsTrue, List, Option, None, Some, map, refl, ap, sym, ◌∙◌, subst, arith}
use Rattle.std.proofs.lemmas.Grind.{common_steps}
use Rattle.mc_lines.specs.declared.tail.Tail.{Tail}
use Rattle.mc_lines.specs.declared.tail.Tail.TheVariants.{Nothing, Journal}
use Rattle.mc_model.specs.Sound.{IsSound}
use Rattle.mc_net.proofs.Faults.{declares_or_faults, one_fault}
use Rattle.mc_net.specs.Nets.{DeclaresNet, batch_turns}
use Rattle.mc_net.specs.Texts.{IsFault}
use Rattle.mc_net.specs.declared.net.Net.{Net}
use Rattle.mc_replay.specs.Journals.{IsJournal}
use Rattle.mc_replay.specs.Laws.{OneJournalFault}
use Rattle.mc_script.specs.declared.command.JournalLine.{JournalLine}
use Rattle.mc_call.specs.Behind.{HasJournal, HasJournalFault, has_bad_tail, tail_lines}
use Rattle.mc_top.specs.Drawn.{DrawnJournalIsOne, IsDrawnJournal}
use Rattle.mc_top.specs.EndsAlike.{CheckEndsAlike, EndAlike, GoodIsNotRefused, Judges, OneEndsAlike, PrintAlike}
use Rattle.mc_top.specs.Modes.{checks}
use Rattle.mc_top.specs.Printed.{checked_text, run_text}
use Rattle.mc_call.specs.Printed.{fault_line, journal_fault_line}
use Rattle.mc_settle_text.specs.Stops.{stop_line}
use Rattle.mc_call.specs.Statuses.{judges_text, stop_status}
use Rattle.mc_call.specs.Calls.{Delivers}
use Rattle.mc_top.specs.Top.{Refused, RefusesCheck, StopsScript, Worked}
use Rattle.mc_top.specs.declared.report.Report.TheVariants.{Paths}
use Rattle.mc_call.specs.declared.status.TheConstants.{WORKED, FAULTY_TEXT, RESTLESS, RING, JOURNAL_FAULT, NO_BOX}
use Rattle.mc_seq.specs.declared.stopping.SettleStop.{SettleStop}
use Rattle.mc_call.specs.declared.done.Done.{Done}
use Rattle.mc_top.proofs.SeenNets.{Seen, declared_same, seen}
use Rattle.mc_top.proofs.Told.{fault_of_same, good_has_none}
use Rattle.mc_words.specs.declared.words.Mode.{Mode}
use Rattle.mc_words.specs.declared.words.Mode.TheVariants.{Check, One}

-- ---- texts

-- a text that declares a network has no fault
declared_sound : (tail : Tail) (text : List ℕ) (net : Net) (number line : ℕ) → DeclaresNet tail text net → IsFault tail text number line → ⊥
declared_sound tail text net number line declares fault = declares_or_faults tail text declares.declared number line declares.says fault

-- ---- journals

-- there is one drawn journal, and one stop or none, of two networks that are seen as one
drawn_same : DrawnJournalIsOne → (net other : Net) (stop instead : Option SettleStop) (state : ℕ) (journal more : List JournalLine) → seen net ≡ seen other → IsSound other.world
    → IsDrawnJournal stop state net.world (map batch_turns net.batches.items) journal → IsDrawnJournal instead state other.world (map batch_turns other.batches.items) more → (stop ≡ instead) × (journal ≡ more)
drawn_same one_journal net other stop instead state journal more same sound one two =
    one_journal stop instead state other.world (map batch_turns other.batches.items) journal more sound
    (subst (λ (n : Seen). IsDrawnJournal stop state n.world n.batches journal) same one) two

-- a good journal has no fault, whichever of two networks that are seen as one it is read by
fault_apart : (text : List ℕ) (net other : Net) (journal : List JournalLine) (number turn : ℕ) → seen net ≡ seen other → HasJournal text net journal → IsJournal net.world (map batch_turns net.batches.items) journal
    → HasJournalFault text other number turn → ⊥
fault_apart text net other journal number turn same has settles fault =
    good_has_none text net number turn
    (record { settles = subst (λ (lines : List JournalLine). IsJournal net.world (map batch_turns net.batches.items) lines) has.lines settles; whole = has.whole })
    (fault_of_same text other net number turn (sym same) fault)

-- and it has one fault at most
fault_same : OneJournalFault → (text : List ℕ) (net other : Net) (number turn instead at : ℕ) → seen net ≡ seen other → HasJournalFault text net number turn → HasJournalFault text other instead at → (number ≡ instead) × (turn ≡ at)
fault_same one_fault_alone text net other number turn instead at same one two =
    one_fault_alone other.world (map batch_turns other.batches.items) (tail_lines other.names other.shape text other.rest) (has_bad_tail other.names other.shape text other.rest) number turn instead at
    (fault_of_same text net other number turn same one) two

-- ---- ends

-- the statuses with which a text is judged
pub judged_cases : (due : ℕ) → IsTrue (judges_text due) → (due ≡ WORKED) ⊎ ((due ≡ FAULTY_TEXT) ⊎ ((due ≡ RESTLESS) ⊎ ((due ≡ RING) ⊎ ((due ≡ JOURNAL_FAULT) ⊎ (due ≡ NO_BOX)))))
judged_cases due judged = grind (arith, common_steps)

-- two calls that were due to deliver the same under one status
pub print_alike : (old new from to : Option (List ℕ)) (done other : Done) (due : ℕ) (output more : List ℕ) → done.due ≡ due → other.due ≡ due → output ≡ more
    → Delivers done.status due old new output → Delivers other.status due from to more → PrintAlike old new from to done other
print_alike old new from to done other due output more one two same first second = record {
  due = one ∙ sym two;
  output = more;
  delivered = subst (λ (n : ℕ). Delivers done.status n old new more) (sym one) (subst (λ (text : List ℕ). Delivers done.status due old new text) same first);
  also = subst (λ (n : ℕ). Delivers other.status n from to more) (sym two) second;
}

-- and kept the same journal
alike : (old new from to : Option (List ℕ)) (done other : Done) (due : ℕ) (output more : List ℕ) → done.due ≡ due → other.due ≡ due → done.journal.items ≡ other.journal.items → output ≡ more
    → Delivers done.status due old new output → Delivers other.status due from to more → EndAlike old new from to done other
alike old new from to done other due output more one two journal same first second = record { prints = print_alike old new from to done other due output more one two same first second; journal = journal }

-- two calls that refused one text
refused_both : (tail : Tail) (text : List ℕ) (old new from to : Option (List ℕ)) (done other : Done) (number line instead at : ℕ) → IsFault tail text number line → IsFault tail text instead at
    → done.due ≡ FAULTY_TEXT → other.due ≡ FAULTY_TEXT → Delivers done.status FAULTY_TEXT old new (fault_line number line) → Delivers other.status FAULTY_TEXT from to (fault_line instead at)
    → done.journal.items ≡ other.journal.items → EndAlike old new from to done other
refused_both tail text old new from to done other number line instead at one two due also first second journal =
    let same = one_fault tail text number line instead at one two in
    alike old new from to done other FAULTY_TEXT (fault_line number line) (fault_line instead at) due also journal
    (ap (λ (n : ℕ). fault_line n line) same.0 ∙ ap (λ (n : ℕ). fault_line instead n) same.1) first second

-- ---- calls of `one`

-- what a call comes to that draws, and judged a text
data DrawnEnd (mode : Mode) (text : List ℕ) (old new : Option (List ℕ)) (done : Done) : Type 0 where
  ran : done.due ≡ WORKED → Worked mode (Some text) old new done.status done.journal.items → DrawnEnd mode text old new done
  refused : done.due ≡ FAULTY_TEXT → Refused mode (Some text) old new done.status done.journal.items → DrawnEnd mode text old new done
  stopped : StopsScript mode (Some text) old new done.status done.due done.journal.items → DrawnEnd mode text old new done

drawn_end : (state : ℕ) (asked : Bool) (text : List ℕ) (old new : Option (List ℕ)) (done : Done) → Judges (One state asked) text old new done → DrawnEnd (One state asked) text old new done
drawn_end state asked text old new done judges = by (judged_cases done.due judges.judged)
  where
    by_refused : done.due ≡ FAULTY_TEXT → Refused (One state asked) (Some text) old new done.status done.journal.items ⊎ StopsScript (One state asked) (Some text) old new done.status done.due done.journal.items → DrawnEnd (One state asked) text old new done
    by_refused one (inl fault) = refused one fault
    by_refused one (inr stops) = stopped stops

    by : (done.due ≡ WORKED) ⊎ ((done.due ≡ FAULTY_TEXT) ⊎ ((done.due ≡ RESTLESS) ⊎ ((done.due ≡ RING) ⊎ ((done.due ≡ JOURNAL_FAULT) ⊎ (done.due ≡ NO_BOX))))) → DrawnEnd (One state asked) text old new done
    by (inl none) = ran none (judges.ends.worked none)
    by (inr (inl one)) = by_refused one (judges.ends.refused one)
    by (inr (inr (inl six))) = stopped (judges.ends.at_stop (inl six))
    by (inr (inr (inr (inl seven)))) = stopped (judges.ends.at_stop (inr seven))
    by (inr (inr (inr (inr (inl eight))))) = absurd (let is : checks (One state asked) ≡ true = (judges.ends.check_refused eight).0 in cc)
    by (inr (inr (inr (inr (inr nine))))) = absurd (let is : true ≡ false = (judges.ends.no_box nine).none in cc)

module _ (one_journal : DrawnJournalIsOne) (state : ℕ) (asked : Bool) (text : List ℕ) where
  both_worked : (old new from to : Option (List ℕ)) (done other : Done) → done.due ≡ WORKED → other.due ≡ WORKED → Worked (One state asked) (Some text) old new done.status done.journal.items
      → Worked (One state asked) (Some text) from to other.status other.journal.items → EndAlike old new from to done other
  both_worked old new from to done other due also one two =
      let same : seen one.net ≡ seen two.net = declared_same Nothing text one.net two.net one.declared two.declared in
      let drawn = drawn_same one_journal one.net two.net None None state done.journal.items other.journal.items same two.settles.sound one.settles.drawn two.settles.drawn in
      alike old new from to done other WORKED (run_text Paths asked one.net.names one.net.world None done.journal.items) (run_text Paths asked two.net.names two.net.world None other.journal.items) due also drawn.1
      (ap (λ (n : Seen). run_text Paths asked n.names n.world None done.journal.items) same ∙ ap (λ (lines : List JournalLine). run_text Paths asked two.net.names two.net.world None lines) drawn.1)
      one.delivered two.delivered

  both_stopped : (old new from to : Option (List ℕ)) (done other : Done) → StopsScript (One state asked) (Some text) old new done.status done.due done.journal.items
      → StopsScript (One state asked) (Some text) from to other.status other.due other.journal.items → EndAlike old new from to done other
  both_stopped old new from to done other one two =
      let same : seen one.net ≡ seen two.net = declared_same Nothing text one.net two.net one.declared two.declared in
      let drawn = drawn_same one_journal one.net two.net (Some one.stop) (Some two.stop) state done.journal.items other.journal.items same two.sound one.drawn two.drawn in
      let stop : one.stop ≡ two.stop = let whole : Some one.stop ≡ Some two.stop = drawn.0 in cc in
      let due : done.due ≡ other.due = one.due_is ∙ (ap stop_status stop ∙ sym two.due_is) in
      alike old new from to done other other.due (stop_line one.net.names one.net.world one.stop) (stop_line two.net.names two.net.world two.stop) due refl drawn.1
      (ap (λ (n : Seen). stop_line n.names n.world one.stop) same ∙ ap (λ (s : SettleStop). stop_line two.net.names two.net.world s) stop)
      (subst (λ (n : ℕ). Delivers done.status n old new (stop_line one.net.names one.net.world one.stop)) due one.delivered) two.delivered

  worked_stopped : (old new from to : Option (List ℕ)) (status end due : ℕ) (journal more : List JournalLine) → Worked (One state asked) (Some text) old new status journal
      → StopsScript (One state asked) (Some text) from to end due more → ⊥
  worked_stopped old new from to status end due journal more one two =
      let same : seen one.net ≡ seen two.net = declared_same Nothing text one.net two.net one.declared two.declared in
      let drawn = drawn_same one_journal one.net two.net None (Some two.stop) state journal more same two.sound one.settles.drawn two.drawn in
      let none : None ≡ Some two.stop = drawn.0 in
      cc

  drawn_alike : (old new from to : Option (List ℕ)) (done other : Done) → DrawnEnd (One state asked) text old new done → DrawnEnd (One state asked) text from to other → EndAlike old new from to done other
  drawn_alike old new from to done other (ran due one) (ran also two) = both_worked old new from to done other due also one two
  drawn_alike old new from to done other (ran due one) (refused also two) = absurd (declared_sound Nothing text one.net two.number two.line one.declared two.fault)
  drawn_alike old new from to done other (ran due one) (stopped two) = absurd (worked_stopped old new from to done.status other.status other.due done.journal.items other.journal.items one two)
  drawn_alike old new from to done other (refused due one) (ran also two) = absurd (declared_sound Nothing text two.net one.number one.line two.declared one.fault)
  drawn_alike old new from to done other (refused due one) (refused also two) =
      refused_both Nothing text old new from to done other one.number one.line two.number two.line one.fault two.fault due also one.delivered two.delivered (one.no_journal ∙ sym two.no_journal)
  drawn_alike old new from to done other (refused due one) (stopped two) = absurd (declared_sound Nothing text two.net one.number one.line two.declared one.fault)
  drawn_alike old new from to done other (stopped one) (ran also two) = absurd (worked_stopped from to old new other.status done.status done.due other.journal.items done.journal.items two one)
  drawn_alike old new from to done other (stopped one) (refused also two) = absurd (declared_sound Nothing text one.net two.number two.line one.declared two.fault)
  drawn_alike old new from to done other (stopped one) (stopped two) = both_stopped old new from to done other one two

pub one_ends_alike : DrawnJournalIsOne → OneEndsAlike
one_ends_alike one_journal state asked text old new from to done other one two =
    drawn_alike one_journal state asked text old new from to done other (drawn_end state asked text old new done one) (drawn_end state asked text from to other two)

-- ---- calls of `check`

-- what a call comes to that checks, and judged a text
data CheckedEnd (why : Bool) (text : List ℕ) (old new : Option (List ℕ)) (done : Done) : Type 0 where
  good : done.due ≡ WORKED → Worked (Check why) (Some text) old new done.status done.journal.items → CheckedEnd why text old new done
  no_text : done.due ≡ FAULTY_TEXT → Refused (Check why) (Some text) old new done.status done.journal.items → CheckedEnd why text old new done
  faulty : done.due ≡ JOURNAL_FAULT → RefusesCheck (Some text) old new done.status done.journal.items → CheckedEnd why text old new done

-- it doesn't stop
checks_on : {why : Bool} {text : List ℕ} {old new : Option (List ℕ)} {status due : ℕ} {journal : List JournalLine} → StopsScript (Check why) (Some text) old new status due journal → ⊥
checks_on stops = let runs = stops.runs in cc

checked_end : (why : Bool) (text : List ℕ) (old new : Option (List ℕ)) (done : Done) → Judges (Check why) text old new done → CheckedEnd why text old new done
checked_end why text old new done judges = by (judged_cases done.due judges.judged)
  where
    by_refused : done.due ≡ FAULTY_TEXT → Refused (Check why) (Some text) old new done.status done.journal.items ⊎ StopsScript (Check why) (Some text) old new done.status done.due done.journal.items → CheckedEnd why text old new done
    by_refused one (inl fault) = no_text one fault
    by_refused one (inr stops) = absurd (checks_on stops)

    by : (done.due ≡ WORKED) ⊎ ((done.due ≡ FAULTY_TEXT) ⊎ ((done.due ≡ RESTLESS) ⊎ ((done.due ≡ RING) ⊎ ((done.due ≡ JOURNAL_FAULT) ⊎ (done.due ≡ NO_BOX))))) → CheckedEnd why text old new done
    by (inl none) = good none (judges.ends.worked none)
    by (inr (inl one)) = by_refused one (judges.ends.refused one)
    by (inr (inr (inl six))) = absurd (checks_on (judges.ends.at_stop (inl six)))
    by (inr (inr (inr (inl seven)))) = absurd (checks_on (judges.ends.at_stop (inr seven)))
    by (inr (inr (inr (inr (inl eight))))) = faulty eight (judges.ends.check_refused eight).1
    by (inr (inr (inr (inr (inr nine))))) = absurd (let is : true ≡ false = (judges.ends.no_box nine).none in cc)

-- a journal isn't good and faulty
good_faulty : (why : Bool) (text : List ℕ) (old new from to : Option (List ℕ)) (status end : ℕ) (journal more : List JournalLine) → Worked (Check why) (Some text) old new status journal → RefusesCheck (Some text) from to end more → ⊥
good_faulty why text old new from to status end journal more one two =
    fault_apart text one.net two.net journal two.number two.turn (declared_same Journal text one.net two.net one.declared two.declared) one.told_journal one.settles.settled two.fault

module _ (one_fault_alone : OneJournalFault) (why : Bool) (text : List ℕ) where
  both_good : (old new from to : Option (List ℕ)) (done other : Done) → done.due ≡ WORKED → other.due ≡ WORKED → Worked (Check why) (Some text) old new done.status done.journal.items
      → Worked (Check why) (Some text) from to other.status other.journal.items → EndAlike old new from to done other
  both_good old new from to done other due also one two =
      let same : seen one.net ≡ seen two.net = declared_same Journal text one.net two.net one.declared two.declared in
      let journal : done.journal.items ≡ other.journal.items = one.told_journal.lines ∙ (ap (λ (n : Seen). tail_lines n.names n.shape text n.rest) same ∙ sym two.told_journal.lines) in
      alike old new from to done other WORKED (checked_text why one.net.names one.net.world done.journal.items) (checked_text why two.net.names two.net.world other.journal.items) due also journal
      (ap (λ (n : Seen). checked_text why n.names n.world done.journal.items) same ∙ ap (λ (lines : List JournalLine). checked_text why two.net.names two.net.world lines) journal)
      one.delivered two.delivered

  both_faulty : (old new from to : Option (List ℕ)) (done other : Done) → done.due ≡ JOURNAL_FAULT → other.due ≡ JOURNAL_FAULT → RefusesCheck (Some text) old new done.status done.journal.items
      → RefusesCheck (Some text) from to other.status other.journal.items → EndAlike old new from to done other
  both_faulty old new from to done other due also one two =
      let same : seen one.net ≡ seen two.net = declared_same Journal text one.net two.net one.declared two.declared in
      let fault = fault_same one_fault_alone text one.net two.net one.number one.turn two.number two.turn same one.fault two.fault in
      alike old new from to done other JOURNAL_FAULT (journal_fault_line one.number one.turn) (journal_fault_line two.number two.turn) due also (one.no_journal ∙ sym two.no_journal)
      (ap (λ (n : ℕ). journal_fault_line n one.turn) fault.0 ∙ ap (λ (n : ℕ). journal_fault_line two.number n) fault.1) one.delivered two.delivered

  checked_alike : (old new from to : Option (List ℕ)) (done other : Done) → CheckedEnd why text old new done → CheckedEnd why text from to other → EndAlike old new from to done other
  checked_alike old new from to done other (good due one) (good also two) = both_good old new from to done other due also one two
  checked_alike old new from to done other (good due one) (no_text also two) = absurd (declared_sound Journal text one.net two.number two.line one.declared two.fault)
  checked_alike old new from to done other (good due one) (faulty also two) = absurd (good_faulty why text old new from to done.status other.status done.journal.items other.journal.items one two)
  checked_alike old new from to done other (no_text due one) (good also two) = absurd (declared_sound Journal text two.net one.number one.line two.declared one.fault)
  checked_alike old new from to done other (no_text due one) (no_text also two) =
      refused_both Journal text old new from to done other one.number one.line two.number two.line one.fault two.fault due also one.delivered two.delivered (one.no_journal ∙ sym two.no_journal)
  checked_alike old new from to done other (no_text due one) (faulty also two) = absurd (declared_sound Journal text two.net one.number one.line two.declared one.fault)
  checked_alike old new from to done other (faulty due one) (good also two) = absurd (good_faulty why text from to old new other.status done.status other.journal.items done.journal.items two one)
  checked_alike old new from to done other (faulty due one) (no_text also two) = absurd (declared_sound Journal text one.net two.number two.line one.declared two.fault)
  checked_alike old new from to done other (faulty due one) (faulty also two) = both_faulty old new from to done other due also one two

pub check_ends_alike : OneJournalFault → CheckEndsAlike
check_ends_alike one_fault_alone why text old new from to done other one two =
    checked_alike one_fault_alone why text old new from to done other (checked_end why text old new done one) (checked_end why text from to other two)

pub good_is_not_refused : GoodIsNotRefused
good_is_not_refused why also_why text old new from to done other one two due also =
    good_faulty why text old new from to done.status other.status done.journal.items other.journal.items (one.worked due) (two.check_refused also).1
