-- What was read of what a source has left.
use Rattle.std.proofs.Common.{◌≡◌, ◌⊎◌, inl, inr, ℕ, List, Bool, true, false, None, Some, IfSome, map, arith, refl, subst, sym, ap, ◌∙◌}
use Rattle.std.specs.declared.option.Option.{Option}
use Rattle.mc_script.specs.declared.command.JournalLine.{JournalLine}
use Rattle.mc_net.specs.Nets.{DeclaresNet, batch_turns}
use Rattle.mc_lines.specs.SoFar.{Declared}
use Rattle.mc_lines.specs.declared.tail.Tail.{Tail}
use Rattle.mc_lines.specs.declared.tail.Tail.TheVariants.{Nothing, Journal, Grow}
use Rattle.mc_net.specs.TextLaws.{first_bytes}
use Rattle.mc_net.specs.Texts.{Says}
use Rattle.mc_net.specs.Versions.{MeetsNoLast}
use Rattle.mc_net.specs.declared.net.Net.{Net}
use Rattle.mc_net.proofs.Faults.{declares_or_faults}
use Rattle.mc_replay.proofs.Good.{good_or_faulty}
use Rattle.mc_replay.specs.Faults.{IsJournalFault}
use Rattle.mc_call.specs.Behind.{HasGoodJournal, HasJournal, HasJournalFault, has_bad_tail, tail_lines}
use Rattle.mc_call.proofs.Told.{told_declares, told_fault}
use Rattle.mc_script_end.specs.Journals.{ShowsCause}
use Rattle.mc_top.specs.Top.{Ends, RefusesBox, RefusesCheck, StopsScript, ToldJournal}
use Rattle.mc_call.specs.Calls.{IsTextOf, ToldDeclares, ToldFault}
use Rattle.mc_script_end.specs.Rings.{CanRun}
use Rattle.mc_top.specs.Modes.{CanCheck, CanConfer, checks, has_feature, tail_of}
use Rattle.mc_seq.specs.declared.stopping.SettleStop.{SettleStop}
use Rattle.mc_script_end.specs.Rings.{AlwaysRests}
use Rattle.mc_call.proofs.BytesBehind.{bad_alike, lines_alike}
use Rattle.mc_script_end.proofs.Causes.{never_stops}
use Rattle.mc_top.proofs.SeenNets.{Seen, declared_same, seen}
use Rattle.mc_words.specs.Commands.{bytes_of}
use Rattle.mc_words.specs.declared.words.Mode.{Mode}
use Rattle.mc_words.specs.declared.words.Mode.TheVariants.{Check, Conf, Gen, One, Run, Scene}

-- ---- what is told

-- the journal after what was read is the one after what was left
has_all : (all : List ℕ) (net : Net) (journal : List JournalLine) → HasJournal (first_bytes Journal all) net journal → HasJournal all net journal
has_all all net journal has = record {
  lines = has.lines ∙ lines_alike net.names net.shape all net.rest;
  whole = sym (bad_alike net.names net.shape all net.rest) ∙ has.whole;
}

pub told_journal : (tail : Tail) (told : Option (List ℕ)) (text : List ℕ) (net : Net) (journal : List JournalLine) → IsTextOf tail told text → ToldJournal tail (Some text) net journal → ToldJournal tail told net journal
told_journal Nothing told text net journal read has = tt
told_journal Grow told text net journal read has = tt
told_journal Journal None text net journal read has = tt
told_journal Journal (Some all) text net journal read has = has_all all net journal (subst (λ (t : List ℕ). HasJournal t net journal) read has)

-- the fault of what was read as the journal after a text
pub fault_behind : (text : List ℕ) (net : Net) (lines : List JournalLine) (bad : Bool) (number turn : ℕ) → lines ≡ tail_lines net.names net.shape text net.rest → bad ≡ has_bad_tail net.names net.shape text net.rest
    → IsJournalFault net.world (map batch_turns net.batches.items) lines bad number turn → HasJournalFault text net number turn
fault_behind text net lines bad number turn are is fault =
    subst (λ (b : Bool). IsJournalFault net.world (map batch_turns net.batches.items) (tail_lines net.names net.shape text net.rest) b number turn) is
    (subst (λ (list : List JournalLine). IsJournalFault net.world (map batch_turns net.batches.items) list bad number turn) are fault)

-- and so is its fault
fault_all : (all : List ℕ) (net : Net) (number turn : ℕ) → HasJournalFault (first_bytes Journal all) net number turn → HasJournalFault all net number turn
fault_all all net number turn fault =
    fault_behind all net (tail_lines net.names net.shape (first_bytes Journal all) net.rest) (has_bad_tail net.names net.shape (first_bytes Journal all) net.rest) number turn
    (lines_alike net.names net.shape all net.rest) (bad_alike net.names net.shape all net.rest) fault

told_journal_fault : (told : Option (List ℕ)) (text : List ℕ) (net : Net) (number turn : ℕ) → IsTextOf Journal told text → HasJournalFault text net number turn → IfSome told (λ all. HasJournalFault all net number turn)
told_journal_fault None text net number turn read fault = tt
told_journal_fault (Some all) text net number turn read fault = fault_all all net number turn (subst (λ (t : List ℕ). HasJournalFault t net number turn) read fault)

-- a script that stopped is that of what was left
stops_told : (mode : Mode) (told old new : Option (List ℕ)) (text : List ℕ) (status due : ℕ) (journal : List JournalLine)
    → IsTextOf (tail_of mode) told text → StopsScript mode (Some text) old new status due journal → StopsScript mode told old new status due journal
stops_told mode told old new text status due journal read stops = record {
  net = stops.net;
  stop = stops.stop;
  runs = stops.runs;
  declared = told_declares (tail_of mode) told text stops.net read stops.declared;
  box = stops.box;
  due_is = stops.due_is;
  sound = stops.sound;
  settled = stops.settled;
  shift_limit = stops.shift_limit;
  drawn = stops.drawn;
  shows = stops.shows;
  delivered = stops.delivered;
}

-- a journal that was refused is that after what was left
refuses_told : (told old new : Option (List ℕ)) (text : List ℕ) (status : ℕ) (journal : List JournalLine) → IsTextOf Journal told text → RefusesCheck (Some text) old new status journal → RefusesCheck told old new status journal
refuses_told told old new text status journal read refused = record {
  net = refused.net;
  number = refused.number;
  turn = refused.turn;
  declared = told_declares Journal told text refused.net read refused.declared;
  fault = told_journal_fault told text refused.net refused.number refused.turn read refused.fault;
  delivered = refused.delivered;
  no_journal = refused.no_journal;
}

-- a mode that checks reads a text with a journal after its commands
checks_read : (mode : Mode) → checks mode ≡ true → tail_of mode ≡ Journal
checks_read (Check why) is = refl
checks_read mode is = absurd (cc)

-- what was said of the text that was read holds of what was left
pub ends_told : (mode : Mode) (told old new : Option (List ℕ)) (text : List ℕ) (status due : ℕ) (journal : List JournalLine)
    → IsTextOf (tail_of mode) told text → Ends mode (Some text) old new status due journal → Ends mode told old new status due journal
ends_told mode told old new text status due journal read ends = record {
  worked = λ zero.
      let worked = ends.worked zero in
      record {
        net = worked.net;
        declared = told_declares (tail_of mode) told text worked.net read worked.declared;
        box = worked.box;
        told_journal = told_journal (tail_of mode) told text worked.net journal read worked.told_journal;
        settles = worked.settles;
        shift_limit = worked.shift_limit;
        delivered = worked.delivered;
      };
  refused = λ one. elim (ends.refused one) [
    | inl refused ↦ inl (record {
      number = refused.number;
      line = refused.line;
      fault = told_fault (tail_of mode) told text refused.number refused.line read refused.fault;
      delivered = refused.delivered;
      no_journal = refused.no_journal;
    })
    | inr stops ↦ inr (stops_told mode told old new text status due journal read stops)
  ];
  at_stop = λ either. stops_told mode told old new text status due journal read (ends.at_stop either);
  check_refused = λ eight.
      let refused = ends.check_refused eight in
      (refused.0, refuses_told told old new text status journal (subst (λ (t : Tail). IsTextOf t told text) (checks_read mode refused.0) read) refused.1);
  no_box = λ nine.
      let refused = ends.no_box nine in
      record {
        net = refused.net;
        declared = told_declares (tail_of mode) told text refused.net read refused.declared;
        none = refused.none;
        delivered = refused.delivered;
        no_journal = refused.no_journal;
      };
  gave_up = ends.gave_up;
  no_journal = ends.no_journal;
}

-- ---- texts on which the work can be done

-- a mode can do its work on a text, whether it reads it or makes it itself
abbrev pub WorksOn : Mode → List ℕ → Type 0
WorksOn (Run asked) text = CanRun text
WorksOn (One state asked) text = CanRun text
WorksOn (Check why) text = CanCheck text
WorksOn (Gen number size) text = CanRun text
WorksOn (Scene scene) text = CanRun text
WorksOn (Conf name) text = CanConfer text (bytes_of name)

-- each says something
says_some : (mode : Mode) (text : List ℕ) → WorksOn mode text → (d : Declared) × Says (tail_of mode) text d
says_some (Run asked) text works = (works.0, works.1)
says_some (One state asked) text works = (works.0, works.1)
says_some (Check why) text works = (works.declares.declared, works.declares.says)
says_some (Gen number size) text works = (works.0, works.1)
says_some (Scene scene) text works = (works.0, works.1)
says_some (Conf name) text works = (works.runs.0, works.runs.1)

-- so it has no fault
fault_says : (tail : Tail) (told : Option (List ℕ)) (text : List ℕ) (d : Declared) (number line : ℕ) → ToldFault tail told number line → told ≡ Some text → Says tail text d → ⊥
fault_says tail None text d number line fault is says = cc
fault_says tail (Some all) text d number line fault is says =
    declares_or_faults tail all d number line (subst (λ (t : List ℕ). Says tail t d) (let same : text ≡ all = cc in same) says) fault

fault_works : (mode : Mode) (told : Option (List ℕ)) (text : List ℕ) (number line : ℕ) → ToldFault (tail_of mode) told number line → told ≡ Some text → WorksOn mode text → ⊥
fault_works mode told text number line fault is works = let says = says_some mode text works in fault_says (tail_of mode) told text says.0 number line fault is says.1

stop_says : (told : Option (List ℕ)) (text : List ℕ) (d : Declared) (net : Net) (stop : SettleStop) → ToldDeclares Nothing told net → told ≡ Some text → Says Nothing text d → MeetsNoLast d → AlwaysRests d
    → ShowsCause (Some stop) net.world (map batch_turns net.batches.items) → ⊥
stop_says None text d net stop declares is says none rests shows = cc
stop_says (Some all) text d net stop declares is says none rests shows =
    let same : all ≡ text = cc in
    never_stops stop text d net says none rests (subst (λ (t : List ℕ). DeclaresNet Nothing t net) same declares) shows

can_run : (told : Option (List ℕ)) (text : List ℕ) (net : Net) (stop : SettleStop) → ToldDeclares Nothing told net → told ≡ Some text → CanRun text → ShowsCause (Some stop) net.world (map batch_turns net.batches.items) → ⊥
can_run told text net stop declares is can shows = stop_says told text can.0 net stop declares is can.1 can.2 can.3 shows

-- nor does its script stop, in a mode that runs one
stop_works : (mode : Mode) (told : Option (List ℕ)) (text : List ℕ) (net : Net) (stop : SettleStop) → checks mode ≡ false → ToldDeclares (tail_of mode) told net → told ≡ Some text → WorksOn mode text
    → ShowsCause (Some stop) net.world (map batch_turns net.batches.items) → ⊥
stop_works (Run asked) told text net stop runs declares is works shows = can_run told text net stop declares is works shows
stop_works (One first asked) told text net stop runs declares is works shows = can_run told text net stop declares is works shows
stop_works (Check why) told text net stop runs declares is works shows = absurd (cc)
stop_works (Gen number size) told text net stop runs declares is works shows = can_run told text net stop declares is works shows
stop_works (Scene scene) told text net stop runs declares is works shows = can_run told text net stop declares is works shows
stop_works (Conf name) told text net stop runs declares is works shows = can_run told text net stop declares is works.runs shows

-- nor is its journal refused
pub good_has_none : (text : List ℕ) (net : Net) (number turn : ℕ) → HasGoodJournal text net → HasJournalFault text net number turn → ⊥
good_has_none text net number turn good fault =
    good_or_faulty net.world (map batch_turns net.batches.items) (tail_lines net.names net.shape text net.rest) number turn good.settles
    (subst (λ (bad : Bool). IsJournalFault net.world (map batch_turns net.batches.items) (tail_lines net.names net.shape text net.rest) bad number turn) good.whole fault)

-- the fault of a journal is that by each network of its text
pub fault_of_same : (text : List ℕ) (net other : Net) (number turn : ℕ) → seen net ≡ seen other → HasJournalFault text net number turn → HasJournalFault text other number turn
fault_of_same text net other number turn same fault =
    subst (λ (n : Seen). IsJournalFault n.world n.batches (tail_lines n.names n.shape text n.rest) (has_bad_tail n.names n.shape text n.rest) number turn) same fault

check_says : (told : Option (List ℕ)) (text : List ℕ) (net : Net) (number turn : ℕ) → ToldDeclares Journal told net → IfSome told (λ all. HasJournalFault all net number turn) → told ≡ Some text → CanCheck text → ⊥
check_says None text net number turn declares fault is can = cc
check_says (Some all) text net number turn declares fault is can =
    let same : all ≡ text = cc in
    let one : seen can.net ≡ seen net = declared_same Journal text can.net net can.declares (subst (λ (t : List ℕ). DeclaresNet Journal t net) same declares) in
    good_has_none text can.net number turn can.good (fault_of_same text net can.net number turn (sym one) (subst (λ (t : List ℕ). HasJournalFault t net number turn) same fault))

-- a mode that checks works on what can be checked
check_can : (mode : Mode) (text : List ℕ) → checks mode ≡ true → WorksOn mode text → CanCheck text
check_can (Check why) text is works = works
check_can mode text is works = absurd (cc)

check_works : (mode : Mode) (told old new : Option (List ℕ)) (text : List ℕ) (status : ℕ) (journal : List JournalLine) → (checks mode ≡ true) × RefusesCheck told old new status journal → told ≡ Some text → WorksOn mode text → ⊥
check_works mode told old new text status journal (is_check, refused) is works =
    check_says told text refused.net refused.number refused.turn refused.declared refused.fault is (check_can mode text is_check works)

-- nor does it lack the box that the mode is about
box_says : (name text : List ℕ) (told : Option (List ℕ)) (net : Net) → ToldDeclares Nothing told net → has_feature net.names net.world name ≡ false → told ≡ Some text → CanConfer text name → ⊥
box_says name text None net declares none is can = cc
box_says name text (Some all) net declares none is can =
    let same : all ≡ text = cc in
    let one : seen can.net ≡ seen net = declared_same Nothing text can.net net can.declares (subst (λ (t : List ℕ). DeclaresNet Nothing t net) same declares) in
    let has : has_feature can.net.names can.net.world name ≡ true = can.has in
    let clash : true ≡ false = sym has ∙ (ap (λ (n : Seen). has_feature n.names n.world name) one ∙ none) in
    cc

box_works : (mode : Mode) (told old new : Option (List ℕ)) (text : List ℕ) (status : ℕ) (journal : List JournalLine) → RefusesBox mode told old new status journal → told ≡ Some text → WorksOn mode text → ⊥
box_works (Run asked) told old new text status journal refused is works = let clash : true ≡ false = refused.none in cc
box_works (One state asked) told old new text status journal refused is works = let clash : true ≡ false = refused.none in cc
box_works (Check why) told old new text status journal refused is works = let clash : true ≡ false = refused.none in cc
box_works (Gen number size) told old new text status journal refused is works = let clash : true ≡ false = refused.none in cc
box_works (Scene scene) told old new text status journal refused is works = let clash : true ≡ false = refused.none in cc
box_works (Conf name) told old new text status journal refused is works = box_says (bytes_of name) text told refused.net refused.declared refused.none is works

-- a text on which the work can be done, and that was read, leaves only two ends
pub works_out : (mode : Mode) (told old new : Option (List ℕ)) (text : List ℕ) (status due : ℕ) (journal : List JournalLine)
    → (due ≡ 0) ⊎ (due ≡ 1) ⊎ (due ≡ 3) ⊎ (due ≡ 4) ⊎ (due ≡ 6) ⊎ (due ≡ 7) ⊎ (due ≡ 8) ⊎ (due ≡ 9) → Ends mode told old new status due journal
    → told ≡ Some text → WorksOn mode text → (due ≡ 4 → ⊥) → (due ≡ 0) ⊎ (due ≡ 3)
works_out mode told old new text status due journal dues ends is works not_four =
    let never : StopsScript mode told old new status due journal → ⊥ = λ stops. stop_works mode told text stops.net stops.stop stops.runs stops.declared is works stops.shows in
    let not_one : due ≡ 1 → ⊥ = λ one. elim (ends.refused one) [
      | inl refused ↦ fault_works mode told text refused.number refused.line refused.fault is works
      | inr stops ↦ never stops
    ] in
    let not_six : due ≡ 6 → ⊥ = λ six. never (ends.at_stop (inl six)) in
    let not_seven : due ≡ 7 → ⊥ = λ seven. never (ends.at_stop (inr seven)) in
    let not_eight : due ≡ 8 → ⊥ = λ eight. check_works mode told old new text status journal (ends.check_refused eight) is works in
    let not_nine : due ≡ 9 → ⊥ = λ nine. box_works mode told old new text status journal (ends.no_box nine) is works in
    grind (arith, not_one, not_four, not_six, not_seven, not_eight, not_nine)

-- so does the status, where no fault was counted
pub completes : (mode : Mode) (told old new : Option (List ℕ)) (text : List ℕ) (status due : ℕ) (journal : List JournalLine)
    → (due ≡ 0) ⊎ (due ≡ 1) ⊎ (due ≡ 3) ⊎ (due ≡ 4) ⊎ (due ≡ 6) ⊎ (due ≡ 7) ⊎ (due ≡ 8) ⊎ (due ≡ 9) → (status ≡ due) ⊎ (status ≡ 5) → Ends mode told old new status due journal
    → told ≡ Some text → WorksOn mode text → (due ≡ 4 → ⊥) → (status ≡ 5 → ⊥) → (status ≡ 0) ⊎ (status ≡ 3)
completes mode told old new text status due journal dues either ends is works not_four not_five =
    let out = works_out mode told old new text status due journal dues ends is works not_four in
    grind (arith, out, not_five)
