-- How a call ends that draws a ladder.
use Rattle.std.proofs.Common.{inl, inr, ◌≡◌, ◌⊎◌, ◌∙◌, ◌==◌, ◌≤◌, ◌++◌, ℕ, Bool, true, false, List, [], Some, None, IfSome, length, map, take, refl, ap, subst, sym, arith, rules}
use Rattle.std.proofs.lemmas.List.{length-take, take_all}
use Rattle.std.specs.declared.option.Option.{Option}
use Rattle.mc_ladder_top.specs.Drawn.{IsLadder, drawn_bytes}
use Rattle.mc_ladder_top.specs.Faulty.{AreLinesBeforeFault, IsLadderUpToFault, StandBeforeFault, fault_note}
use Rattle.mc_explain.specs.Reasons.{IsFaultOfJournal}
use Rattle.mc_explain.specs.declared.reason.Reason.{Reason}
use Rattle.mc_ladder_top.specs.Top.{AnswersDrawing, Drew, DrawsUpToFault, DrewUpToFault, EndsDrawing, IsDueForDrawing, IsDueForText, RefusesName, ToldBlocks, checking}
use Rattle.mc_ladder_top.specs.Requests.{Requested, unknown_in}
use Rattle.mc_lines.specs.Rules.{read_limit}
use Rattle.mc_lines.specs.declared.tail.Tail.TheVariants.{Journal}
use Rattle.mc_model.specs.Sound.{IsSound}
use Rattle.mc_model.specs.Worlds.{WorldState}
use Rattle.mc_net.proofs.FirstBytes.{blocks_of_the_first_bytes}
use Rattle.mc_net.proofs.OneNet.{one_net}
use Rattle.mc_net.specs.Nets.{DeclaresBlocks, DeclaresNet, batch_turns}
use Rattle.mc_net.specs.TextLaws.{IsSameNet, first_bytes}
use Rattle.mc_net.specs.declared.net.Net.{Net}
use Rattle.mc_program_lines.specs.Programs.{BlockState}
use Rattle.mc_replay.proofs.Holds.{journals_hold}
use Rattle.mc_replay.specs.Faults.{StandsFor}
use Rattle.mc_replay.specs.Journals.{IsJournal}
use Rattle.mc_script.specs.declared.command.JournalLine.{JournalLine}
use Rattle.mc_text.specs.NameLists.{NameLists}
use Rattle.mc_call.proofs.BytesBehind.{bad_alike, lines_alike}
use Rattle.mc_top.proofs.SeenNets.{Seen, declared_same, seen}
use Rattle.mc_call.proofs.Told.{told_declares}
use Rattle.mc_top.proofs.Ending.{ends_wanting}
use Rattle.mc_top.proofs.Told.{completes, ends_told, fault_behind, fault_of_same, good_has_none, told_journal}
use Rattle.mc_call.specs.Behind.{HasJournal, HasJournalFault, IsLineOfFault, has_bad_tail, tail_lines}
use Rattle.mc_top.specs.Modes.{CanCheck}
use Rattle.mc_call.specs.Answers.{Answers, Refuses}
use Rattle.mc_call.specs.Printed.{no_box_line}
use Rattle.mc_call.proofs.Explaining.{explains_weaker}
use Rattle.mc_call.specs.Reasons.{EndsFor, IsFaultOfTold, IsJournalFaultOf, Told, of_journal}
use Rattle.mc_call.specs.Calls.{Delivers, IsTextOf, ToldDeclares}
use Rattle.std.specs.Io.KnownBytes.{Keeps}
use Rattle.mc_top.specs.Top.{EndsAs}
use Rattle.mc_call.specs.declared.done.Done.{Done}

-- ---- what was drawn

-- by networks of which clauses see the same, the same is drawn
same_ladder : (request : Requested) (net other : Net) (blocks : List BlockState) (journal : List JournalLine) → IsSameNet other net
    → drawn_bytes request other.names blocks other.world journal ≡ drawn_bytes request net.names blocks net.world journal
same_ladder request net other blocks journal same =
    ap (λ (n : NameLists). drawn_bytes request n blocks other.world journal) same.names ∙ ap (λ (w : WorldState). drawn_bytes request net.names blocks w journal) same.world

-- the journal after a text is good, and its ladder was delivered
pub drew : (request : Requested) (text : List ℕ) (net : Net) (journal : List JournalLine) (output : List ℕ) (old new : Option (List ℕ)) (status : ℕ)
    → DeclaresNet Journal text net → IsSound net.world → unknown_in net.names request.names ≡ None → HasJournal text net journal → IsJournal net.world (map batch_turns net.batches.items) journal
    → IsLadder request text journal output → Delivers status 0 old new output → Drew request (Some text) old new status journal
drew request text net journal output old new status declares sound known has settled ladder delivered = record {
  net = net;
  blocks = ladder.blocks;
  declared = declares;
  programs = ladder.gives;
  known = known;
  told_journal = has;
  settles = record { sound = sound; settled = settled; holds = journals_hold net.world (map batch_turns net.batches.items) journal sound settled; drawn = tt };
  delivered = subst (λ (bytes : List ℕ). Delivers status 0 old new bytes)
      (ladder.drawn ∙ same_ladder request net ladder.net ladder.blocks journal (one_net Journal text ladder.net net ladder.declares declares)) delivered;
}

-- ---- how the call ends

-- with a ladder
pub ends_drew : (request : Requested) (told old new : Option (List ℕ)) (done : Done) → done.due ≡ 0 → Drew request told old new done.status done.journal.items → EndsDrawing request told old new done
ends_drew request told old new done zero drawn = record {
  drew = λ is. drawn;
  no_box = λ nine. absurd (grind (arith, zero, nine));
  up_to_fault = λ eight. let due = eight.1 in absurd (grind (arith, zero, due));
  refused = λ other past none. absurd (other zero);
}

-- with a name that no box has, or for want of memory
pub ends_unknown : (request : Requested) (text : List ℕ) (net : Net) (name : List ℕ) (old new : Option (List ℕ)) (done : Done)
    → DeclaresNet Journal text net → unknown_in net.names request.names ≡ Some name → (done.due ≡ 9) ⊎ (done.due ≡ 3) → Refuses 9 (no_box_line name) old new done
    → EndsDrawing request (Some text) old new done
ends_unknown request text net name old new done declares unknown dues refuses = record {
  drew = λ zero. absurd (grind (arith, dues, zero));
  no_box = λ nine. record { net = net; name = name; declared = declares; unknown = unknown; delivered = refuses.delivered nine; no_journal = refuses.no_journal };
  up_to_fault = λ eight. let due = eight.1 in absurd (grind (arith, dues, due));
  refused = λ other past none. ends_wanting checking text old new done (refuses.gave_up (grind (arith, dues, past))) refuses.no_journal;
}

-- or as a check does
pub ends_else : (request : Requested) (told old new : Option (List ℕ)) (done : Done) → (done.due ≡ 0 → ⊥) → (done.due ≡ 9 → ⊥) → (DrawsUpToFault request.up_to_fault done.due → ⊥) → EndsAs checking told old new done
    → EndsDrawing request told old new done
ends_else request told old new done other past none ends = record { drew = λ zero. absurd (other zero); no_box = λ nine. absurd (past nine); up_to_fault = λ is. absurd (none is); refused = λ is there so. ends }

-- or with a ladder up to a fault
pub ends_up_to_fault : (request : Requested) (told old new : Option (List ℕ)) (done : Done) → done.due ≡ 8 → request.up_to_fault ≡ true → DrewUpToFault request told old new done
    → EndsDrawing request told old new done
ends_up_to_fault request told old new done eight flag drawn = record {
  drew = λ zero. absurd (grind (arith, zero, eight));
  no_box = λ nine. absurd (grind (arith, nine, eight));
  up_to_fault = λ is. drawn;
  refused = λ other past none. absurd (none (flag, eight));
}

-- the lines before the first fault of a journal are drawn by the network of the ladder, and the fault is that by this network
pub drew_up_to_fault : (request : Requested) (text : List ℕ) (net : Net) (number turn line : ℕ) (given : Reason) (output : List ℕ) (old new : Option (List ℕ)) (done : Done)
    → DeclaresNet Journal text net → unknown_in net.names request.names ≡ None → HasJournalFault text net number turn → IsLineOfFault text net line
    → length text ≤ read_limit Journal → IsFaultOfJournal number turn line text given → IsLadderUpToFault request text number turn output → Delivers done.status 8 old new output → EndsFor given 8 done → done.journal.items ≡ []
    → DrewUpToFault request (Some text) old new done
drew_up_to_fault request text net number turn line given output old new done declares known fault placed short kept ladder delivered ends none =
    let lines : StandBeforeFault text ladder.before = ladder.lines in
    let drawn : IsLadder request text ladder.before ladder.ladder = ladder.drawn in
    record {
      net = net;
      blocks = drawn.blocks;
      number = number;
      turn = turn;
      before = ladder.before;
      declared = declares;
      programs = drawn.gives;
      known = known;
      fault = fault;
      lines = subst (λ (n : Seen). (count : ℕ) × StandsFor n.world n.batches (tail_lines n.names n.shape text n.rest) count × (ladder.before ≡ take count (tail_lines n.names n.shape text n.rest)))
          (declared_same Journal text lines.0 net lines.1 declares) lines.2;
      delivered = subst (λ (bytes : List ℕ). Delivers done.status 8 old new bytes)
          (ladder.noted ∙ ap (λ (l : List ℕ). l ++ fault_note request.picture number turn)
          (drawn.drawn ∙ same_ladder request net drawn.net drawn.blocks ladder.before (one_net Journal text drawn.net net drawn.declares declares))) delivered;
      line = line;
      shown = kept.0;
      tells = subst (λ (t : List ℕ). IsJournalFaultOf Journal t line kept.0.items) (sym (take_all (read_limit Journal) text short)) (net, declares, placed, kept.2);
      explained = subst (λ (r : Reason). EndsFor r 8 done) kept.1 ends;
      no_journal = none;
    }

-- or for want of memory
pub ends_gave_up : (request : Requested) (text : List ℕ) (at : Option (List ℕ)) (done : Done) → done.due ≡ 3 → done.status ≡ 3 → done.journal.items ≡ [] → EndsDrawing request (Some text) at at done
ends_gave_up request text at done three stands none =
    ends_else request (Some text) at at done (λ zero. grind (arith, three, zero)) (λ nine. grind (arith, three, nine)) (λ eight. let due = eight.1 in grind (arith, three, due)) (ends_wanting checking text at at done (three, stands, keeps_all at) none)
  where
    keeps_all : (bytes : Option (List ℕ)) → Keeps bytes bytes
    keeps_all None = search rules
    keeps_all (Some bytes) = search rules

-- ---- what it answers

-- as any call does
pub answers_drawing : (up_to_fault : Bool) (IsDue : ℕ → Type 0) (Tells : Told → Type 0) (old new : Option (List ℕ)) (before now : ℕ) (done : Done) → Answers IsDue Tells old new before now done
    → AnswersDrawing up_to_fault IsDue Tells old new before now done
answers_drawing up_to_fault IsDue Tells old new before now done answers = record { dues = answers.dues; status = answers.status; fault = answers.fault; reason = λ none. answers.reason }

-- the same by more statuses, and by less that is said of a fault
pub drawing_weaker : (up_to_fault : Bool) (IsDue MayBeDue : ℕ → Type 0) (P Q : Told → Type 0) (old new : Option (List ℕ)) (before now : ℕ) (done : Done)
    → (IsDue done.due → MayBeDue done.due) → ((fault : Told) → P fault → Q fault) → AnswersDrawing up_to_fault IsDue P old new before now done → AnswersDrawing up_to_fault MayBeDue Q old new before now done
drawing_weaker up_to_fault IsDue MayBeDue P Q old new before now done more weaker answers = record {
  dues = more answers.dues;
  status = answers.status;
  fault = answers.fault;
  reason = λ none. explains_weaker P Q weaker done.reason done.status old new done.journal.items (answers.reason none);
}

-- ---- what was read of what a source has left

told_blocks : (told : Option (List ℕ)) (text : List ℕ) (blocks : List BlockState) → IsTextOf Journal told text → DeclaresBlocks Journal text blocks → ToldBlocks told blocks
told_blocks None text blocks read declares = tt
told_blocks (Some all) text blocks read declares = blocks_of_the_first_bytes Journal all blocks (subst (λ (t : List ℕ). DeclaresBlocks Journal t blocks) read declares)

drew_told : (request : Requested) (told old new : Option (List ℕ)) (text : List ℕ) (status : ℕ) (journal : List JournalLine) → IsTextOf Journal told text
    → Drew request (Some text) old new status journal → Drew request told old new status journal
drew_told request told old new text status journal read drawn = record {
  net = drawn.net;
  blocks = drawn.blocks;
  declared = told_declares Journal told text drawn.net read drawn.declared;
  programs = told_blocks told text drawn.blocks read drawn.programs;
  known = drawn.known;
  told_journal = told_journal Journal told text drawn.net journal read drawn.told_journal;
  settles = drawn.settles;
  delivered = drawn.delivered;
}

refuses_told : (request : Requested) (told old new : Option (List ℕ)) (text : List ℕ) (status : ℕ) (journal : List JournalLine) → IsTextOf Journal told text
    → RefusesName request (Some text) old new status journal → RefusesName request told old new status journal
refuses_told request told old new text status journal read refuses = record {
  net = refuses.net;
  name = refuses.name;
  declared = told_declares Journal told text refuses.net read refuses.declared;
  unknown = refuses.unknown;
  delivered = refuses.delivered;
  no_journal = refuses.no_journal;
}

-- the lines before a fault are the same
lines_told : (told : Option (List ℕ)) (text : List ℕ) (net : Net) (before : List JournalLine) → IsTextOf Journal told text → AreLinesBeforeFault text net before
    → IfSome told (λ all. AreLinesBeforeFault all net before)
lines_told None text net before read are = tt
lines_told (Some all) text net before read are =
    subst (λ (lines : List JournalLine). (count : ℕ) × StandsFor net.world (map batch_turns net.batches.items) lines count × (before ≡ take count lines))
    (ap (λ (t : List ℕ). tail_lines net.names net.shape t net.rest) read ∙ lines_alike net.names net.shape all net.rest) are

fault_told : (told : Option (List ℕ)) (text : List ℕ) (net : Net) (number turn : ℕ) → IsTextOf Journal told text → HasJournalFault text net number turn → IfSome told (λ all. HasJournalFault all net number turn)
fault_told None text net number turn read fault = tt
fault_told (Some all) text net number turn read fault =
    fault_behind all net (tail_lines net.names net.shape text net.rest) (has_bad_tail net.names net.shape text net.rest) number turn
    (ap (λ (t : List ℕ). tail_lines net.names net.shape t net.rest) read ∙ lines_alike net.names net.shape all net.rest)
    (ap (λ (t : List ℕ). has_bad_tail net.names net.shape t net.rest) read ∙ bad_alike net.names net.shape all net.rest) fault

-- and what is told of it
first_twice : (all : List ℕ) → first_bytes Journal (first_bytes Journal all) ≡ first_bytes Journal all
first_twice all = take_all (read_limit Journal) (first_bytes Journal all) (let most = length-take (read_limit Journal) all in omega (arith, most))

tells_told : (told : Option (List ℕ)) (text : List ℕ) (line : ℕ) (shown : List ℕ) → IsTextOf Journal told text → IsFaultOfTold Journal (Some text) (of_journal line shown)
    → IsFaultOfTold Journal told (of_journal line shown)
tells_told None text line shown read tells = tt
tells_told (Some all) text line shown read tells =
    subst (λ (t : List ℕ). IsJournalFaultOf Journal t line shown) (ap (first_bytes Journal) read ∙ first_twice all) tells

up_to_fault_told : (request : Requested) (told old new : Option (List ℕ)) (text : List ℕ) (done : Done) → IsTextOf Journal told text
    → DrewUpToFault request (Some text) old new done → DrewUpToFault request told old new done
up_to_fault_told request told old new text done read drawn = record {
  net = drawn.net;
  blocks = drawn.blocks;
  number = drawn.number;
  turn = drawn.turn;
  before = drawn.before;
  declared = told_declares Journal told text drawn.net read drawn.declared;
  programs = told_blocks told text drawn.blocks read drawn.programs;
  known = drawn.known;
  fault = fault_told told text drawn.net drawn.number drawn.turn read drawn.fault;
  lines = lines_told told text drawn.net drawn.before read drawn.lines;
  delivered = drawn.delivered;
  line = drawn.line;
  shown = drawn.shown;
  tells = tells_told told text drawn.line drawn.shown.items read drawn.tells;
  explained = drawn.explained;
  no_journal = drawn.no_journal;
}

-- what was said of the text that was read holds of what was left
pub drawing_told : (request : Requested) (told old new : Option (List ℕ)) (text : List ℕ) (done : Done) → IsTextOf Journal told text → EndsDrawing request (Some text) old new done → EndsDrawing request told old new done
drawing_told request told old new text done read ends = record {
  drew = λ zero. drew_told request told old new text done.status done.journal.items read (ends.drew zero);
  no_box = λ nine. refuses_told request told old new text done.status done.journal.items read (ends.no_box nine);
  up_to_fault = λ is. up_to_fault_told request told old new text done read (ends.up_to_fault is);
  refused = λ other past none. ends_told checking told old new text done.status done.due done.journal.items read (ends.refused other past none);
}

-- ---- a journal that is good

-- has no fault
good_not_drawn : (told : Option (List ℕ)) (text : List ℕ) (net : Net) (number turn : ℕ) → ToldDeclares Journal told net → IfSome told (λ all. HasJournalFault all net number turn) → told ≡ Some text → CanCheck text → ⊥
good_not_drawn None text net number turn declares fault is can = cc
good_not_drawn (Some all) text net number turn declares fault is can =
    let same : all ≡ text = cc in
    let one : seen net ≡ seen can.net = declared_same Journal text net can.net (subst (λ (t : List ℕ). DeclaresNet Journal t net) same declares) can.declares in
    good_has_none text can.net number turn can.good (fault_of_same text net can.net number turn one (subst (λ (t : List ℕ). HasJournalFault t net number turn) same fault))

-- no read has failed where a text may be judged
pub not_failed_read : (due : ℕ) → IsDueForText due → (due == 4) ≡ false
not_failed_read due dues = grind (arith, dues)

-- a status that may be due is one of those of a check, or that of a name
due_of_check : (due : ℕ) → IsDueForDrawing due → (due ≡ 0) ⊎ (due ≡ 1) ⊎ (due ≡ 3) ⊎ (due ≡ 4) ⊎ (due ≡ 6) ⊎ (due ≡ 7) ⊎ (due ≡ 8) ⊎ (due ≡ 9)
due_of_check due dues = grind (arith, dues)

-- so it is drawn, where no fault was counted, but for want of memory, or of a box that is asked for
pub completes_drawing : (request : Requested) (told old new : Option (List ℕ)) (text : List ℕ) (done : Done)
    → IsDueForDrawing done.due → (done.status ≡ done.due) ⊎ (done.status ≡ 5) → EndsDrawing request told old new done
    → told ≡ Some text → CanCheck text → (done.due ≡ 4 → ⊥) → (done.status ≡ 5 → ⊥) → (done.status ≡ 0) ⊎ (done.status ≡ 3) ⊎ (done.status ≡ 9)
completes_drawing request told old new text done dues either ends is can not_four not_five = by (done.due == 0) (done.due == 9) refl refl
  where
    by : (none unknown : Bool) → (done.due == 0) ≡ none → (done.due == 9) ≡ unknown → (done.status ≡ 0) ⊎ (done.status ≡ 3) ⊎ (done.status ≡ 9)
    by true unknown is_none is_unknown = let zero : done.due ≡ 0 = grind (arith, is_none) in grind (arith, either, zero, not_five)
    by false true is_none is_unknown = let nine : done.due ≡ 9 = grind (arith, is_unknown) in grind (arith, either, nine, not_five)
    by false false some others =
        let other : done.due ≡ 0 → ⊥ = λ zero. grind (arith, some, zero) in
        let past : done.due ≡ 9 → ⊥ = λ nine. grind (arith, others, nine) in
        let all : (done.due ≡ 0) ⊎ (done.due ≡ 1) ⊎ (done.due ≡ 3) ⊎ (done.due ≡ 4) ⊎ (done.due ≡ 6) ⊎ (done.due ≡ 7) ⊎ (done.due ≡ 8) ⊎ (done.due ≡ 9) = due_of_check done.due dues in
        let none : DrawsUpToFault request.up_to_fault done.due → ⊥ = λ eight. good_not_drawn told text (ends.up_to_fault eight).net (ends.up_to_fault eight).number (ends.up_to_fault eight).turn (ends.up_to_fault eight).declared (ends.up_to_fault eight).fault is can in
        let checked = completes checking told old new text done.status done.due done.journal.items all either (ends.refused other past none) is can not_four not_five in
        elim checked [ inl zero ↦ inl zero | inr three ↦ inr (inl three) ]
