-- A journal of the batches, and lines that may all stand.
use Rattle.std.proofs.Common.{◌≡◌, ◌++◌, ◌+◌, ◌∙◌, ◌==◌, ◌&&◌, ℕ, Bool, true, List, [], ◌∷◌, Some, IsTrue, cond, map, length, refl, ap, sym, subst, append-nil, append_assoc, arith}
use Rattle.std.specs.List.{slice_get}
use Rattle.std.proofs.lemmas.List.{map-append}
use Rattle.std.proofs.lemmas.List.Elements.{filter-append}
use Rattle.std.proofs.lemmas.List.Sums.{sum_by-append, sum_by-cons}
use Rattle.mc_box.specs.BoxEvents.{is_command}
use Rattle.mc_box.specs.declared.event.Turn.{Turn}
use Rattle.mc_model.specs.Settles.{IsSettled, commands_of}
use Rattle.mc_model.specs.Steps.{after}
use Rattle.mc_model.specs.Worlds.{WorldState}
use Rattle.mc_script.specs.declared.command.JournalLine.{JournalLine}
use Rattle.mc_script.specs.declared.command.JournalLine.TheVariants.{Turn as Made, Settled}
use Rattle.mc_replay.specs.Faults.{at_bad, at_end, at_line}
use Rattle.mc_replay.specs.Follows.{IsNext}
use Rattle.mc_replay.specs.Journals.{IsJournal, lines_for}
use Rattle.mc_replay.specs.Laws.{GoodOrFaulty}
use Rattle.mc_replay.specs.Points.{AllMayStand, MayStand, first_point, is_mark, marks_in, point_after}
use Rattle.mc_replay.proofs.Commands.{at_seam}
use Rattle.mc_replay.proofs.Faults.{none_faulty}
use Rattle.mc_replay.proofs.Parts.{step_there}
use Rattle.mc_replay.proofs.Prefixes.{after_is}

-- ---- the lines of a journal may stand

-- a turn after others, of which the commands are those of the batch
next_here : (one two batch : List Turn) (turn : Turn) → ((who : ℕ) → commands_of who (one ++ turn ∷ two) ≡ commands_of who batch) → IsNext batch one turn
next_here one two batch turn same command =
    let test : Turn → Bool = λ t. is_command t.event && t.who == turn.who in
    let own : test turn ≡ true = own_box (is_command turn.event) turn.who command in
    let parts : commands_of turn.who (one ++ turn ∷ two) ≡ commands_of turn.who one ++ turn ∷ commands_of turn.who two =
    filter-append test one (turn ∷ two) ∙ ap (λ (b : Bool). commands_of turn.who one ++ cond b (turn ∷ commands_of turn.who two) (commands_of turn.who two)) own in
    subst (λ (l : List Turn). slice_get l (length (commands_of turn.who one)) ≡ Some turn) (sym parts ∙ same turn.who) (at_seam (commands_of turn.who one) (turn ∷ commands_of turn.who two))
  where
    own_box : (b : Bool) (who : ℕ) → IsTrue b → (b && who == who) ≡ true
    own_box b who is = grind (arith)

-- a turn of a settled segment may stand after those before it
turn_may : (one two batch : List Turn) (batches : List (List Turn)) (turn : Turn) (world last : WorldState) → IsSettled world batch (one ++ turn ∷ two) last
    → MayStand (record { begins = world; batches = batch ∷ batches; turns = one }) (Made turn)
turn_may one two batch batches turn world last settled =
    (λ none. absurd cc, (next_here one two batch turn settled.commands, step_there one two turn world last settled.runs))

-- the rest of a segment's turns, its mark, and what follows
segment_may : (todo done batch : List Turn) (batches : List (List Turn)) (world last : WorldState) (rest : List JournalLine) → IsSettled world batch (done ++ todo) last
    → AllMayStand (first_point last batches) rest → AllMayStand (record { begins = world; batches = batch ∷ batches; turns = done }) (map Made todo ++ (Settled ∷ rest))
segment_may [] done batch batches world last rest settled later =
    let whole : IsSettled world batch done last = subst (λ (l : List Turn). IsSettled world batch l last) (append-nil done) settled in
    let is : last ≡ after world done = sym (after_is world last done whole.runs) in
    ((λ none. absurd cc, subst (IsSettled world batch done) is whole), subst (λ (w : WorldState). AllMayStand (first_point w batches) rest) is later)
segment_may (turn ∷ todo) done batch batches world last rest settled later = (
  turn_may done todo batch batches turn world last settled,
  segment_may todo (done ++ turn ∷ []) batch batches world last rest
      (subst (λ (l : List Turn). IsSettled world batch l last) (sym (append_assoc done (turn ∷ []) todo)) settled) later,
)

mark_apart : (turns : List Turn) (rest : List JournalLine) → lines_for turns ++ rest ≡ map Made turns ++ (Settled ∷ rest)
mark_apart turns rest = append_assoc (map Made turns) (Settled ∷ []) rest

pub journal_may : (batches : List (List Turn)) (world : WorldState) (lines : List JournalLine) → IsJournal world batches lines → AllMayStand (first_point world batches) lines
journal_may [] world lines is = subst (AllMayStand (first_point world [])) (sym is) tt
journal_may (batch ∷ batches) world lines (turns, last, rest, is, settled, later) =
    subst (AllMayStand (first_point world (batch ∷ batches))) (sym (is ∙ mark_apart turns rest))
    (segment_may turns [] batch batches world last rest settled (journal_may batches last rest later))

-- ---- and each batch has its mark

no_marks : (turns : List Turn) → marks_in (map Made turns) ≡ 0
no_marks [] = refl
no_marks (turn ∷ turns) = sum_by-cons (λ (l : JournalLine). cond (is_mark l) 1 0) (Made turn) (map Made turns) ∙ (ap (λ (n : ℕ). 0 + n) (no_marks turns))

marks_behind : (turns : List Turn) (rest : List JournalLine) → marks_in (map Made turns ++ (Settled ∷ rest)) ≡ 1 + marks_in rest
marks_behind turns rest =
    sum_by-append (λ (l : JournalLine). cond (is_mark l) 1 0) (map Made turns) (Settled ∷ rest)
    ∙ (ap (λ (n : ℕ). n + marks_in (Settled ∷ rest)) (no_marks turns)
    ∙ (zero_first (marks_in (Settled ∷ rest)) ∙ sum_by-cons (λ (l : JournalLine). cond (is_mark l) 1 0) Settled rest))
  where
    zero_first : (n : ℕ) → 0 + n ≡ n
    zero_first n = omega arith

pub all_marked : (batches : List (List Turn)) (world : WorldState) (lines : List JournalLine) → IsJournal world batches lines → marks_in lines ≡ length batches
all_marked [] world lines is = ap marks_in is
all_marked (batch ∷ batches) world lines (turns, last, rest, is, settled, later) =
    let more : marks_in rest ≡ length batches = all_marked batches last rest later in
    let whole : marks_in lines ≡ 1 + marks_in rest = ap marks_in (is ∙ mark_apart turns rest) ∙ marks_behind turns rest in
    omega arith

pub good_or_faulty : GoodOrFaulty
good_or_faulty world batches lines number turn good (at_line before others line is may fault at) = none_faulty lines before others line (first_point world batches) number (journal_may batches world lines good) is fault
good_or_faulty world batches lines number turn good (at_bad all told is at) = cc
good_or_faulty world batches lines number turn good (at_end all whole few is at) = let same : marks_in lines ≡ length batches = all_marked batches world lines good in omega arith

-- ---- lines that may all stand, up to where no batch is left, are a journal

pub may_journal : (lines : List JournalLine) (begins : WorldState) (batches : List (List Turn)) (turns : List Turn)
    → AllMayStand (record { begins = begins; batches = batches; turns = turns }) lines
    → (point_after (record { begins = begins; batches = batches; turns = turns }) lines).batches ≡ []
    → (batches ≡ [] → turns ≡ []) → IsJournal begins batches (map Made turns ++ lines)
may_journal [] begins [] turns may none ended = ap (λ (l : List Turn). map Made l ++ []) (ended refl)
may_journal [] begins (batch ∷ batches) turns may none ended = absurd cc
may_journal (Made turn ∷ lines) begins batches turns may none ended =
    subst (IsJournal begins batches) (one_further turns)
    (may_journal lines begins batches (turns ++ turn ∷ []) may.1 none (λ gone. absurd (may.0.0 gone)))
  where
    one_further : (turns : List Turn) → map Made (turns ++ turn ∷ []) ++ lines ≡ map Made turns ++ (Made turn ∷ lines)
    one_further turns = ap (λ (l : List JournalLine). l ++ lines) (map-append Made turns (turn ∷ [])) ∙ append_assoc (map Made turns) (Made turn ∷ []) lines
may_journal (Settled ∷ lines) begins [] turns may none ended = absurd (may.0.0 refl)
may_journal (Settled ∷ lines) begins (batch ∷ batches) turns may none ended = (
  turns,
  after begins turns,
  lines,
  sym (mark_apart turns lines),
  may.0.1,
  may_journal lines (after begins turns) batches [] may.1 none (λ gone. refl),
)
