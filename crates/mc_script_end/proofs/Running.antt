-- A script that is run: what its journal and its output have, and what follows.
use Rattle.std.proofs.Common.{◌≡◌, ◌<◌, ◌++◌, ◌∷◌, [], ℕ, ◌+◌, not, Option, Some, None, List, All, IsTrue, drop, length, map, refl, ap, sym, ◌∙◌, add-one, subst, append-nil, append_assoc, inl, inr, slice_index_or}
use Rattle.std.proofs.Math.Seq.{drop-cons}
use Rattle.std.proofs.lemmas.List.{get_or-map, length-map}
use Rattle.mc_signal.specs.Choice.{codecs_of}
use Rattle.mc_signal.specs.declared.codec_list.CodecList.{CodecList}
use Rattle.mc_model.specs.Settles.{IsSettled, can_shift, is_quiet}
use Rattle.mc_model.specs.Shapes.{HasShape}
use Rattle.mc_model.specs.Sound.{IsSound}
use Rattle.mc_model.specs.Steps.{run, step}
use Rattle.mc_model.specs.Worlds.{WorldState, place}
use Rattle.mc_box.specs.declared.event.Turn.{Turn}
use Rattle.mc_laws.proofs.CommandsGo.{both_true}
use Rattle.mc_laws.proofs.ShapesKept.{run_keeps_shape}
use Rattle.mc_box.proofs.Options.{then_some}
use Rattle.mc_laws.proofs.StepKeeps.{run_keeps_sound}
use Rattle.mc_settle_text.specs.Names.{HasNames}
use Rattle.mc_text.specs.NameLists.{NameLists}
use Rattle.mc_script.specs.declared.command.Batch.{Batch}
use Rattle.mc_net.specs.Nets.{NamesAll, batch_turns}
use Rattle.mc_replay.proofs.Holds.{holds_after, journals_hold, replayed_is, segment_holds}
use Rattle.mc_replay.specs.Journals.{HoldsAtSettles, IsJournal, lines_for}
use Rattle.mc_script_end.specs.Journals.{IsJournalTo, IsStoppedJournal}
use Rattle.mc_script_end.specs.Printed.{at_settles}
use Rattle.mc_script.specs.declared.command.JournalLine.{JournalLine}
use Rattle.mc_script.specs.declared.command.JournalLine.TheVariants.{Turn as Made, Settled}
use Rattle.mc_seq.specs.declared.stopping.SettleStop.{SettleStop}

-- ---- shapes

-- a world of the same shape has the same names
pub names_kept : (names : NameLists) (new old : WorldState) → HasShape new old → NamesAll names old → NamesAll names new
names_kept names new old shape all = record {
  boxes = all.boxes ∙ sym shape.boxes;
  slots = λ who below. all.slots who (subst (λ (n : ℕ). who < n) shape.boxes below) ∙ sym (shape.alike who).slots;
  codecs = λ who. subst (λ (list : CodecList). All (λ codec. codec < length names.codecs) (codecs_of list)) (sym (shape.alike who).receives) (all.codecs who);
}

-- after a settle all has its names, the world is sound, and nothing is under way
pub record IsAfterSettle (names : NameLists) (last : WorldState) : Type 0 where
  pub named : NamesAll names last
  pub sound : IsSound last
  pub quiet : IsTrue (is_quiet last)

-- after a settle the world is sound still, and has its names
pub after_settle : (names : NameLists) (world last : WorldState) (batch turns : List Turn) → IsSound world → NamesAll names world → IsSettled world batch turns last → IsAfterSettle names last
after_settle names world last batch turns sound all settled = record {
  named = names_kept names last world (run_keeps_shape world last turns sound settled.runs) all;
  sound = run_keeps_sound world last turns sound settled.runs;
  quiet = (both_true (is_quiet last) (not (can_shift last)) settled.at_rest).0;
}

-- ---- names

-- names of all of a sound world are names for all that it has
pub has_names : (names : NameLists) (world : WorldState) → IsSound world → NamesAll names world → HasNames names world
has_names names world sound all = record {
  boxes = all.boxes;
  slots = λ s inside.
      let who : (place world s).0 < length world.boxes = sound.numbered.placed s inside in (
        subst (λ (n : ℕ). (place world s).0 < n) (sym all.boxes) who,
        subst (λ (n : ℕ). (place world s).1 < n) (sym (all.slots (place world s).0 who)) (sound.numbered.slots s inside),
      );
  codecs = all.codecs;
}

-- ---- journals

-- the turns of a settle print nothing before its mark
pub printed_after : (turns : List Turn) (print : ℕ → WorldState → List ℕ) (number : ℕ) (world last : WorldState) (rest : List JournalLine) → run world turns ≡ Some last
    → at_settles print number world (map Made turns ++ rest) ≡ at_settles print number last rest
printed_after [] print number world last rest goes = let same : world ≡ last = cc in ap (λ (w : WorldState). at_settles print number w rest) same
printed_after (turn ∷ turns) print number world last rest goes =
    let one = then_some (λ (w : WorldState). run w turns) (step world turn) last goes in
    ap (λ (w : WorldState). at_settles print number w (map Made turns ++ rest)) (replayed_is world one.0 turn one.1) ∙ printed_after turns print number one.0 last rest one.2

-- at each settle of a journal that stops the paths are as the table says, as they are in one that doesn't
stopped_holds : (stop : SettleStop) (waiting : List (List Turn)) (world : WorldState) (journal : List JournalLine) → IsSound world → IsStoppedJournal stop world waiting journal → HoldsAtSettles world journal
stopped_holds stop [] world journal sound stopped = absurd stopped
stopped_holds stop (batch ∷ waiting) world journal sound (inl here) =
    subst (λ (lines : List JournalLine). HoldsAtSettles world lines) (append-nil (map Made here.turns) ∙ sym here.lines) (holds_after here.turns world here.last [] here.stopped.runs tt)
stopped_holds stop (batch ∷ waiting) world journal sound (inr (turns, last, rest, is, settled, later)) =
    segment_holds world last batch turns journal rest sound settled is
    (stopped_holds stop waiting last rest (run_keeps_sound world last turns sound settled.runs) later)

-- whichever it is
pub ran_holds : (stop : Option SettleStop) (batches : List (List Turn)) (world : WorldState) (journal : List JournalLine) → IsSound world → IsJournalTo stop world batches journal → HoldsAtSettles world journal
ran_holds None batches world journal sound ran = journals_hold world batches journal sound ran
ran_holds (Some stop) batches world journal sound ran = stopped_holds stop batches world journal sound ran

-- ---- one settle more

-- a batch that was settled
pub settle_more : (start world last : WorldState) (all rest : List (List Turn)) (batch turns : List Turn) (journal : List JournalLine)
    → ((more : List JournalLine) → IsJournal world (batch ∷ rest) more → IsJournal start all (journal ++ more))
    → IsSettled world batch turns last
    → (more : List JournalLine) → IsJournal last rest more → IsJournal start all ((journal ++ lines_for turns) ++ more)
settle_more start world last all rest batch turns journal so_far settled more later =
    subst (λ (lines : List JournalLine). IsJournal start all lines) (sym (append_assoc journal (lines_for turns) more))
    (so_far (lines_for turns ++ more) (turns, last, more, refl, settled, later))

-- or one that is settled before a stop
pub stop_more : (stop : SettleStop) (start world last : WorldState) (all rest : List (List Turn)) (batch turns : List Turn) (journal : List JournalLine)
    → ((more : List JournalLine) → IsStoppedJournal stop world (batch ∷ rest) more → IsStoppedJournal stop start all (journal ++ more))
    → IsSettled world batch turns last
    → (more : List JournalLine) → IsStoppedJournal stop last rest more → IsStoppedJournal stop start all ((journal ++ lines_for turns) ++ more)
stop_more stop start world last all rest batch turns journal so_far settled more later =
    subst (λ (lines : List JournalLine). IsStoppedJournal stop start all lines) (sym (append_assoc journal (lines_for turns) more))
    (so_far (lines_for turns ++ more) (inr (turns, last, more, refl, settled, later)))

-- and what is printed of it, after what stands in front
pub print_more : (start world last : WorldState) (print : ℕ → WorldState → List ℕ) (batch turns : List Turn) (number : ℕ) (journal : List JournalLine) (opening out : List ℕ)
    → ((more : List JournalLine) → opening ++ at_settles print 1 start (journal ++ more) ≡ out ++ at_settles print number world more)
    → IsSettled world batch turns last
    → (more : List JournalLine) → opening ++ at_settles print 1 start ((journal ++ lines_for turns) ++ more) ≡ (out ++ print number last) ++ at_settles print (number + 1) last more
print_more start world last print batch turns number journal opening out so_far settled more =
    ap (λ (lines : List JournalLine). opening ++ at_settles print 1 start lines) (append_assoc journal (lines_for turns) more)
    ∙ (so_far (lines_for turns ++ more)
    ∙ (ap (λ (text : List ℕ). out ++ text)
    (ap (λ (lines : List JournalLine). at_settles print number world lines) (append_assoc (map Made turns) (Settled ∷ []) more)
    ∙ printed_after turns print number world last (Settled ∷ more) settled.runs)
    ∙ sym (append_assoc out (print number last) (at_settles print (number + 1) last more))))

-- ---- batches by their places

-- the next batch, and those after it
pub next_left : (i : ℕ) (all : List Batch) (none : Batch) → i < length all → map batch_turns (drop i all) ≡ batch_turns (slice_index_or all i none) ∷ map batch_turns (drop (i + 1) all)
next_left i all none within = ap (λ (left : List Batch). map batch_turns left) (drop-cons all i none within ∙ ap (λ (n : ℕ). slice_index_or all i none ∷ drop n all) (sym (add-one i)))

-- what holds of all batches holds of the one at a place
pub batch_at : (P : List Turn → Type 0) (all : List Batch) (i : ℕ) (none : Batch) → i < length all → All P (map batch_turns all) → P (batch_turns (slice_index_or all i none))
batch_at P all i none within holds =
    subst P (get_or-map batch_turns all i none (batch_turns none) within) (holds i (batch_turns none) (subst (λ (n : ℕ). i < n) (sym (length-map all batch_turns)) within))
