-- A script that is run live: what its journal and its output have so far, and what follows.
use Rattle.std.proofs.Common.{◌≡◌, ◌<◌, ◌≤◌, ◌++◌, ◌∷◌, [], ℕ, ◌+◌, Option, Some, None, List, drop, length, map, refl, ap, sym, ◌∙◌, subst, append-nil, append_assoc, inl, inr, slice_index_or}
use Rattle.std.proofs.lemmas.List.{drop_all}
use Rattle.mc_box.specs.declared.event.Turn.{Turn}
use Rattle.mc_laws.proofs.ShapesKept.{run_keeps_shape, same_shape, shape_both}
use Rattle.mc_laws.proofs.StepKeeps.{run_keeps_sound}
use Rattle.mc_live_settle.specs.Settles.{SettlesLive, StopsLive}
use Rattle.mc_livetop.specs.Journals.{IsLiveJournalTo}
use Rattle.mc_livetop.specs.Printed.{live_text}
use Rattle.mc_model.specs.Shapes.{AreAllAllowed, AreAllowed, HasShape}
use Rattle.mc_model.specs.Sound.{IsSound}
use Rattle.mc_model.specs.Worlds.{WorldState}
use Rattle.mc_net.specs.Nets.{NamesAll, batch_turns}
use Rattle.mc_replay.specs.Journals.{lines_for}
use Rattle.mc_script.specs.declared.command.Batch.{Batch}
use Rattle.mc_script.specs.declared.command.JournalLine.{JournalLine}
use Rattle.mc_script.specs.declared.command.JournalLine.TheVariants.{Turn as Made}
use Rattle.mc_script_end.proofs.Running.{batch_at, names_kept, next_left, print_more}
use Rattle.mc_script_end.proofs.StopLines.{stop_line_same}
use Rattle.mc_script_end.specs.Printed.{journal_text}
use Rattle.mc_script_end.specs.declared.run.Run.{Run}
use Rattle.mc_seq.proofs.AllowedCommands.{all_kept}
use Rattle.mc_seq.specs.declared.stopping.SettleStop.{SettleStop}
use Rattle.mc_settle_text.specs.Paths.{settle_text}
use Rattle.mc_settle_text.specs.Stops.{stop_line}
use Rattle.mc_text.specs.NameLists.{NameLists}

-- what is kept over all settles so far, so many of them: the shapes are those of the beginning, and whatever journal
-- follows goes on from here
pub record GoesOn (operators : ℕ) (names : NameLists) (start : WorldState) (all rest : List (List Turn)) (count : ℕ) (now : WorldState) (journal : List JournalLine) (text : List ℕ) : Type 0 where
  pub sound : IsSound now
  pub shape : HasShape now start
  pub ran : (stop : Option SettleStop) (more : List JournalLine) → IsLiveJournalTo operators stop now rest more → IsLiveJournalTo operators stop start all (journal ++ more)
  pub output : (more : List JournalLine) → journal_text names 1 start (journal ++ more) ≡ text ++ journal_text names (count + 1) now more

-- nothing was run yet
pub goes_first : (operators : ℕ) (names : NameLists) (start : WorldState) (all : List (List Turn)) → IsSound start → GoesOn operators names start all all 0 start [] []
goes_first operators names start all sound = record { sound = sound; shape = same_shape start; ran = λ stop more later. later; output = λ more. refl }

-- ---- one settle more

-- a journal begins with a batch that was settled, and goes on from there
settled_then : (operators : ℕ) (stop : Option SettleStop) (world last : WorldState) (batch turns : List Turn) (rest : List (List Turn)) (more : List JournalLine) → SettlesLive operators world batch turns last
    → IsLiveJournalTo operators stop last rest more → IsLiveJournalTo operators stop world (batch ∷ rest) (lines_for turns ++ more)
settled_then operators None world last batch turns rest more s later = record {
  orders = s.order ∷ later.orders;
  are = (s.is_order, later.are);
  settled = (turns, last, more, refl, s.settled, later.settled);
}
settled_then operators (Some stop) world last batch turns rest more s later = inr (turns, last, more, refl, s, later)

goes_settled : (operators : ℕ) (names : NameLists) (start now next : WorldState) (all rest : List (List Turn)) (count : ℕ) (batch turns : List Turn) (journal : List JournalLine) (text : List ℕ) → SettlesLive operators now batch turns next
    → GoesOn operators names start all (batch ∷ rest) count now journal text
    → GoesOn operators names start all rest (count + 1) next (journal ++ lines_for turns) (text ++ settle_text names (count + 1) next)
goes_settled operators names start now next all rest count batch turns journal text s on = record {
  sound = run_keeps_sound now next turns on.sound s.settled.runs;
  shape = shape_both next now start (run_keeps_shape now next turns on.sound s.settled.runs) on.shape;
  ran = λ stop more later.
      subst (λ (lines : List JournalLine). IsLiveJournalTo operators stop start all lines) (sym (append_assoc journal (lines_for turns) more))
      (on.ran stop (lines_for turns ++ more) (settled_then operators stop now next batch turns rest more s later));
  output = print_more start now next (settle_text names) s.order turns (count + 1) journal [] text on.output s.settled;
}

-- by the batch's place
pub goes_next : (operators : ℕ) (names : NameLists) (start now next : WorldState) (all : List Batch) (i : ℕ) (none : Batch) (turns : List Turn) (journal lines : List JournalLine) (text more : List ℕ) → i < length all
    → SettlesLive operators now (batch_turns (slice_index_or all i none)) turns next → lines ≡ journal ++ lines_for turns → more ≡ text ++ settle_text names (i + 1) next
    → GoesOn operators names start (map batch_turns all) (map batch_turns (drop i all)) i now journal text
    → GoesOn operators names start (map batch_turns all) (map batch_turns (drop (i + 1) all)) (i + 1) next lines more
goes_next operators names start now next all i none turns journal lines text more within s kept printed on =
    subst (λ (l : List JournalLine). GoesOn operators names start (map batch_turns all) (map batch_turns (drop (i + 1) all)) (i + 1) next l more) (sym kept)
    (subst (λ (t : List ℕ). GoesOn operators names start (map batch_turns all) (map batch_turns (drop (i + 1) all)) (i + 1) next (journal ++ lines_for turns) t) (sym printed)
    (goes_settled operators names start now next (map batch_turns all) (map batch_turns (drop (i + 1) all)) i (batch_turns (slice_index_or all i none)) turns journal text s
    (subst (λ (left : List (List Turn)). GoesOn operators names start (map batch_turns all) left i now journal text) (next_left i all none within) on)))

-- ---- what the next batch needs

-- its commands are allowed now
pub next_allowed : (operators : ℕ) (names : NameLists) (start now : WorldState) (all : List Batch) (i : ℕ) (none : Batch) (rest : List (List Turn)) (journal : List JournalLine) (text : List ℕ) → i < length all → IsSound start
    → AreAllAllowed start (map batch_turns all) → GoesOn operators names start (map batch_turns all) rest i now journal text → AreAllowed now (batch_turns (slice_index_or all i none))
next_allowed operators names start now all i none rest journal text within sound allowed on =
    all_kept (batch_turns (slice_index_or all i none)) start now sound on.sound on.shape (batch_at (AreAllowed start) all i none within allowed)

-- all has its names now
pub now_named : (operators : ℕ) (names : NameLists) (start now : WorldState) (all rest : List (List Turn)) (count : ℕ) (journal : List JournalLine) (text : List ℕ) → NamesAll names start
    → GoesOn operators names start all rest count now journal text → NamesAll names now
now_named operators names start now all rest count journal text named on = names_kept names now start on.shape named

-- ---- the end

-- what a script came to
pub record Came (operators : ℕ) (names : NameLists) (start : WorldState) (all : List (List Turn)) (stop : Option SettleStop) (journal : List JournalLine) (text : List ℕ) : Type 0 where
  pub ran : IsLiveJournalTo operators stop start all journal
  pub output : text ≡ live_text names start stop journal

-- no batch is left
pub came_to_end : (operators : ℕ) (names : NameLists) (start now : WorldState) (all : List Batch) (i : ℕ) (journal : List JournalLine) (text : List ℕ) → length all ≤ i
    → GoesOn operators names start (map batch_turns all) (map batch_turns (drop i all)) i now journal text → Came operators names start (map batch_turns all) None journal text
came_to_end operators names start now all i journal text past on =
    let last : GoesOn operators names start (map batch_turns all) [] i now journal text =
    subst (λ (left : List Batch). GoesOn operators names start (map batch_turns all) (map batch_turns left) i now journal text) (drop_all i all past) on in
    record {
      ran = subst (λ (lines : List JournalLine). IsLiveJournalTo operators None start (map batch_turns all) lines) (append-nil journal) (last.ran None [] (record { orders = []; are = tt; settled = refl }));
      output = sym (append-nil text) ∙ (sym (last.output []) ∙ ap (journal_text names 1 start) (append-nil journal));
    }

-- a batch stopped
stopped_here : (operators : ℕ) (names : NameLists) (start now : WorldState) (all rest : List (List Turn)) (count : ℕ) (batch turns : List Turn) (stop : SettleStop) (journal : List JournalLine) (text : List ℕ) (run : Run)
    → StopsLive operators now batch stop turns → run.journal.items ≡ journal ++ map Made turns → run.output.items ≡ stop_line names now stop → run.stop ≡ Some stop
    → GoesOn operators names start all (batch ∷ rest) count now journal text → Came operators names start all run.stop run.journal.items run.output.items
stopped_here operators names start now all rest count batch turns stop journal text run s kept printed is on =
    subst (λ (o : Option SettleStop). Came operators names start all o run.journal.items run.output.items) (sym is) (record {
      ran = subst (λ (lines : List JournalLine). IsLiveJournalTo operators (Some stop) start all lines) (sym kept)
          (on.ran (Some stop) (map Made turns) (inl (record { turns = turns; lines = refl; stopped = s })));
      output = printed ∙ stop_line_same names now start stop on.shape;
    })

-- by the batch's place
pub stopped_at : (operators : ℕ) (names : NameLists) (start now : WorldState) (all : List Batch) (i : ℕ) (none : Batch) (turns : List Turn) (stop : SettleStop) (journal : List JournalLine) (text : List ℕ) (run : Run) → i < length all
    → StopsLive operators now (batch_turns (slice_index_or all i none)) stop turns → run.journal.items ≡ journal ++ map Made turns → run.output.items ≡ stop_line names now stop → run.stop ≡ Some stop
    → GoesOn operators names start (map batch_turns all) (map batch_turns (drop i all)) i now journal text → Came operators names start (map batch_turns all) run.stop run.journal.items run.output.items
stopped_at operators names start now all i none turns stop journal text run within s kept printed is on =
    stopped_here operators names start now (map batch_turns all) (map batch_turns (drop (i + 1) all)) i (batch_turns (slice_index_or all i none)) turns stop journal text run s kept printed is
    (subst (λ (left : List (List Turn)). GoesOn operators names start (map batch_turns all) left i now journal text) (next_left i all none within) on)
