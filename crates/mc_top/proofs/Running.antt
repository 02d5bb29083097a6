-- A script that is run: what its journal and its output have so far, and what follows.
use Rattle.std.proofs.Common.{◌≡◌, ◌<◌, ◌≤◌, ◌++◌, ◌∷◌, [], ℕ, ◌+◌, Option, Some, None, List, drop, length, map, refl, ap, sym, ◌∙◌, subst, append-nil, append_assoc, inr, slice_index_or}
use Rattle.std.proofs.lemmas.List.{drop_all}
use Rattle.mc_model.specs.Shapes.{AreAllAllowed, AreAllowed, HasShape}
use Rattle.mc_model.specs.Sound.{IsSound}
use Rattle.mc_model.specs.Steps.{run}
use Rattle.mc_model.specs.Worlds.{WorldState}
use Rattle.mc_box.specs.declared.event.Turn.{Turn}
use Rattle.mc_laws.proofs.ShapesKept.{run_keeps_shape, same_shape, shape_both}
use Rattle.mc_laws.proofs.StepKeeps.{run_keeps_sound}
use Rattle.mc_seq.proofs.AllowedCommands.{all_kept}
use Rattle.mc_script.specs.declared.command.Batch.{Batch}
use Rattle.mc_net.specs.Nets.{batch_turns}
use Rattle.mc_top.specs.Drawn.{FollowsDraws}
use Rattle.mc_replay.proofs.Limited.{limit_none, limit_settled}
use Rattle.mc_replay.specs.Segments.{EachKeepsShiftLimit}
use Rattle.mc_seq.specs.ShiftLimit.{KeepsShiftLimit}
use Rattle.mc_replay.specs.Journals.{IsJournal, lines_for}
use Rattle.mc_script_end.specs.Journals.{IsStoppedJournal}
use Rattle.mc_script_end.specs.Printed.{at_settles}
use Rattle.mc_top.specs.Scripts.{FollowSchedule, ScriptState, Settling, first_state}
use Rattle.mc_script.specs.declared.command.JournalLine.{JournalLine}
use Rattle.mc_seq.specs.declared.stopping.SettleStop.{SettleStop}
use Rattle.mc_script_end.proofs.Running.{settle_more, stop_more, print_more, next_left, batch_at}

-- within the limit of Shifts
limit_more : (turns : List Turn) (journal more : List JournalLine) → ((rest : List JournalLine) → EachKeepsShiftLimit rest → EachKeepsShiftLimit (journal ++ rest)) → KeepsShiftLimit turns → EachKeepsShiftLimit more
    → EachKeepsShiftLimit ((journal ++ lines_for turns) ++ more)
limit_more turns journal more so_far kept others =
    subst (λ (lines : List JournalLine). EachKeepsShiftLimit lines) (sym (append_assoc journal (lines_for turns) more)) (so_far (lines_for turns ++ more) (limit_settled turns more kept others))

-- what the draws decide begins with the turns that follow their schedule, and goes on with what they decide from there
drawn_then : (stop : Option SettleStop) (world last : WorldState) (draws after : Option ℕ) (rest : List (List Turn)) (batch turns : List Turn) (more : List JournalLine) → FollowSchedule draws after world batch turns last
    → FollowsDraws after stop last rest more → FollowsDraws draws stop world (batch ∷ rest) (lines_for turns ++ more)
drawn_then stop world last None after rest batch turns more scheduled later = tt
drawn_then stop world last (Some state) None rest batch turns more scheduled later = absurd scheduled
drawn_then stop world last (Some state) (Some end) rest batch turns more scheduled later = inr (turns, last, end, more, refl, scheduled, later)

-- or by draws, where there are some, to whichever end
drawn_more : (stop : Option SettleStop) (start world last : WorldState) (first draws after : Option ℕ) (all rest : List (List Turn)) (batch turns : List Turn) (journal : List JournalLine)
    → ((more : List JournalLine) → FollowsDraws draws stop world (batch ∷ rest) more → FollowsDraws first stop start all (journal ++ more))
    → FollowSchedule draws after world batch turns last
    → (more : List JournalLine) → FollowsDraws after stop last rest more → FollowsDraws first stop start all ((journal ++ lines_for turns) ++ more)
drawn_more stop start world last first draws after all rest batch turns journal so_far scheduled more later =
    subst (λ (lines : List JournalLine). FollowsDraws first stop start all lines) (sym (append_assoc journal (lines_for turns) more))
    (so_far (lines_for turns ++ more) (drawn_then stop world last draws after rest batch turns more scheduled later))

-- ---- what a settle leaves

-- what is kept over all settles so far, so many of them: the shapes are those of the beginning, and whatever journal follows goes on from here
pub record GoesOn (print : ℕ → WorldState → List ℕ) (opening : List ℕ) (start : WorldState) (first : Option ℕ) (all rest : List (List Turn)) (count : ℕ) (now : ScriptState) : Type 0 where
  pub sound : IsSound now.world
  pub shape : HasShape now.world start
  pub journal : (more : List JournalLine) → IsJournal now.world rest more → IsJournal start all (now.journal ++ more)
  pub shift_limit : (more : List JournalLine) → EachKeepsShiftLimit more → EachKeepsShiftLimit (now.journal ++ more)
  pub stops : (stop : SettleStop) (more : List JournalLine) → IsStoppedJournal stop now.world rest more → IsStoppedJournal stop start all (now.journal ++ more)
  pub drawn : (stop : Option SettleStop) (more : List JournalLine) → FollowsDraws now.draws stop now.world rest more → FollowsDraws first stop start all (now.journal ++ more)
  pub output : (more : List JournalLine) → opening ++ at_settles print 1 start (now.journal ++ more) ≡ now.output ++ at_settles print (count + 1) now.world more

-- a settle that follows
goes_settled : (print : ℕ → WorldState → List ℕ) (opening : List ℕ) (start : WorldState) (first : Option ℕ) (all rest : List (List Turn)) (count : ℕ) (batch : List Turn) (now next : ScriptState) → Settling print (count + 1) batch now next
    → GoesOn print opening start first all (batch ∷ rest) count now → GoesOn print opening start first all rest (count + 1) next
goes_settled print opening start first all rest count batch now next s on = record {
  sound = run_keeps_sound now.world next.world s.turns on.sound s.settled.runs;
  shape = shape_both next.world now.world start (run_keeps_shape now.world next.world s.turns on.sound s.settled.runs) on.shape;
  journal = λ more later.
      subst (λ (lines : List JournalLine). IsJournal start all (lines ++ more)) (sym s.journal)
      (settle_more start now.world next.world all rest batch s.turns now.journal on.journal s.settled more later);
  shift_limit = λ more kept.
      subst (λ (lines : List JournalLine). EachKeepsShiftLimit (lines ++ more)) (sym s.journal) (limit_more s.turns now.journal more on.shift_limit s.shift_limit kept);
  stops = λ stop more later.
      subst (λ (lines : List JournalLine). IsStoppedJournal stop start all (lines ++ more)) (sym s.journal)
      (stop_more stop start now.world next.world all rest batch s.turns now.journal (on.stops stop) s.settled more later);
  drawn = λ stop more later.
      subst (λ (lines : List JournalLine). FollowsDraws first stop start all (lines ++ more)) (sym s.journal)
      (drawn_more stop start now.world next.world first now.draws next.draws all rest batch s.turns now.journal (on.drawn stop) s.scheduled more later);
  output = λ more.
      ap (λ (lines : List JournalLine). opening ++ at_settles print 1 start (lines ++ more)) s.journal
      ∙ (print_more start now.world next.world print batch s.turns (count + 1) now.journal opening now.output on.output s.settled more
      ∙ ap (λ (text : List ℕ). text ++ at_settles print (count + 1 + 1) next.world more) (sym s.output));
}

-- by the batch's place
pub goes_next : (print : ℕ → WorldState → List ℕ) (opening : List ℕ) (start : WorldState) (first : Option ℕ) (all : List Batch) (i : ℕ) (none : Batch) (now next : ScriptState) → i < length all
    → Settling print (i + 1) (batch_turns (slice_index_or all i none)) now next → GoesOn print opening start first (map batch_turns all) (map batch_turns (drop i all)) i now
    → GoesOn print opening start first (map batch_turns all) (map batch_turns (drop (i + 1) all)) (i + 1) next
goes_next print opening start first all i none now next within s on =
    goes_settled print opening start first (map batch_turns all) (map batch_turns (drop (i + 1) all)) i (batch_turns (slice_index_or all i none)) now next s
    (subst (λ (left : List (List Turn)). GoesOn print opening start first (map batch_turns all) left i now) (next_left i all none within) on)

-- its commands are allowed now
pub batch_allowed : (print : ℕ → WorldState → List ℕ) (opening : List ℕ) (start : WorldState) (first : Option ℕ) (all : List Batch) (i : ℕ) (none : Batch) (rest : List (List Turn)) (now : ScriptState) → i < length all → IsSound start
    → AreAllAllowed start (map batch_turns all) → GoesOn print opening start first (map batch_turns all) rest i now → AreAllowed now.world (batch_turns (slice_index_or all i none))
batch_allowed print opening start first all i none rest now within sound allowed on =
    all_kept (batch_turns (slice_index_or all i none)) start now.world sound on.sound on.shape (batch_at (AreAllowed start) all i none within allowed)

-- nothing was run yet
pub goes_first : (print : ℕ → WorldState → List ℕ) (opening : List ℕ) (start : WorldState) (first : Option ℕ) (all : List (List Turn)) → IsSound start → GoesOn print opening start first all all 0 (first_state start first opening)
goes_first print opening start first all sound = record {
  sound = sound;
  shape = same_shape start;
  journal = λ more later. later;
  shift_limit = λ more kept. kept;
  stops = λ stop more later. later;
  drawn = λ stop more later. later;
  output = λ more. refl;
}

-- no batch is left
pub goes_to_end : (print : ℕ → WorldState → List ℕ) (opening : List ℕ) (start : WorldState) (first : Option ℕ) (all : List Batch) (i : ℕ) (now last : ScriptState) → length all ≤ i → last ≡ now
    → GoesOn print opening start first (map batch_turns all) (map batch_turns (drop i all)) i now → GoesOn print opening start first (map batch_turns all) [] i last
goes_to_end print opening start first all i now last past same on =
    subst (λ (s : ScriptState). GoesOn print opening start first (map batch_turns all) [] i s) (sym same)
    (subst (λ (left : List Batch). GoesOn print opening start first (map batch_turns all) (map batch_turns left) i now) (drop_all i all past) on)

-- all was run
pub all_settled : (print : ℕ → WorldState → List ℕ) (opening : List ℕ) (start : WorldState) (first : Option ℕ) (all : List (List Turn)) (count : ℕ) (now : ScriptState) → GoesOn print opening start first all [] count now → IsJournal start all now.journal
all_settled print opening start first all count now on = subst (λ (lines : List JournalLine). IsJournal start all lines) (append-nil now.journal) (on.journal [] refl)

-- within the limit of Shifts, settle by settle
pub all_limited : (print : ℕ → WorldState → List ℕ) (opening : List ℕ) (start : WorldState) (first : Option ℕ) (all : List (List Turn)) (count : ℕ) (now : ScriptState) → GoesOn print opening start first all [] count now → EachKeepsShiftLimit now.journal
all_limited print opening start first all count now on = subst (λ (lines : List JournalLine). EachKeepsShiftLimit lines) (append-nil now.journal) (on.shift_limit [] limit_none)

-- with no batch left there is nothing more to draw
none_drawn : (draws : Option ℕ) (world : WorldState) → FollowsDraws draws None world [] []
none_drawn None world = tt
none_drawn (Some state) world = (refl, refl)

-- by the draws, where there are some
pub all_drawn : (print : ℕ → WorldState → List ℕ) (opening : List ℕ) (start : WorldState) (first : Option ℕ) (all : List (List Turn)) (count : ℕ) (now : ScriptState) → GoesOn print opening start first all [] count now → FollowsDraws first None start all now.journal
all_drawn print opening start first all count now on = subst (λ (lines : List JournalLine). FollowsDraws first None start all lines) (append-nil now.journal) (on.drawn None [] (none_drawn now.draws now.world))

-- when all settles are done all is printed
pub all_printed : (print : ℕ → WorldState → List ℕ) (opening : List ℕ) (start : WorldState) (first : Option ℕ) (all : List (List Turn)) (count : ℕ) (now : ScriptState) → GoesOn print opening start first all [] count now → now.output ≡ opening ++ at_settles print 1 start now.journal
all_printed print opening start first all count now on =
    sym (ap (λ (lines : List JournalLine). opening ++ at_settles print 1 start lines) (sym (append-nil now.journal)) ∙ (on.output [] ∙ append-nil now.output))
