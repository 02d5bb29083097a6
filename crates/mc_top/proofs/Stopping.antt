-- A script that stops: the slot or the box at which it does has a name, and its journal goes on from what was run.
use Rattle.std.proofs.Common.{◌≡◌, ◌<◌, ◌++◌, ◌∷◌, [], ℕ, ◌+◌, IfOk, IfSome, Ok, Err, Option, None, Some, Result, List, Vec, Global, drop, length, map, refl, ap, sym, ◌∙◌, subst, inl, slice_index_or}
use Rattle.std.specs.declared.alloc.AllocError.{AllocError}
use Rattle.mc_box.specs.declared.event.Turn.{Turn}
use Rattle.mc_model.specs.Worlds.{WorldState, place}
use Rattle.mc_net.specs.Nets.{batch_turns}
use Rattle.mc_script.specs.declared.command.Batch.{Batch}
use Rattle.mc_script.specs.declared.command.JournalLine.{JournalLine}
use Rattle.mc_script.specs.declared.command.JournalLine.TheVariants.{Turn as Made}
use Rattle.mc_replay.proofs.Limited.{limit_made}
use Rattle.mc_replay.specs.Segments.{EachKeepsShiftLimit}
use Rattle.mc_rounds.specs.Stops.{Stops}
use Rattle.mc_seq.specs.Draws.{StopsByDraws}
use Rattle.mc_seq.specs.declared.fault.SettleFault.{SettleFault}
use Rattle.mc_seq.specs.declared.fault.SettleFault.TheVariants.{NoMemory, Restless as NeverRests, Ring as AtRing, VersionEnd as EndsVersion}
use Rattle.mc_seq.specs.declared.fault.Stopped.{Stopped}
use Rattle.mc_seq.specs.declared.fault.StoppedBox.{StoppedBox}
use Rattle.mc_table.specs.Words.{line_of}
use Rattle.mc_text.specs.NameLists.{NameLists, slot_word}
use Rattle.mc_top.specs.Drawn.{FollowsDraws, StopsBy, StopsDrawn}
use Rattle.mc_script_end.specs.Journals.{IsJournalTo, IsStoppedJournal}
use Rattle.mc_script_end.specs.Ends.{EndsBy}
use Rattle.mc_top.specs.Outcomes.{Stopping}
use Rattle.mc_top.specs.Printed.{report_text, script_text}
use Rattle.mc_settle_text.specs.Stops.{stop_word}
use Rattle.mc_settle_text.specs.Words.{box_word}
use Rattle.mc_top.specs.Scripts.{ScriptState}
use Rattle.mc_top.specs.declared.report.Report.{Report}
use Rattle.mc_script_end.specs.declared.run.Run.{Run}
use Rattle.mc_seq.specs.declared.stopping.SettleStop.{SettleStop}
use Rattle.mc_seq.specs.declared.stopping.SettleStop.TheVariants.{Restless, Ring, VersionEnd}
use Rattle.mc_script_end.proofs.Running.{next_left}
use Rattle.mc_top.proofs.Running.{GoesOn}
use Rattle.mc_script_end.proofs.StopLines.{line_at, stop_line_same}

-- ---- what a settle stops with

-- where there are draws, what they decide of a stop is by their schedule
drawn_weaker : (draws : Option ℕ) (P Q : ℕ → Type 0) → ((state : ℕ) → P state → Q state) → IfSome draws P → IfSome draws Q
drawn_weaker None P Q weaker holds = tt
drawn_weaker (Some state) P Q weaker holds = weaker state holds

-- at the last version
stops_version : (names : NameLists) (batch : List Turn) (old : ScriptState) (stop : Stopped) (run : Run) → Stops old.world batch (EndsVersion stop) → StopsDrawn old.draws old.world batch (EndsVersion stop)
    → run.journal.items ≡ old.journal ++ map Made stop.turns.items → run.output.items ≡ line_of (stop_word (VersionEnd stop.at) ∷ slot_word names stop.place.0 stop.place.1 ∷ []) → run.stop ≡ Some (VersionEnd stop.at)
    → Stopping names batch old run
stops_version names batch old stop run (stops, there) drawn journal output is = record {
  turns = stop.turns.items;
  last = stops.last;
  stop = VersionEnd stop.at;
  stopped = stops.stopped;
  shift_limit = stops.shift_limit;
  cause = stops.meets;
  scheduled =
      drawn_weaker old.draws (λ state. (end : ℕ) × StopsByDraws old.world batch state end (EndsVersion stop)) (λ state. (end : ℕ) × StopsBy (VersionEnd stop.at) old.world batch state stop.turns.items end)
      (λ state by. (by.0, by.1.0)) drawn;
  journal = journal;
  output = output ∙ line_at names old.world (stop_word (VersionEnd stop.at)) stop.at stop.place there;
  is = is;
}

-- at a ring
stops_ring : (names : NameLists) (batch : List Turn) (old : ScriptState) (stop : Stopped) (run : Run) → Stops old.world batch (AtRing stop) → StopsDrawn old.draws old.world batch (AtRing stop)
    → run.journal.items ≡ old.journal ++ map Made stop.turns.items → run.output.items ≡ line_of (stop_word (Ring stop.at) ∷ slot_word names stop.place.0 stop.place.1 ∷ []) → run.stop ≡ Some (Ring stop.at)
    → Stopping names batch old run
stops_ring names batch old stop run (stops, there) drawn journal output is = record {
  turns = stop.turns.items;
  last = stops.last;
  stop = Ring stop.at;
  stopped = stops.stopped;
  shift_limit = stops.shift_limit;
  cause = (stops.used_up, stops.least);
  scheduled =
      drawn_weaker old.draws (λ state. (end : ℕ) × StopsByDraws old.world batch state end (AtRing stop)) (λ state. (end : ℕ) × StopsBy (Ring stop.at) old.world batch state stop.turns.items end)
      (λ state by. (by.0, by.1.0)) drawn;
  journal = journal;
  output = output ∙ line_at names old.world (stop_word (Ring stop.at)) stop.at stop.place there;
  is = is;
}

-- at a box whose program doesn't come to rest
stops_restless : (names : NameLists) (batch : List Turn) (old : ScriptState) (stop : StoppedBox) (run : Run) → Stops old.world batch (NeverRests stop) → StopsDrawn old.draws old.world batch (NeverRests stop)
    → run.journal.items ≡ old.journal ++ map Made stop.turns.items → run.output.items ≡ line_of (stop_word (Restless stop.at) ∷ box_word names stop.at ∷ []) → run.stop ≡ Some (Restless stop.at)
    → Stopping names batch old run
stops_restless names batch old stop run stops drawn journal output is = record {
  turns = stop.turns.items;
  last = stops.last;
  stop = Restless stop.at;
  stopped = stops.stopped;
  shift_limit = stops.shift_limit;
  cause = (stops.used_up, stops.restless);
  scheduled = drawn;
  journal = journal;
  output = output;
  is = is;
}

-- whatever it stops with
pub stops_by : (names : NameLists) (batch : List Turn) (old : ScriptState) (fault : SettleFault) (run : Run) → Stops old.world batch fault → StopsDrawn old.draws old.world batch fault → EndsBy names old.journal fault run
    → Stopping names batch old run
stops_by names batch old (EndsVersion stop) run stops drawn ends = stops_version names batch old stop run stops drawn ends.journal ends.output ends.is
stops_by names batch old (AtRing stop) run stops drawn ends = stops_ring names batch old stop run stops drawn ends.journal ends.output ends.is
stops_by names batch old (NeverRests stop) run stops drawn ends = stops_restless names batch old stop run stops drawn ends.journal ends.output ends.is
stops_by names batch old (NoMemory e) run stops drawn ends = absurd ends

-- ---- what a script ran to that stopped

pub record EndsAtStop (report : Report) (names : NameLists) (start : WorldState) (first : Option ℕ) (all : List (List Turn)) (run : Run) : Type 0 where
  pub ran : IsJournalTo run.stop start all run.journal.items
  pub drawn : FollowsDraws first run.stop start all run.journal.items
  pub shift_limit : EachKeepsShiftLimit run.journal.items
  pub output : run.output.items ≡ script_text report names start run.stop run.journal.items

-- the turns up to a stop are what is left of the draws' journal, where there are draws
drawn_to : (draws : Option ℕ) (stop : SettleStop) (world : WorldState) (batch turns : List Turn) (rest : List (List Turn)) → IfSome draws (λ state. (end : ℕ) × StopsBy stop world batch state turns end)
    → FollowsDraws draws (Some stop) world (batch ∷ rest) (map Made turns)
drawn_to None stop world batch turns rest by = tt
drawn_to (Some state) stop world batch turns rest by = inl (turns, by.0, refl, by.1)

stops_here : (report : Report) (names : NameLists) (opening : List ℕ) (start : WorldState) (first : Option ℕ) (all rest : List (List Turn)) (count : ℕ) (batch : List Turn) (now : ScriptState) (run : Run) → Stopping names batch now run
    → GoesOn (report_text report names) opening start first all (batch ∷ rest) count now → EndsAtStop report names start first all run
stops_here report names opening start first all rest count batch now run s on =
    let here : IsStoppedJournal s.stop start all run.journal.items =
    subst (λ (lines : List JournalLine). IsStoppedJournal s.stop start all lines) (sym s.journal)
    (on.stops s.stop (map Made s.turns) (inl (record { turns = s.turns; last = s.last; lines = refl; stopped = s.stopped; cause = s.cause }))) in
    let drawn : FollowsDraws first (Some s.stop) start all run.journal.items =
    subst (λ (lines : List JournalLine). FollowsDraws first (Some s.stop) start all lines) (sym s.journal)
    (on.drawn (Some s.stop) (map Made s.turns) (drawn_to now.draws s.stop now.world batch s.turns rest s.scheduled)) in
    record {
      ran = subst (λ (o : Option SettleStop). IsJournalTo o start all run.journal.items) (sym s.is) here;
      drawn = subst (λ (o : Option SettleStop). FollowsDraws first o start all run.journal.items) (sym s.is) drawn;
      shift_limit = subst (λ (lines : List JournalLine). EachKeepsShiftLimit lines) (sym s.journal) (on.shift_limit (map Made s.turns) (limit_made s.turns s.shift_limit));
      output = s.output ∙ (stop_line_same names now.world start s.stop on.shape ∙ ap (λ (o : Option SettleStop). script_text report names start o run.journal.items) (sym s.is));
    }

-- by the batch's place
pub stops_at : (report : Report) (names : NameLists) (opening : List ℕ) (start : WorldState) (first : Option ℕ) (all : List Batch) (i : ℕ) (none : Batch) (now : ScriptState) (run : Run) → i < length all
    → Stopping names (batch_turns (slice_index_or all i none)) now run → GoesOn (report_text report names) opening start first (map batch_turns all) (map batch_turns (drop i all)) i now → EndsAtStop report names start first (map batch_turns all) run
stops_at report names opening start first all i none now run within s on =
    stops_here report names opening start first (map batch_turns all) (map batch_turns (drop (i + 1) all)) i (batch_turns (slice_index_or all i none)) now run s
    (subst (λ (left : List (List Turn)). GoesOn (report_text report names) opening start first (map batch_turns all) left i now) (next_left i all none within) on)

-- a run that kept its journal keeps the limit of Shifts in it, too
pub limited_whole : (result : Result Run AllocError) (run : Run) → IfOk result (λ whole. whole.journal ≡ run.journal) → EachKeepsShiftLimit run.journal.items → IfOk result (λ whole. EachKeepsShiftLimit whole.journal.items)
limited_whole (Ok whole) run same limit = subst (λ (lines : Vec JournalLine Global). EachKeepsShiftLimit lines.items) (sym same) limit
limited_whole (Err e) run same limit = tt
