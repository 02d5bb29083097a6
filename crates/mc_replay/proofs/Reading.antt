-- The lines of a journal, read one after the other.
use Rattle.std.proofs.Common.{◌≡◌, ◌<◌, ◌≤◌, ◌++◌, ◌+◌, ◌∙◌, ℕ, zero, suc, Bool, inl, inr, List, [], ◌∷◌, Some, Err, cond, drop, length, map, take, Vec, slice_index_or, refl, ap, sym, subst, append-nil, append_assoc, arith}
use Rattle.std.proofs.lemmas.List.{drop_all, length-map, length-take-le, take_more}
use Rattle.std.proofs.lemmas.List.Sums.{sum_by-append, sum_by-cons}
use Rattle.std.specs.declared.alloc.Global.{Global}
use Rattle.mc_box.specs.declared.event.Turn.{Turn}
use Rattle.mc_model.specs.Steps.{step}
use Rattle.mc_model.specs.Worlds.{WorldState}
use Rattle.mc_script.specs.Batches.{batch_turns}
use Rattle.mc_script.specs.declared.command.Batch.{Batch}
use Rattle.mc_script.specs.declared.command.JournalLine.{JournalLine}
use Rattle.mc_script.specs.declared.command.JournalLine.TheVariants.{Turn as Made, Settled}
use Rattle.mc_view.specs.declared.PathView.{PathView}
use Rattle.mc_replay.specs.Faults.{RefusesLines, StandsFor, at_bad, at_end, at_line}
use Rattle.mc_replay.specs.Journals.{AreShown, IsJournal, next_world}
use Rattle.mc_replay.specs.Points.{Point, first_point, is_mark, is_turn, marks_in, point_after, point_behind, turns_in, world_at}
use Rattle.mc_replay.specs.Replays.{AddsShown, EndsJournal, GoesBehind, HasReplayed, IsFresh, Reads, StandsAt, views_of}
use Rattle.mc_replay.specs.declared.fault.ReplayFault.{ReplayFault}
use Rattle.mc_replay.specs.declared.fault.ReplayFault.TheVariants.{At, NoMemory}
use Rattle.mc_replay.specs.declared.replay.Replay.{Replay}
use Rattle.mc_replay.proofs.Faults.{stand_all, stand_before}
use Rattle.mc_replay.proofs.Good.{all_marked, may_journal}
use Rattle.mc_replay.proofs.Holds.{replayed_is}
use Rattle.mc_replay.proofs.Lines.{after_both, may_both, turns_and_marks}
use Rattle.mc_replay.proofs.Parts.{last_step, one_world}
use Rattle.mc_replay.proofs.Prefixes.{after_is}

-- ---- one line more

turns_more : (read : List JournalLine) (line : JournalLine) → turns_in (read ++ line ∷ []) ≡ turns_in read + turns_in (line ∷ [])
turns_more read line = sum_by-append (λ (l : JournalLine). cond (is_turn l) 1 0) read (line ∷ [])

marks_more : (read : List JournalLine) (line : JournalLine) → marks_in (read ++ line ∷ []) ≡ marks_in read + marks_in (line ∷ [])
marks_more read line = sum_by-append (λ (l : JournalLine). cond (is_mark l) 1 0) read (line ∷ [])

-- what follows a turn is shown from the world after it
shown_turn : (Shows : WorldState → List PathView → Type 0) (batches : List (List Turn)) (point : Point) (turn : Turn) (old new : Replay) → StandsAt batches point old → StandsAt batches (point_behind point (Made turn)) new
    → (more : List JournalLine) (others : List (List PathView)) → AreShown Shows new.segment.world more others → AreShown Shows old.segment.world (Made turn ∷ more) others
shown_turn Shows batches point turn old new before behind more others shown =
    let goes : step old.segment.world turn ≡ Some new.segment.world = last_step point.turns turn point.begins old.segment.world new.segment.world before.follows.runs behind.follows.runs in
    subst (λ (w : WorldState). AreShown Shows w more others) (sym (replayed_is old.segment.world new.segment.world turn goes)) shown

-- a mark changes no world
world_stays : (batches : List (List Turn)) (point : Point) (old new : Replay) → StandsAt batches point old → StandsAt batches (point_behind point Settled) new → old.segment.world ≡ new.segment.world
world_stays batches point old new before behind =
    let there : world_at point ≡ old.segment.world = after_is point.begins old.segment.world point.turns before.follows.runs in
    let same : Some (world_at point) ≡ Some new.segment.world = behind.follows.runs in
    sym there ∙ one_world (world_at point) new.segment.world same

shown_more : (Shows : WorldState → List PathView → Type 0) (start : WorldState) (batches : List (List Turn)) (read : List JournalLine) (line : JournalLine) (point : Point) (old new : Replay) (shown longer : List (List PathView))
    → ((more : List JournalLine) (others : List (List PathView)) → AreShown Shows old.segment.world more others → AreShown Shows start (read ++ more) (shown ++ others))
    → StandsAt batches point old → StandsAt batches (point_behind point line) new → AddsShown Shows new.segment.world line shown longer
    → (more : List JournalLine) (others : List (List PathView)) → AreShown Shows new.segment.world more others → AreShown Shows start ((read ++ line ∷ []) ++ more) (longer ++ others)
shown_more Shows start batches read (Made turn) point old new shown longer so_far before behind adds more others rest =
    subst (λ (l : List JournalLine). AreShown Shows start l (longer ++ others)) (sym (append_assoc read (Made turn ∷ []) more))
    (subst (λ (l : List (List PathView)). AreShown Shows start (read ++ (Made turn ∷ more)) (l ++ others)) (sym adds)
    (so_far (Made turn ∷ more) others (shown_turn Shows batches point turn old new before behind more others rest)))
shown_more Shows start batches read Settled point old new shown longer so_far before behind (views, shows, is) more others rest =
    let same : old.segment.world ≡ new.segment.world = world_stays batches point old new before behind in
    let whole : shown ++ (views ∷ others) ≡ longer ++ others = sym (append_assoc shown (views ∷ []) others) ∙ ap (λ (l : List (List PathView)). l ++ others) (sym is) in
    subst (λ (l : List JournalLine). AreShown Shows start l (longer ++ others)) (sym (append_assoc read (Settled ∷ []) more))
    (subst (AreShown Shows start (read ++ (Settled ∷ more))) whole
    (so_far (Settled ∷ more) (views ∷ others)
    (subst (λ (w : WorldState). AreShown Shows w (Settled ∷ more) (views ∷ others)) (sym same) (shows, rest))))

pub read_more : (Shows : WorldState → List PathView → Type 0) (start : WorldState) (batches : List (List Turn)) (read : List JournalLine) (line : JournalLine) (old new : Replay) (shown longer : List (List PathView))
    → HasReplayed Shows start batches read old shown → GoesBehind batches (point_after (first_point start batches) read) line old new → AddsShown Shows new.segment.world line shown longer
    → HasReplayed Shows start batches (read ++ line ∷ []) new longer
read_more Shows start batches read line old new shown longer so_far goes adds =
    let point : Point = point_after (first_point start batches) read in
    record {
      may = may_both read (line ∷ []) (first_point start batches) so_far.may (goes.may, tt);
      stands = subst (λ (p : Point). StandsAt batches p new) (sym (after_both read (line ∷ []) (first_point start batches))) goes.stands;
      turns = goes.turns ∙ (ap (λ (n : ℕ). n + turns_in (line ∷ [])) so_far.turns ∙ sym (turns_more read line));
      marks = goes.marks ∙ (ap (λ (n : ℕ). n + marks_in (line ∷ [])) so_far.marks ∙ sym (marks_more read line));
      views = shown_more Shows start batches read line point old new shown longer so_far.views so_far.stands goes.stands adds;
    }

-- each line that was read is counted as a turn or a mark
pub read_count : (Shows : WorldState → List PathView → Type 0) (start : WorldState) (batches : List (List Turn)) (read : List JournalLine) (replay : Replay) (shown : List (List PathView))
    → HasReplayed Shows start batches read replay shown → replay.turns + replay.settled ≡ length read
read_count Shows start batches read replay shown so_far =
    let all : turns_in read + marks_in read ≡ length read = turns_and_marks read in
    omega (arith, all, so_far.turns, so_far.marks)

-- ---- a line by its place

-- so many lines were read before it
pub count_before : (Shows : WorldState → List PathView → Type 0) (start : WorldState) (batches : List (List Turn)) (lines : List JournalLine) (k : ℕ) (replay : Replay) (shown : List (List PathView)) → k < length lines
    → HasReplayed Shows start batches (take k lines) replay shown → replay.turns + replay.settled ≡ k
count_before Shows start batches lines k replay shown within so_far =
    read_count Shows start batches (take k lines) replay shown so_far ∙ length-take-le k lines (omega (arith, within))

pub read_next : (Shows : WorldState → List PathView → Type 0) (start : WorldState) (batches : List (List Turn)) (lines : List JournalLine) (k : ℕ) (none : JournalLine) (old new : Replay) (shown longer : List (List PathView))
    → k < length lines → HasReplayed Shows start batches (take k lines) old shown → GoesBehind batches (point_after (first_point start batches) (take k lines)) (slice_index_or lines k none) old new
    → AddsShown Shows new.segment.world (slice_index_or lines k none) shown longer → HasReplayed Shows start batches (take (k + 1) lines) new longer
read_next Shows start batches lines k none old new shown longer within so_far goes adds =
    subst (λ (l : List JournalLine). HasReplayed Shows start batches l new longer) (sym (take_more lines k none within))
    (read_more Shows start batches (take k lines) (slice_index_or lines k none) old new shown longer so_far goes adds)

parts_at : {A : Type 0} (xs : List A) (k : ℕ) (none : A) → k < length xs → xs ≡ take k xs ++ slice_index_or xs k none ∷ drop (suc k) xs
parts_at [] k none within = absurd (omega arith)
parts_at (x ∷ xs) zero none within = refl
parts_at (x ∷ xs) (suc k) none within = ap (λ (l : List _). x ∷ l) (parts_at xs k none (omega arith))

-- what is wrong with a line is why the journal isn't taken
pub refused_at : (Shows : WorldState → List PathView → Type 0) (start : WorldState) (batches : List (List Turn)) (lines : List JournalLine) (k : ℕ) (none : JournalLine) (old new : Replay) (shown : List (List PathView)) (fault : ReplayFault) (bad : Bool)
    → k < length lines → HasReplayed Shows start batches (take k lines) old shown → Reads batches (point_after (first_point start batches) (take k lines)) (slice_index_or lines k none) old (Err fault) new
    → RefusesLines start batches lines bad fault
refused_at Shows start batches lines k none old new shown (At fault) bad within so_far why = (
  at_line (take k lines) (drop (suc k) lines) (slice_index_or lines k none) (parts_at lines k none within) so_far.may why.0 (why.1 ∙ ap (λ (n : ℕ). n + 1) so_far.turns),
  subst (StandsFor start batches lines) (sym (why.2 ∙ count_before Shows start batches lines k old shown within so_far))
      (stand_before start batches lines k none fault.number within so_far.may why.0),
)
refused_at Shows start batches lines k none old new shown (NoMemory e) bad within so_far why = tt

-- ---- the end

pub is_journal : (Shows : WorldState → List PathView → Type 0) (start : WorldState) (batches : List (List Turn)) (lines : List JournalLine) (replay : Replay) (shown : List (List PathView)) → length batches ≤ replay.settled
    → HasReplayed Shows start batches lines replay shown → IsJournal start batches lines
is_journal Shows start batches lines replay shown past read =
    may_journal lines start batches [] read.may (read.stands.left ∙ drop_all replay.settled batches past) (λ none. refl)

pub all_shown : (Shows : WorldState → List PathView → Type 0) (start : WorldState) (batches : List (List Turn)) (lines : List JournalLine) (replay : Replay) (shown : List (List PathView))
    → HasReplayed Shows start batches lines replay shown → AreShown Shows start lines shown
all_shown Shows start batches lines replay shown read =
    subst (AreShown Shows start lines) (append-nil shown)
    (subst (λ (l : List JournalLine). AreShown Shows start l (shown ++ [])) (append-nil lines) (read.views [] [] refl))

-- what is wrong with the end is so, too
pub refused_at_end : (Shows : WorldState → List PathView → Type 0) (start : WorldState) (batches : List (List Turn)) (lines : List JournalLine) (replay : Replay) (shown : List (List PathView)) (fault : ReplayFault) (bad : Bool)
    → HasReplayed Shows start batches lines replay shown → EndsJournal (length batches) replay bad (Err fault) → RefusesLines start batches lines bad fault
refused_at_end Shows start batches lines replay shown (At fault) bad read (at, before, inl (is, line)) = (
  at_bad read.may is line (at ∙ ap (λ (n : ℕ). n + 1) read.turns),
  subst (StandsFor start batches lines) (sym (before ∙ read_count Shows start batches lines replay shown read)) (stand_all start batches lines read.may),
)
refused_at_end Shows start batches lines replay shown (At fault) bad read (at, before, inr (whole, few, early)) = (
  at_end read.may whole (subst (λ (n : ℕ). n < length batches) read.marks few) early (at ∙ ap (λ (n : ℕ). n + 1) read.turns),
  subst (StandsFor start batches lines) (sym (before ∙ read_count Shows start batches lines replay shown read)) (stand_all start batches lines read.may),
)
refused_at_end Shows start batches lines replay shown (NoMemory e) bad read ends = tt

-- a replay begins in the world that it is given
pub begun_there : (world : WorldState) (batches : List (List Turn)) (replay : Replay) → IsFresh world batches replay → world ≡ replay.segment.world
begun_there world batches replay fresh = one_world world replay.segment.world fresh.stands.follows.runs

-- as many lists are shown as there are marks, and so as batches
shown_count : (Shows : WorldState → List PathView → Type 0) (lines : List JournalLine) (world : WorldState) (shown : List (List PathView)) → AreShown Shows world lines shown → length shown ≡ marks_in lines
shown_count Shows [] world shown are = ap length are
shown_count Shows (Made turn ∷ lines) world shown are =
    shown_count Shows lines (next_world world turn) shown are ∙ sym (sum_by-cons (λ (l : JournalLine). cond (is_mark l) 1 0) (Made turn) lines ∙ zero_first (marks_in lines))
  where
    zero_first : (n : ℕ) → 0 + n ≡ n
    zero_first n = omega arith
shown_count Shows (Settled ∷ lines) world [] are = absurd are
shown_count Shows (Settled ∷ lines) world (views ∷ shown) are =
    let more : length shown ≡ marks_in lines = shown_count Shows lines world shown are.1 in
    let marks : marks_in (Settled ∷ lines) ≡ 1 + marks_in lines = sum_by-cons (λ (l : JournalLine). cond (is_mark l) 1 0) Settled lines in
    omega arith

pub one_each : (Shows : WorldState → List PathView → Type 0) (world : WorldState) (batches : List Batch) (lines : List JournalLine) (kept : List (Vec PathView Global)) → IsJournal world (map batch_turns batches) lines
    → AreShown Shows world lines (views_of kept) → length kept ≡ length batches
one_each Shows world batches lines kept is are =
    sym (length-map kept (λ (views : Vec PathView Global). views.items)) ∙ (shown_count Shows lines world (views_of kept) are ∙ (all_marked (map batch_turns batches) world lines is ∙ length-map batches batch_turns))
