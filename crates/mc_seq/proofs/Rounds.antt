-- Rounds of retries with drawn turns before, between and after them: a run, whose commands are those of the batch. Where no round is due in the end, they are a settled segment.
use Rattle.std.proofs.Common.{◌≡◌, ◌+◌, ◌++◌, ◌==◌, ◌&&◌, if◌then◌else◌, cond, ℕ, zero, suc, Bool, true, false, List, [], length, take, count_by, Some, IsTrue, append_assoc, append-nil, refl, ap, sym, ◌∙◌, subst, arith}
use Rattle.std.specs.List.{list_all}
use Rattle.std.proofs.Math.Seq.{take-append_seam}
use Rattle.std.proofs.lemmas.List.Elements.{filter-append}
use Rattle.std.proofs.lemmas.List.Sums.{sum_by-append}
use Rattle.mc_box.specs.declared.event.Turn.{Turn}
use Rattle.mc_box.specs.BoxEvents.{is_command}
use Rattle.mc_model.specs.Shapes.{is_allowed, AreAllowed}
use Rattle.mc_model.specs.Settles.{IsSettled, IsStopped, commands_of, is_quiet, is_retry_of, world_owes}
use Rattle.mc_model.specs.Sound.{IsSound}
use Rattle.mc_model.specs.Steps.{run}
use Rattle.mc_model.specs.Worlds.{WorldState}
use Rattle.mc_laws.proofs.ShapesKept.{run_keeps_shape}
use Rattle.mc_laws.proofs.StepKeeps.{run_keeps_sound}
use Rattle.mc_seq.specs.Draws.{ScheduleSettles}
use Rattle.mc_seq.specs.Retries.{retries_by_box}
use Rattle.mc_seq.specs.Schedule.{AreDrawn, Goes, IsStill, MakesRound, ScheduleState, candidates, first_schedule, commands_only}
use Rattle.mc_seq.proofs.AllowedCommands.{all_kept}
use Rattle.mc_seq.proofs.Candidates.{none_left}
use Rattle.mc_seq.proofs.Retries.{boxes_besides, once_by_box}
use Rattle.mc_seq.proofs.Runs.{run-append}
use Rattle.mc_seq.proofs.Scheduled.{allowed_commands, drawn_both, drawn_commands, drawn_pass, drawn_run, drawn_takes, drawn_undue, is_ordered, rested_quiet}
use Rattle.mc_seq.proofs.Segments.{besides_both, besides_none, settled_at}

-- ---- one after another

-- drawn turns after rounds
pub goes_both : (rounds : ℕ) (one two : List Turn) (now next last : ScheduleState) → Goes rounds now one next → AreDrawn next two last → Goes rounds now (one ++ two) last
goes_both zero one two now next last goes draws = drawn_both one two now next last goes draws
goes_both (suc rounds) one two now next last (first, rest, still, after, are, drew, round, more) draws =
    let owed : List Turn = retries_by_box still.world in (
      first,
      rest ++ two,
      still,
      after,
      ap (λ (t : List Turn). t ++ two) are ∙ (append_assoc first (owed ++ rest) two ∙ ap (λ (t : List Turn). first ++ t) (append_assoc owed rest two)),
      drew,
      round,
      goes_both rounds rest two after next last more draws,
    )

-- a round after rounds
pub goes_round : (rounds : ℕ) (turns : List Turn) (now still next : ScheduleState) → Goes rounds now turns still → MakesRound still next → Goes (suc rounds) now (turns ++ retries_by_box still.world) next
goes_round zero turns now still next goes round = (turns, [], still, next, ap (λ (t : List Turn). turns ++ t) (sym (append-nil (retries_by_box still.world))), goes, round, refl)
goes_round (suc rounds) turns now still next (first, rest, before, after, are, drew, begun, more) round =
    let owed : List Turn = retries_by_box still.world in
    let was : List Turn = retries_by_box before.world in (
      first,
      rest ++ owed,
      before,
      after,
      ap (λ (t : List Turn). t ++ owed) are ∙ (append_assoc first (was ++ rest) owed ∙ ap (λ (t : List Turn). first ++ t) (append_assoc was rest owed)),
      drew,
      begun,
      goes_round rounds rest after still next more round,
    )

-- ---- a run

-- a round leaves the commands that are left
round_left : (still next : ScheduleState) → MakesRound still next → next.left ≡ still.left
round_left still next round = ap (λ (s : ScheduleState). s.left) round.then_not

-- they are a run
pub goes_run : (rounds : ℕ) (turns : List Turn) (now last : ScheduleState) → Goes rounds now turns last → run now.world turns ≡ Some last.world
goes_run zero turns now last goes = drawn_run turns now last goes
goes_run (suc rounds) turns now last (first, rest, still, next, are, drew, round, more) =
    let owed : List Turn = retries_by_box still.world in
    ap (run now.world) are
    ∙ (run-append first (owed ++ rest) now.world still.world (drawn_run first now still drew)
    ∙ (run-append owed rest still.world next.world round.retries ∙ goes_run rounds rest next last more))

-- what all that is left passes
pub goes_pass : (rounds : ℕ) (p : Turn → Bool) (turns : List Turn) (now last : ScheduleState) → list_all p now.left ≡ true → Goes rounds now turns last → list_all p last.left ≡ true
goes_pass zero p turns now last all goes = drawn_pass p turns now last all goes
goes_pass (suc rounds) p turns now last all (first, rest, still, next, are, drew, round, more) =
    goes_pass rounds p rest next last (ap (list_all p) (round_left still next round) ∙ drawn_pass p first now still all drew) more

-- retries hold no command
owed_none : (world : WorldState) (who : ℕ) → commands_of who (retries_by_box world) ≡ []
owed_none world who = besides_none (retries_by_box world) who (boxes_besides world (length world.boxes))

-- box by box the commands so far, and then those that are left, are those that were left before
pub goes_commands : (rounds : ℕ) (turns : List Turn) (now last : ScheduleState) (who : ℕ) → list_all is_ordered now.left ≡ true → Goes rounds now turns last
    → commands_of who turns ++ commands_of who last.left ≡ commands_of who now.left
goes_commands zero turns now last who all goes = drawn_commands turns now last who all goes
goes_commands (suc rounds) turns now last who all (first, rest, still, next, are, drew, round, more) =
    let owed : List Turn = retries_by_box still.world in
    let p : Turn → Bool = λ turn. is_command turn.event && turn.who == who in
    let behind : commands_of who (owed ++ rest) ≡ commands_of who rest = filter-append p owed rest ∙ ap (λ (l : List Turn). l ++ commands_of who rest) (owed_none still.world who) in
    let left : commands_of who next.left ≡ commands_of who still.left = ap (commands_of who) (round_left still next round) in
    let ordered : list_all is_ordered next.left ≡ true = ap (list_all is_ordered) (round_left still next round) ∙ drawn_pass is_ordered first now still all drew in
    ap (λ (l : List Turn). commands_of who l ++ commands_of who last.left) are
    ∙ (ap (λ (l : List Turn). l ++ commands_of who last.left) (filter-append p first (owed ++ rest) ∙ ap (λ (l : List Turn). commands_of who first ++ l) behind)
    ∙ (append_assoc (commands_of who first) (commands_of who rest) (commands_of who last.left)
    ∙ (ap (λ (l : List Turn). commands_of who first ++ l) (goes_commands rounds rest next last who ordered more ∙ left)
    ∙ drawn_commands first now still who all drew)))

-- so they are a stopped segment of their batch
pub goes_stopped : (rounds : ℕ) (world : WorldState) (batch turns : List Turn) (state : ℕ) (last : ScheduleState) → AreAllowed world batch → Goes rounds (first_schedule world batch state) turns last
    → IsStopped world batch turns last.world
goes_stopped rounds world batch turns state last allowed goes = record {
  runs = goes_run rounds turns (first_schedule world batch state) last goes;
  commands = λ who.
      sym (take-append_seam (commands_of who turns) (commands_of who last.left))
      ∙ ap (take (length (commands_of who turns))) (goes_commands rounds turns (first_schedule world batch state) last who (allowed_commands batch world allowed) goes);
}

-- and where none are left, their commands are all of it
pub goes_used : (rounds : ℕ) (world : WorldState) (batch turns : List Turn) (state : ℕ) (last : ScheduleState) → AreAllowed world batch → Goes rounds (first_schedule world batch state) turns last → last.left ≡ []
    → (who : ℕ) → commands_of who turns ≡ commands_of who batch
goes_used rounds world batch turns state last allowed goes left who =
    sym (append-nil (commands_of who turns))
    ∙ (ap (λ (l : List Turn). commands_of who turns ++ commands_of who l) (sym left)
    ∙ goes_commands rounds turns (first_schedule world batch state) last who (allowed_commands batch world allowed) goes)

-- ---- what is known of a state at which nothing is listed

pub record AtEnd (world : WorldState) (last : ScheduleState) : Type 0 where
  pub sound : IsSound last.world
  pub left : last.left ≡ []
  pub quiet : IsTrue (is_quiet last.world)

pub end_is : (rounds : ℕ) (world : WorldState) (batch turns : List Turn) (state : ℕ) (last : ScheduleState) → IsSound world → AreAllowed world batch → Goes rounds (first_schedule world batch state) turns last
    → candidates last ≡ [] → AtEnd world last
end_is rounds world batch turns state last sound allowed goes none =
    let ran : run world turns ≡ Some last.world = goes_run rounds turns (first_schedule world batch state) last goes in
    let kept = run_keeps_sound world last.world turns sound ran in
    let still = all_kept last.left world last.world sound kept (run_keeps_shape world last.world turns sound ran) (goes_pass rounds (is_allowed world) turns (first_schedule world batch state) last allowed goes) in
    let left = none_left last.world last.left last.shifts (commands_only last.left last.since) still none in
    record { sound = kept; left = left; quiet = rested_quiet last kept left none }

-- ---- the last round

record LastRound (now : ScheduleState) (turns : List Turn) (last : ScheduleState) : Type 0 where
  pub rounds : ℕ
  pub before : List Turn
  pub others : List Turn
  pub still : ScheduleState
  pub next : ScheduleState
  pub are : turns ≡ before ++ (retries_by_box still.world ++ others)
  pub goes : Goes rounds now before still
  pub round : MakesRound still next
  pub more : AreDrawn next others last

round_before : (now after last : ScheduleState) (still : ScheduleState) (turns first rest : List Turn) → turns ≡ first ++ (retries_by_box still.world ++ rest) → AreDrawn now first still → MakesRound still after
    → LastRound after rest last → LastRound now turns last
round_before now after last still turns first rest are drew round later =
    let owed : List Turn = retries_by_box still.world in
    let behind : List Turn = retries_by_box later.still.world ++ later.others in
    record {
      rounds = suc later.rounds;
      before = first ++ (owed ++ later.before);
      others = later.others;
      still = later.still;
      next = later.next;
      are = are
          ∙ (ap (λ (t : List Turn). first ++ (owed ++ t)) later.are
          ∙ (ap (λ (t : List Turn). first ++ t) (sym (append_assoc owed later.before behind)) ∙ sym (append_assoc first (owed ++ later.before) behind)));
      goes = (first, later.before, still, after, refl, drew, round, later.goes);
      round = later.round;
      more = later.more;
    }

last_round : (rounds : ℕ) (now : ScheduleState) (turns : List Turn) (last : ScheduleState) → Goes (suc rounds) now turns last → LastRound now turns last
last_round zero now turns last (first, rest, still, next, are, drew, round, more) =
    record { rounds = zero; before = first; others = rest; still = still; next = next; are = are; goes = drew; round = round; more = more }
last_round (suc rounds) now turns last (first, rest, still, next, are, drew, round, more) = round_before now next last still turns first rest are drew round (last_round rounds next rest last more)

-- ---- the segment

-- each retry that is owed comes once in the round and what is after it
counted : (world : WorldState) (others : List Turn) (who local : ℕ) → count_by (is_retry_of who local) others ≡ 0 → count_by (is_retry_of who local) (retries_by_box world ++ others) ≡ (if world_owes world who local then 1 else 0)
counted world others who local none =
    let both : count_by (is_retry_of who local) (retries_by_box world ++ others) ≡ count_by (is_retry_of who local) (retries_by_box world) + count_by (is_retry_of who local) others
    = sum_by-append (λ (turn : Turn). cond (is_retry_of who local turn) 1 0) (retries_by_box world) others in
    let sum : count_by (is_retry_of who local) (retries_by_box world ++ others) ≡ count_by (is_retry_of who local) (retries_by_box world) = omega arith in
    sum ∙ once_by_box world who local

-- the round and the Takes after it are the end of a settled segment
settles_at : (world : WorldState) (batch turns : List Turn) (state : ℕ) (last : ScheduleState) → IsSound world → AreAllowed world batch → IsStill last → last.due ≡ false → LastRound (first_schedule world batch state) turns last
    → AtEnd world last → IsSettled world batch turns last.world
settles_at world batch turns state last sound allowed still not_due round ends =
    let owed : List Turn = retries_by_box round.still.world in
    let at = end_is round.rounds world batch round.before state round.still sound allowed round.goes round.round.still.none in
    let left : round.next.left ≡ [] = round_left round.still round.next round.round ∙ at.left in
    let takes = drawn_takes round.others round.next last left (drawn_undue round.others round.next last round.more not_due).1 round.more in
    let goes : run round.still.world (owed ++ round.others) ≡ Some last.world = run-append owed round.others round.still.world round.next.world round.round.retries ∙ drawn_run round.others round.next last round.more in
    subst (λ (t : List Turn). IsSettled world batch t last.world) (sym round.are)
    (settled_at world round.still.world last.world batch round.before (owed ++ round.others)
    (record { quiet = at.quiet; no_shift = round.round.still.no_shift })
    (record { quiet = ends.quiet; no_shift = still.no_shift })
    still.no_ring
    (goes_run round.rounds round.before (first_schedule world batch state) round.still round.goes)
    goes
    (goes_used round.rounds world batch round.before state round.still allowed round.goes at.left)
    (λ who local. counted round.still.world round.others who local (takes.count who local))
    (besides_both owed round.others (boxes_besides round.still.world (length round.still.world.boxes)) takes.besides))

-- at the beginning a round is due
due_once : (turns : List Turn) (world : WorldState) (batch : List Turn) (state : ℕ) (last : ScheduleState) → AreDrawn (first_schedule world batch state) turns last → last.due ≡ false → ⊥
due_once turns world batch state last draws not_due = let was : true ≡ false = (drawn_undue turns (first_schedule world batch state) last draws not_due).0 in cc

settles_by : (rounds : ℕ) (world : WorldState) (batch turns : List Turn) (state : ℕ) (last : ScheduleState) → IsSound world → AreAllowed world batch → Goes rounds (first_schedule world batch state) turns last
    → IsStill last → last.due ≡ false → IsSettled world batch turns last.world
settles_by zero world batch turns state last sound allowed goes still not_due = absurd (due_once turns world batch state last goes not_due)
settles_by (suc rounds) world batch turns state last sound allowed goes still not_due =
    settles_at world batch turns state last sound allowed still not_due (last_round rounds (first_schedule world batch state) turns last goes)
    (end_is (suc rounds) world batch turns state last sound allowed goes still.none)

-- so turns by the schedule settle their batch
pub schedule_settles : ScheduleSettles
schedule_settles world last batch turns state end sound allowed scheduled =
    subst (λ (w : WorldState). IsSettled world batch turns w) scheduled.to_last
    (settles_by scheduled.rounds world batch turns state scheduled.ended sound allowed scheduled.goes scheduled.still scheduled.not_due)
