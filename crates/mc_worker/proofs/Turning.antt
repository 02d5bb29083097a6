-- The accounts of turns, with their numbers.
use Rattle.std.proofs.Common.{◌≡◌, ◌≢◌, ℕ, ◌+◌, ◌≤◌, ◌<◌, ◌⊎◌, inl, inr, IfSome, max, Bool, true, false, Option, Some, None, MatchOption, IsTrue, IsSome, is_some, if◌then◌else◌, List, [], ◌∷◌, ◌++◌, slice_get, length, refl, sym, ◌∙◌, ap, subst, arith}
use Rattle.std.proofs.lemmas.Bool.{and_parts}
use Rattle.std.proofs.lemmas.List.{map-append, append-nil}
use Rattle.std.specs.List.{AllByRecursion}
use Rattle.mc_box.specs.BoxEvents.{is_command, is_enabled, is_retry, is_shift, is_take, is_version_end}
use Rattle.mc_box.specs.BoxShapes.{box_shape}
use Rattle.mc_box.specs.Boxes.{BoxState, slot_at}
use Rattle.mc_box.specs.declared.event.Event.{Event}
use Rattle.mc_box.specs.declared.event.Event.TheVariants.{Take, Set, Media, Tell, Retry, Shift}
use Rattle.mc_box.specs.declared.limit.TheConstants.{SHIFT_LIMIT}
use Rattle.mc_box.proofs.ShapeEnables.{shape_enables}
use Rattle.mc_port.specs.Entries.{AreStamped, Claimed, event_of, events_that, last_stamp}
use Rattle.mc_port.specs.declared.stamped.Stamped.{Stamped}
use Rattle.mc_slot.specs.Moves.{slot_take}
use Rattle.mc_worker.specs.Account.{ClaimsWithin, IsWork, in_at, retries_below}
use Rattle.mc_worker.specs.Boxes.{AreEmpty}
use Rattle.mc_worker.specs.Ends.{InEnd, IsIdle, Passed, next_in}
use Rattle.mc_worker.specs.Ready.{IsAllowed, IsReady, IsShaped}
use Rattle.mc_worker.specs.Rounds.{HasStopped, IsRound, IsStrange}
use Rattle.mc_worker.specs.Turns.{AllPassed, AreAdded, AreRetried, AreTurns, IsActed, IsCutShort, IsOneTurn, IsTaken, IsUnderWay, act_entry, is_memory, take_entry, turn_sends_limit}
use Rattle.mc_worker.specs.declared.limit.TheConstants.{STAMP_LIMIT, TURN_LIMIT}
use Rattle.mc_worker.specs.declared.progress.Progress.{Progress}
use Rattle.mc_worker.specs.declared.stop.RoundEnd.{RoundEnd}
use Rattle.mc_worker.specs.declared.stop.Stop.{Stop}
use Rattle.mc_worker.specs.declared.stop.Stop.TheVariants.{Rested, Spent, NoMemory, VersionEnd, Strange}
use Rattle.mc_worker.specs.declared.worker.Worker.{Worker}
use Rattle.mc_worker.proofs.EndSteps.{idle_from}
use Rattle.mc_worker.proofs.Joins.{added_joined, events_that-append, joined, none_added}
use Rattle.mc_worker.proofs.Shapes.{all_allowed}

-- no turn
pub unmoved : (a b : Worker) (s : Progress) → IsWork a b [] → AreTurns a b s s
unmoved a b s work = record { log = []; work = work; added = none_added s; first = λ some. tt; no_retry = refl }

-- nor where ends were only looked at
pub only_looked : (a b : Worker) (s t : Progress) → IsWork a b [] → t ≡ record s { passed = t.passed } → AreTurns a b s t
only_looked a b s t work same = record {
  log = [];
  work = work;
  added = record {
    turns = let turns = ap (λ (p : Progress). p.turns) same in omega (arith, turns);
    sent = let sent = ap (λ (p : Progress). p.sent) same in omega (arith, sent);
    took = let took = ap (λ (p : Progress). p.took) same in omega (arith, took);
  };
  first = λ some. tt;
  no_retry = refl;
}

-- a slot took what was next, after the memory was asked for
pub take_made : (a m b : Worker) (slot : ℕ) (item : Stamped) (count : ℕ) (s t : Progress) → IsWork a m [] → IsTaken m b slot item count
    → t.turns ≡ s.turns + 1 → t.sent ≡ s.sent + count → t.took ≡ s.took + 1 → a.stimuli.items ≡ [] → AreTurns a b s t
take_made a m b slot item count s t first made turns sent took none = record {
  log = take_entry m slot item made.sent b.part ∷ [];
  work = joined a m b [] (take_entry m slot item made.sent b.part ∷ []) first made.work;
  added = record { turns = turns; sent = omega (arith, sent, made.counted); took = took };
  first = λ some. absurd (some none);
  no_retry = refl;
}

-- an event was made, after the memory was asked for
pub act_made : (a m b : Worker) (event : Event) (count : ℕ) (s t : Progress) → IsWork a m [] → IsActed m b event count → is_take event ≡ false
    → t.turns ≡ s.turns + 1 → t.sent ≡ s.sent + count → t.took ≡ s.took → IsOneTurn a b s t event
act_made a m b event count s t first made quiet turns sent took = record {
  one = act_entry m event made.sent b.part;
  work = joined a m b [] (act_entry m event made.sent b.part ∷ []) first made.work;
  event_is = refl;
  added = record { turns = turns; sent = omega (arith, sent, made.counted); took = rw quiet (omega (arith, took)) };
}

-- a turn that is no retry, or none, has an account
pub acted_turns : (r : Option Stop) (a b : Worker) (s t : Progress) (event : Event) → is_retry event ≡ false → (a.stimuli.items ≢ [] → IsTrue (is_command event))
    → MatchOption r (IsOneTurn a b s t event) (λ stop. IsWork a b [] × (t ≡ s)) → AreTurns a b s t
acted_turns None a b s t event no_retry begins turn = record {
  log = turn.one ∷ [];
  work = turn.work;
  added = turn.added;
  first = λ some. rw turn.event_is (begins some);
  no_retry = rw (turn.event_is, no_retry) refl;
}
acted_turns (Some stop) a b s t event no_retry begins turn = subst (λ (u : Progress). AreTurns a b s u) (sym turn.1) (unmoved a b s turn.0)

-- ---- stamps

bound_by : (a : ℕ) (log : List Claimed) → AreStamped a log → AllByRecursion ClaimsWithin log → last_stamp a log ≤ max a STAMP_LIMIT + length log
bound_by a [] p q = omega arith
bound_by a (one ∷ log) p q = let rest = bound_by one.entry.stamp log p.1 q.1 in omega (arith, p.0, q.0, rest)

-- stamps rise by at most one a turn, from the greatest stamp that is taken
pub stamps_bound : (a b : Worker) (log : List Claimed) → IsWork a b log → b.stamp ≤ max a.stamp STAMP_LIMIT + length log
stamps_bound a b log work = let bound = bound_by a.stamp log work.stamps work.claims in omega (arith, bound, work.last)

-- ---- what a worker keeps

all_back : {X : Type 0} (P : X → Type 0) (xs ys : List X) → AllByRecursion P (xs ++ ys) → AllByRecursion P ys
all_back P [] ys all = all
all_back P (x ∷ xs) ys all = all_back P xs ys all.1

-- it is ready for the next turn
pub ready_after : (a b : Worker) (log : List Claimed) → IsWork a b log → box_shape b.part ≡ box_shape a.part → IsShaped b → IsReady a → b.shifts ≤ SHIFT_LIMIT → IsReady b
ready_after a b log work same shaped ready few = record {
  shaped = shaped;
  allowed = all_allowed b.stimuli.items a.part b.part same
      (all_back (IsAllowed a.part) (events_that is_command log) b.stimuli.items (subst (λ (l : List Event). AllByRecursion (IsAllowed a.part) l) (sym work.stimuli) ready.allowed));
  shifts = few;
}

shift_by : (test : Bool) (event : Event) (a b : ℕ) → b ≡ a + length ((if test then event ∷ [] else []) ++ []) → (IsTrue test → a < SHIFT_LIMIT) → a ≤ SHIFT_LIMIT → b ≤ SHIFT_LIMIT
shift_by true event a b is less most = let under : a < SHIFT_LIMIT = less refl in omega (arith, is, under)
shift_by false event a b is less most = omega (arith, is)

-- one event is at most one shift
pub one_shift : (a b : Worker) (one : Claimed) (event : Event) → IsWork a b (one ∷ []) → one.entry.event ≡ event → (IsTrue (is_shift event) → a.shifts < SHIFT_LIMIT) → a.shifts ≤ SHIFT_LIMIT → b.shifts ≤ SHIFT_LIMIT
one_shift a b one event work is less most = shift_by (is_shift one.entry.event) one.entry.event a.shifts b.shifts work.shifts (λ on. less (rw is at on)) most

-- a worker in a round is so after one turn more
pub under_way_after : (a b : Worker) (one : Claimed) (s t : Progress) → IsUnderWay a s → s.turns < TURN_LIMIT → IsWork a b (one ∷ []) → AreAdded s t (one ∷ []) → length one.entry.sent ≤ turn_sends_limit
    → IsReady b → (0 < t.passed → AreEmpty b.inboxes) → IsUnderWay b t
under_way_after a b one s t under fewer work added few ready empty = record {
  ready = ready;
  turns = omega (arith, added.turns, fewer);
  sent = omega (arith, added.sent, added.turns, under.sent, few);
  took = let took = taken_most one in omega (arith, added.took, added.turns, under.took, took);
  stamp = let bound = stamps_bound a b (one ∷ []) work in omega (arith, bound, under.stamp, added.turns);
  empty = empty;
}
  where
    taken_by : (test : Bool) (event : Event) → length ((if test then event ∷ [] else []) ++ []) ≤ 1
    taken_by true event = omega arith
    taken_by false event = omega arith

    taken_most : (one : Claimed) → length (events_that is_take (one ∷ [])) ≤ 1
    taken_most one = taken_by (is_take one.entry.event) one.entry.event

-- ---- why a round ended

-- that all is idle follows where it is asked for
pub cause_for : (I J : Type 0) (b : Worker) (stop : Stop) → (I → J) → HasStopped I b stop → HasStopped J b stop
cause_for I J b Rested more cause = (cause.0, cause.1, more cause.2)
cause_for I J b Spent more cause = cause
cause_for I J b (NoMemory error) more cause = cause
cause_for I J b (VersionEnd slot) more cause = cause
cause_for I J b (Strange end tunnel) more cause = cause

-- what was passed is idle since the beginning
pub idle_on : (from end : ℕ) (first a b : InEnd) → first.looks ≤ a.looks → (end < from → IsIdle first a) → Passed from end a b → IsIdle first b
idle_on from end first a b looks before (inl same) = subst (λ (e : InEnd). IsIdle first e) (sym same.1) (before same.0)
idle_on from end first a b looks before (inr idle) = idle_from first a b looks idle

-- ends that were passed stay so where what changes is ahead
pub passed_on : (from passed at : ℕ) (a b c : Worker) → passed ≤ at → ((e : ℕ) → e ≢ at → in_at c e ≡ in_at b e) → AllPassed from passed a b → AllPassed from passed a c
passed_on from passed at a b c ahead others all end inside =
    let off : end ≢ at = omega (arith, inside, ahead) in
    subst (λ (e : InEnd). Passed from end (in_at a end) e) (sym (others end off)) (all end inside)

command_kind : (event : Event) → is_command event ≡ true → (is_take event ≡ false) × (is_retry event ≡ false) × (is_shift event ≡ false)
command_kind (Set change) is = (refl, refl, refl)
command_kind (Media change) is = (refl, refl, refl)
command_kind (Tell word) is = (refl, refl, refl)
command_kind (Take slot) is = absurd (cc)
command_kind (Retry slot) is = absurd (cc)
command_kind Shift is = absurd (cc)

-- the first stimulus can be made
pub record IsNextStimulus (box : BoxState) (event : Event) : Type 0 where
  pub no_take : is_take event ≡ false
  pub no_retry : is_retry event ≡ false
  pub no_shift : is_shift event ≡ false
  pub command : is_command event ≡ true
  pub enabled : is_enabled box event ≡ true

pub next_stimulus : (box : BoxState) (events : List Event) (event : Event) → AllByRecursion (IsAllowed box) events → slice_get events 0 ≡ Some event → IsNextStimulus box event
next_stimulus box [] event allowed first = cc
next_stimulus box (next ∷ events) event allowed first =
    let same : next ≡ event = cc in
    let both = and_parts (is_command next) (is_enabled box next) (sym (shape_enables box next) ∙ allowed.0) in
    let kind = command_kind next both.0 in
    subst (λ (e : Event). IsNextStimulus box e) same (record { no_take = kind.0; no_retry = kind.1; no_shift = kind.2; command = both.0; enabled = both.1 })

-- ---- fronts that can't be taken

-- that the next at an end is strange
abbrev pub IsStrangeFront : Worker → ℕ → ℕ → Type 0
IsStrangeFront w end tunnel = MatchOption (next_in (in_at w end)) ⊥ (λ found. (found.tunnel ≡ tunnel) × IsStrange w end found)

strange_by : (w : Worker) (end : ℕ) (item : Stamped) → next_in (in_at w end) ≡ Some item → IsStrange w end item → IsStrangeFront w end item.tunnel
strange_by w end item next strange = subst (λ (o : Option Stamped). MatchOption o ⊥ (λ found. (found.tunnel ≡ item.tunnel) × IsStrange w end found)) (sym next) (refl, strange)

none_of : {X : Type 0} (o : Option X) → is_some o ≡ false → o ≡ None
none_of None is = refl
none_of (Some x) is = cc

pub some_is : {X : Type 0} (o : Option X) → is_some o ≡ true → IsSome o
some_is None is = cc
some_is (Some x) is = refl

-- one that the slot with its place can't take
pub unlawful_front : (w : Worker) (end slot : ℕ) (item : Stamped) → next_in (in_at w end) ≡ Some item → slice_get w.place slot ≡ Some (end, item.tunnel)
    → ((s t : ℕ) (place : ℕ × ℕ) → slice_get w.place s ≡ Some place → slice_get w.place t ≡ Some place → s ≡ t)
    → is_some (slot_take (slot_at w.part slot) item.signal) ≡ false → IsStrangeFront w end item.tunnel
unlawful_front w end slot item next place apart off =
    strange_by w end item next
    (inr (λ s at. subst (λ (t : ℕ). slot_take (slot_at w.part t) item.signal ≡ None) (apart slot s (end, item.tunnel) place at) (none_of (slot_take (slot_at w.part slot) item.signal) off)))

-- ---- retries

-- events, and then more
pub retried_joined : (a b c : Worker) (s t u : Progress) (first second : List Event) → AreRetried a b s t first → AreRetried b c t u second → AreRetried a c s u (first ++ second)
retried_joined a b c s t u first second p q = record {
  log = p.log ++ q.log;
  work = joined a b c p.log q.log p.work q.work;
  events_are = rw (map-append event_of p.log q.log, p.events_are, q.events_are) refl;
  added = added_joined s t u p.log q.log p.added q.added;
  no_take = rw (events_that-append is_take p.log q.log, p.no_take, q.no_take) refl;
  no_stimulus = rw (events_that-append is_command p.log q.log, p.no_stimulus, q.no_stimulus) refl;
}

pub none_retried : (a b : Worker) (s : Progress) → IsWork a b [] → AreRetried a b s s []
none_retried a b s work = record { log = []; work = work; events_are = refl; added = none_added s; no_take = refl; no_stimulus = refl }

-- ---- the whole round

-- retries, and then the other turns
pub whole_round : (retries : Bool) (a m b : Worker) (s t u : Progress) (end : RoundEnd) (stop : Stop) → s.turns ≡ 0 → s.sent ≡ 0 → s.took ≡ 0
    → AreRetried a m s t (retries_below retries a.part (length a.part.slots)) → AreTurns m b t u → b.shifts ≤ SHIFT_LIMIT
    → end ≡ record { turns = u.turns; sent = u.sent; took = u.took; stop = stop } → IsRound retries a b end
whole_round retries a m b s t u end stop s0 s1 s2 p q few e =
    let all = added_joined s t u p.log q.log p.added q.added in
    let same : m.stimuli.items ≡ a.stimuli.items = rw p.no_stimulus at p.work.stimuli in
    record {
      log = p.log ++ q.log;
      account = record {
        work = joined a m b p.log q.log p.work q.work;
        first = p.log;
        rest = q.log;
        parts = refl;
        below = length a.part.slots;
        retried = p.events_are;
        whole = inr refl;
        no_other = q.no_retry;
        few_shifts = few;
      };
      retries_first = inl refl;
      turns = rw e (omega (arith, all.turns, s0));
      sent = rw e (omega (arith, all.sent, s1));
      took = rw e (omega (arith, all.took, s2));
      first = λ some. q.first (λ none. some (sym same ∙ none));
    }

-- retries, and then a stop for memory
pub cut_short : (retries : Bool) (a b : Worker) (s u : Progress) (end : RoundEnd) (stop : Stop) → s.turns ≡ 0 → s.sent ≡ 0 → s.took ≡ 0
    → IsTrue retries → IsCutShort a b s u stop → b.shifts ≤ SHIFT_LIMIT → end ≡ record { turns = u.turns; sent = u.sent; took = u.took; stop = stop } → IsRound retries a b end
cut_short false a b s u end stop s0 s1 s2 on p few e = cc
cut_short true a b s u end stop s0 s1 s2 on p few e = record {
  log = p.made.log;
  account = record {
    work = p.made.work;
    first = p.made.log;
    rest = [];
    parts = sym (append-nil p.made.log);
    below = p.below;
    retried = p.made.events_are;
    whole = inl (rw e p.memory);
    no_other = refl;
    few_shifts = few;
  };
  retries_first = inr (rw e p.memory, refl);
  turns = rw e (omega (arith, p.made.added.turns, s0));
  sent = rw e (omega (arith, p.made.added.sent, s1));
  took = rw e (omega (arith, p.made.added.took, s2));
  first = λ some. tt;
}
