-- A merge of logs, entry by entry.
use Rattle.std.proofs.Common.{◌≡◌, ◌≢◌, ◌==◌, if◌then◌else◌, Bool, true, false, ℕ, ◌+◌, ◌<◌, ◌≤◌, List, [], ◌∷◌, ◌++◌, length, length-append, map, Vec, Global, append_assoc, None, inl, inr, zero, suc, refl, ap, sym, ◌∙◌, subst, arith}
use Rattle.std.specs.List.{AllByRecursion, sum_by}
use Rattle.std.proofs.Math.ListN.{get_or, set}
use Rattle.std.proofs.lemmas.Bool.{cases_eq, cases_lt, eq-eqb}
use Rattle.std.proofs.lemmas.Grind.{common_steps}
use Rattle.std.proofs.lemmas.List.{append-nil, get_or-map, get_or-set_other, get_or-set_same, get_or_past, length-map, length-set, map-set, set-set}
use Rattle.std.proofs.lemmas.List.Sums.{sum_by-cons, sum_by-set}
use Rattle.std.proofs.Math.Seq.{map-set_same}
use Rattle.mc_box.specs.declared.event.Turn.{Turn}
use Rattle.mc_merge.specs.Weaving.{AddsMerged, AreClimbing, AreKnown, AreWritten, Climb, HasTime, IsKnown, IsNext, IsNextLog, IsPast, IsTimeFrom, IsWritten, TakesUntil, clock_at, clocks_of, entry_count, log_at, logs_of, made_stamps, numbers_at, numbers_of, of_part, times_by, turn_by, turn_in, turns_at, turns_of}
use Rattle.mc_merge.specs.declared.log.Made.{Made}
use Rattle.mc_merge.specs.declared.log.PartLog.{PartLog}
use Rattle.mc_merge.specs.declared.merged.NextLog.{NextLog}
use Rattle.mc_merge.proofs.Climbing.{all_push, climb_push, of_append}

-- all times that are done are none above those that a log has left
abbrev AreBelow : List ℕ → ℕ → List ℕ → Type 0
AreBelow done clock stamps = AllByRecursion (λ (later : ℕ). AllByRecursion (λ (time : ℕ). time ≤ clock + later) done) stamps

-- what is done, and what each log has left
pub record Merging (clock : ℕ → ℕ) (start now : List (List Made)) (numbers : List (List ℕ)) (before turns : List Turn) : Type 0 where
  pub done : List (ℕ × Made)
  pub each : (part : ℕ) → of_part part done ++ log_at now part ≡ log_at start part
  pub order : Climb (times_by clock done)
  pub above : (part : ℕ) → AreBelow (times_by clock done) (clock part) (made_stamps (log_at now part))
  pub climb : AreClimbing now
  pub turns_are : turns ≡ before ++ map (turn_in numbers) done

nothing_above : (clock : ℕ) (stamps : List ℕ) → AreBelow [] clock stamps
nothing_above clock [] = tt
nothing_above clock (stamp ∷ stamps) = (tt, nothing_above clock stamps)

pub merging_init : (clock : ℕ → ℕ) (start : List (List Made)) (numbers : List (List ℕ)) (before : List Turn) → AreClimbing start → Merging clock start start numbers before before
merging_init clock start numbers before climb = record {
  done = [];
  each = λ part. refl;
  order = tt;
  above = λ part. nothing_above (clock part) (made_stamps (log_at start part));
  climb = climb;
  turns_are = sym (append-nil before);
}

-- ---- one more

all_up : (stamps : List ℕ) (time clock low : ℕ) → time ≤ clock + low → AllByRecursion (λ (later : ℕ). low ≤ later) stamps → AllByRecursion (λ (later : ℕ). time ≤ clock + later) stamps
all_up [] time clock low least all = tt
all_up (first ∷ stamps) time clock low least all = (let above : low ≤ first = all.0 in omega arith, all_up stamps time clock low least all.1)

-- all of a log is from its front on
from_front : (log : List Made) (time clock : ℕ) → Climb (made_stamps log) → IsTimeFrom time clock log → AllByRecursion (λ (later : ℕ). time ≤ clock + later) (made_stamps log)
from_front [] time clock climb front = tt
from_front (made ∷ log) time clock climb front = (front, all_up (made_stamps log) time clock made.stamp front climb.0)

-- one more time below
above_more : (stamps done : List ℕ) (clock time : ℕ) → AreBelow done clock stamps → AllByRecursion (λ (later : ℕ). time ≤ clock + later) stamps → AreBelow (done ++ time ∷ []) clock stamps
above_more [] done clock time above from = tt
above_more (later ∷ stamps) done clock time above from = (all_push (λ (t : ℕ). t ≤ clock + later) done time above.0 from.0, above_more stamps done clock time above.1 from.1)

-- the front of one log leaves
record Leaves (now next : List (List Made)) (part : ℕ) (made : Made) (rest : List Made) : Type 0 where
  was : log_at now part ≡ made ∷ rest
  here : log_at next part ≡ rest
  others : (other : ℕ) → other ≢ part → log_at next other ≡ log_at now other

-- what holds of each log still does
by_log : (P : ℕ → List Made → Type 0) (now next : List (List Made)) (part : ℕ) (made : Made) (rest : List Made) → Leaves now next part made rest → (P part (made ∷ rest) → P part rest)
    → (other : ℕ) → P other (log_at now other) → P other (log_at next other)
by_log P now next part made rest leaves tail other holds = elim (cases_eq other part) [
  | inl same ↦ subst (λ (n : ℕ). P n (log_at next n)) (sym same) (subst (λ (l : List Made). P part l) (sym leaves.here)
      (tail (subst (λ (l : List Made). P part l) leaves.was (subst (λ (n : ℕ). P n (log_at now n)) same holds))))
  | inr apart ↦ subst (λ (l : List Made). P other l) (sym (leaves.others other apart)) holds
]

-- an item of one list alone
kept_one : (test : Bool) (made : Made) → test ≡ true → (if test then made ∷ [] else []) ++ [] ≡ made ∷ []
kept_one true made is = refl
kept_one false made is = absurd (cc)

of_one : (part other : ℕ) (made : Made) → other ≡ part → of_part other ((part, made) ∷ []) ≡ made ∷ []
of_one part other made same = subst (λ (n : ℕ). of_part n ((part, made) ∷ []) ≡ made ∷ []) (sym same) (kept_one (part == part) made (eq-eqb part part refl))

of_none : (part other : ℕ) (made : Made) → other ≢ part → of_part other ((part, made) ∷ []) ≡ []
of_none part other made apart = grind (arith, common_steps)

each_more : (start now next : List (List Made)) (done : List (ℕ × Made)) (part : ℕ) (made : Made) (rest : List Made) → Leaves now next part made rest
    → (other : ℕ) → of_part other done ++ log_at now other ≡ log_at start other → of_part other (done ++ (part, made) ∷ []) ++ log_at next other ≡ log_at start other
each_more start now next done part made rest leaves other is =
    let more = of_append other done ((part, made) ∷ []) in
    elim (cases_eq other part) [
      | inl same ↦
          let there : log_at next other ≡ rest = ap (λ (n : ℕ). log_at next n) same ∙ leaves.here in
          let was : log_at now other ≡ made ∷ rest = ap (λ (n : ℕ). log_at now n) same ∙ leaves.was in
          ap (λ (l : List Made). l ++ log_at next other) (more ∙ ap (λ (l : List Made). of_part other done ++ l) (of_one part other made same))
          ∙ (ap (λ (l : List Made). (of_part other done ++ made ∷ []) ++ l) there
          ∙ (append_assoc (of_part other done) (made ∷ []) rest ∙ (ap (λ (l : List Made). of_part other done ++ l) (sym was) ∙ is)))
      | inr apart ↦
          ap (λ (l : List Made). l ++ log_at next other) (more ∙ (ap (λ (l : List Made). of_part other done ++ l) (of_none part other made apart) ∙ append-nil (of_part other done)))
          ∙ (ap (λ (l : List Made). of_part other done ++ l) (leaves.others other apart) ∙ is)
    ]

times_push : (clock : ℕ → ℕ) (done : List (ℕ × Made)) (item : ℕ × Made) → times_by clock (done ++ item ∷ []) ≡ times_by clock done ++ (clock item.0 + item.1.stamp) ∷ []
times_push clock [] item = refl
times_push clock (first ∷ done) item = ap (λ l. (clock first.0 + first.1.stamp) ∷ l) (times_push clock done item)

turns_push : (numbers : List (List ℕ)) (done : List (ℕ × Made)) (item : ℕ × Made) → map (turn_in numbers) (done ++ item ∷ []) ≡ map (turn_in numbers) done ++ turn_in numbers item ∷ []
turns_push numbers [] item = refl
turns_push numbers (first ∷ done) item = ap (λ l. turn_in numbers first ∷ l) (turns_push numbers done item)

tail_climbs : (made : Made) (rest : List Made) → Climb (made_stamps (made ∷ rest)) → Climb (made_stamps rest)
tail_climbs made rest climb = climb.1

-- no other log has a time below that of the front that leaves
abbrev OthersFrom : (ℕ → ℕ) → List (List Made) → ℕ → Made → Type 0
OthersFrom clock now part made = (other : ℕ) → other ≢ part → IsTimeFrom (clock part + made.stamp) (clock other) (log_at now other)

-- nor has its own
all_fronts : (clock : ℕ → ℕ) (now next : List (List Made)) (part : ℕ) (made : Made) (rest : List Made) → Leaves now next part made rest → OthersFrom clock now part made
    → (other : ℕ) → IsTimeFrom (clock part + made.stamp) (clock other) (log_at now other)
all_fronts clock now next part made rest leaves others other = elim (cases_eq other part) [
  | inl same ↦ subst (λ (n : ℕ). IsTimeFrom (clock part + made.stamp) (clock n) (log_at now n)) (sym same)
      (subst (λ (l : List Made). IsTimeFrom (clock part + made.stamp) (clock part) l) (sym leaves.was) (omega arith))
  | inr apart ↦ others other apart
]

step_on : (clock : ℕ → ℕ) (start now next : List (List Made)) (numbers : List (List ℕ)) (before turns : List Turn) (part : ℕ) (made : Made) (rest : List Made)
    → Leaves now next part made rest → OthersFrom clock now part made
    → Merging clock start now numbers before turns → Merging clock start next numbers before (turns ++ turn_in numbers (part, made) ∷ [])
step_on clock start now next numbers before turns part made rest leaves others merging =
    let time : ℕ = clock part + made.stamp in
    let from : (other : ℕ) → AllByRecursion (λ (later : ℕ). time ≤ clock other + later) (made_stamps (log_at now other)) =
    λ other. from_front (log_at now other) time (clock other) (merging.climb other) (all_fronts clock now next part made rest leaves others other) in
    let all_before : AllByRecursion (λ (t : ℕ). t ≤ time) (times_by clock merging.done) =
    (let all : AreBelow (times_by clock merging.done) (clock part) (made_stamps (made ∷ rest)) =
    subst (λ (l : List Made). AreBelow (times_by clock merging.done) (clock part) (made_stamps l)) leaves.was (merging.above part) in all.0) in
    record {
      done = merging.done ++ (part, made) ∷ [];
      each = λ other. each_more start now next merging.done part made rest leaves other (merging.each other);
      order = subst Climb (sym (times_push clock merging.done (part, made))) (climb_push (times_by clock merging.done) time merging.order all_before);
      above = λ other. by_log (λ (n : ℕ) (l : List Made). AreBelow (times_by clock (merging.done ++ (part, made) ∷ [])) (clock n) (made_stamps l))
          now next part made rest leaves (λ all. all.1) other
          (subst (λ (done : List ℕ). AreBelow done (clock other) (made_stamps (log_at now other))) (sym (times_push clock merging.done (part, made)))
          (above_more (made_stamps (log_at now other)) (times_by clock merging.done) (clock other) time (merging.above other) (from other)));
      climb = λ other. by_log (λ (n : ℕ) (l : List Made). Climb (made_stamps l)) now next part made rest leaves (tail_climbs made rest) other (merging.climb other);
      turns_are = ap (λ (l : List Turn). l ++ turn_in numbers (part, made) ∷ []) merging.turns_are
          ∙ (append_assoc before (map (turn_in numbers) merging.done) (turn_in numbers (part, made) ∷ []) ∙ ap (λ (l : List Turn). before ++ l) (sym (turns_push numbers merging.done (part, made))));
    }

-- ---- several of one log

-- its front leaves
front_leaves : (now : List (List Made)) (part : ℕ) (made : Made) (rest : List Made) → part < length now → log_at now part ≡ made ∷ rest → Leaves now (set now part rest) part made rest
front_leaves now part made rest inside was = record {
  was = was;
  here = get_or-set_same now part rest [] inside;
  others = λ other apart. get_or-set_other now part other rest [] apart;
}

-- the others come later, whichever of these leaves
abbrev AllBefore : (ℕ → ℕ) → List (List Made) → ℕ → List Made → Type 0
AllBefore clock now part items = AllByRecursion (λ (made : Made). OthersFrom clock now part made) items

others_stay : (clock : ℕ → ℕ) (now : List (List Made)) (part : ℕ) (one items : List Made) → AllBefore clock now part items → AllBefore clock (set now part one) part items
others_stay clock now part one [] before = tt
others_stay clock now part one (made ∷ items) before = (
  λ other apart. subst (λ (l : List Made). IsTimeFrom (clock part + made.stamp) (clock other) l) (sym (get_or-set_other now part other one [] apart)) (before.0 other apart),
  others_stay clock now part one items before.1,
)

set_is : (now : List (List Made)) (part : ℕ) (log : List Made) → part < length now → log_at now part ≡ log → set now part log ≡ now
set_is [] part log inside is = refl
set_is (first ∷ now) zero log inside is = ap (λ (l : List Made). l ∷ now) (sym is)
set_is (first ∷ now) (suc part) log inside is = ap (λ (l : List (List Made)). first ∷ l) (set_is now part log (omega arith) is)

pub steps_on : (clock : ℕ → ℕ) (items : List Made) (start now : List (List Made)) (numbers : List (List ℕ)) (before turns : List Turn) (part : ℕ) (rest : List Made)
    → part < length now → log_at now part ≡ items ++ rest → AllBefore clock now part items
    → Merging clock start now numbers before turns → Merging clock start (set now part rest) numbers before (turns ++ map (turn_by (numbers_at numbers part)) items)
steps_on clock [] start now numbers before turns part rest inside was others merging =
    subst (λ (l : List Turn). Merging clock start (set now part rest) numbers before l) (sym (append-nil turns))
    (subst (λ (l : List (List Made)). Merging clock start l numbers before turns) (sym (set_is now part rest inside was)) merging)
steps_on clock (made ∷ items) start now numbers before turns part rest inside was others merging =
    let leave = front_leaves now part made (items ++ rest) inside was in
    let one = step_on clock start now (set now part (items ++ rest)) numbers before turns part made (items ++ rest) leave others.0 merging in
    let more = steps_on clock items start (set now part (items ++ rest)) numbers before (turns ++ turn_by (numbers_at numbers part) made ∷ []) part rest
    (subst (λ (n : ℕ). part < n) (sym (length-set now part (items ++ rest))) inside) leave.here (others_stay clock now part (items ++ rest) items others.1) one in
    subst (λ (l : List Turn). Merging clock start (set now part rest) numbers before l)
    (append_assoc turns (turn_by (numbers_at numbers part) made ∷ []) (map (turn_by (numbers_at numbers part)) items))
    (subst (λ (l : List (List Made)). Merging clock start l numbers before ((turns ++ turn_by (numbers_at numbers part) made ∷ []) ++ map (turn_by (numbers_at numbers part)) items)) (set-set now part (items ++ rest) rest) more)

-- ---- logs as they stand

pub record IsUnderWay (start now : List PartLog) (before turns : List Turn) (len capacity : ℕ) : Type 0 where
  pub merging : Merging (clock_at (clocks_of start)) (logs_of start) (logs_of now) (numbers_of start) before turns
  pub numbers : numbers_of now ≡ numbers_of start
  pub clocks : clocks_of now ≡ clocks_of start
  pub known : AreKnown now
  pub written : AreWritten now
  pub room : len + entry_count (logs_of now) ≤ capacity

pub under_way : (start : List PartLog) (before : List Turn) (len capacity : ℕ) → AreKnown start → AreClimbing (logs_of start) → AreWritten start → len + entry_count (logs_of start) ≤ capacity → IsUnderWay start start before before len capacity
under_way start before len capacity known climb written room = record {
  merging = merging_init (clock_at (clocks_of start)) (logs_of start) (numbers_of start) before climb;
  numbers = refl;
  clocks = refl;
  known = known;
  written = written;
  room = room;
}

-- ---- the log that comes next

long_logs : (logs : List PartLog) → length (logs_of logs) ≡ length logs
long_logs logs = length-map logs (λ (l : PartLog). l.made.items)

-- what stands in its place
pub record Comes (logs : List PartLog) (next : NextLog) (log : PartLog) : Type 0 where
  pub inside : next.part < length logs
  pub is : log_at (logs_of logs) next.part ≡ log.made.items
  pub numbers : numbers_at (numbers_of logs) next.part ≡ log.numbers.items
  pub clock : clock_at (clocks_of logs) next.part ≡ log.clock
  pub turns : turns_at (turns_of logs) next.part ≡ log.turns.items
  pub front : HasTime next.time log.clock log.made.items
  pub least : next.time ≤ next.until
  pub others : (other : ℕ) → other ≢ next.part → IsTimeFrom next.until (clock_at (clocks_of logs) other) (log_at (logs_of logs) other)

pub comes : (logs : List PartLog) (next : NextLog) (log : PartLog) → IsNextLog (clocks_of logs) (logs_of logs) (length logs) next → log ≡ get_or logs next.part log → Comes logs next log
comes logs next log is_next is =
    let here : log_at (logs_of logs) next.part ≡ log.made.items = get_or-map (λ (l : PartLog). l.made.items) logs next.part log [] is_next.inside ∙ ap (λ (l : PartLog). l.made.items) (sym is) in
    let begins : clock_at (clocks_of logs) next.part ≡ log.clock = get_or-map (λ (l : PartLog). l.clock) logs next.part log 0 is_next.inside ∙ ap (λ (l : PartLog). l.clock) (sym is) in
    record {
      inside = is_next.inside;
      is = here;
      numbers = get_or-map (λ (l : PartLog). l.numbers.items) logs next.part log [] is_next.inside ∙ ap (λ (l : PartLog). l.numbers.items) (sym is);
      clock = begins;
      turns = get_or-map (λ (l : PartLog). l.turns.items) logs next.part log [] is_next.inside ∙ ap (λ (l : PartLog). l.turns.items) (sym is);
      front = subst (λ (l : List Made). HasTime next.time log.clock l) here (subst (λ (n : ℕ). HasTime next.time n (log_at (logs_of logs) next.part)) begins is_next.front);
      least = is_next.least;
      others = λ other apart. elim (cases_lt other (length logs)) [
        | inl below ↦ is_next.others other below apart
        | inr past ↦ subst (λ (l : List Made). IsTimeFrom next.until (clock_at (clocks_of logs) other) l)
            (sym (get_or_past (logs_of logs) other [] (subst (λ (n : ℕ). n ≤ other) (sym (long_logs logs)) past))) tt
      ];
    }

-- a log in its place changes
logs_after : (logs : List PartLog) (part : ℕ) (log : PartLog) → logs_of (set logs part log) ≡ set (logs_of logs) part log.made.items
logs_after logs part log = map-set (λ (l : PartLog). l.made.items) logs part log

numbers_after : (logs : List PartLog) (part : ℕ) (was log : PartLog) → was ≡ get_or logs part was → log.numbers ≡ was.numbers → numbers_of (set logs part log) ≡ numbers_of logs
numbers_after logs part was log is same =
    map-set_same (λ (l : PartLog). l.numbers.items) logs part log was (ap (λ (v : Vec ℕ Global). v.items) same ∙ ap (λ (l : PartLog). l.numbers.items) is)

clocks_after : (logs : List PartLog) (part : ℕ) (was log : PartLog) → was ≡ get_or logs part was → log.clock ≡ was.clock → clocks_of (set logs part log) ≡ clocks_of logs
clocks_after logs part was log is same = map-set_same (λ (l : PartLog). l.clock) logs part log was (same ∙ ap (λ (l : PartLog). l.clock) is)

-- what is written down in its place
written_after : (logs : List PartLog) (part : ℕ) (log : PartLog) → AreWritten logs → log.turns.items ≡ [] → (other : ℕ)
    → IsWritten (numbers_at (numbers_of (set logs part log)) other) (log_at (logs_of (set logs part log)) other) (turns_at (turns_of (set logs part log)) other)
written_after [] part log written none other = written other
written_after (first ∷ logs) zero log written none zero = inl none
written_after (first ∷ logs) zero log written none (suc other) = written (suc other)
written_after (first ∷ logs) (suc part) log written none zero = written zero
written_after (first ∷ logs) (suc part) log written none (suc other) = written_after logs part log (λ (n : ℕ). written (suc n)) none other

-- ---- it goes on

-- an entry up to `until` is before what is left of another log
before_log : (time until clock : ℕ) (log : List Made) → time ≤ until → IsTimeFrom until clock log → IsTimeFrom time clock log
before_log time until clock [] within from = tt
before_log time until clock (made ∷ log) within from = omega arith

-- and so are all of several
before_logs : (clock : ℕ → ℕ) (now : List (List Made)) (part until : ℕ) (items : List Made) → ((other : ℕ) → other ≢ part → IsTimeFrom until (clock other) (log_at now other))
    → AllByRecursion (λ (made : Made). clock part + made.stamp ≤ until) items → AllBefore clock now part items
before_logs clock now part until [] others within = tt
before_logs clock now part until (made ∷ items) others within = (
  λ other apart. before_log (clock part + made.stamp) until (clock other) (log_at now other) within.0 (others other apart),
  before_logs clock now part until items others within.1,
)

-- as many entries less
count_less : (logs : List PartLog) (part : ℕ) (items rest : List Made) → part < length logs → log_at (logs_of logs) part ≡ items ++ rest
    → entry_count (set (logs_of logs) part rest) + length items ≡ entry_count (logs_of logs)
count_less logs part items rest inside was =
    let sums : sum_by (λ (l : List Made). length l) (set (logs_of logs) part rest) + length (get_or (logs_of logs) part []) ≡ sum_by (λ (l : List Made). length l) (logs_of logs) + length rest =
    sum_by-set (λ (l : List Made). length l) (logs_of logs) part rest [] (subst (λ (n : ℕ). part < n) (sym (long_logs logs)) inside) in
    let long : length (get_or (logs_of logs) part []) ≡ length items + length rest = ap (λ (l : List Made). length l) was ∙ length-append items rest in
    omega arith

-- what is left of a known log is known
known_rest : (numbers : List ℕ) (items rest : List Made) → IsKnown numbers (items ++ rest) → IsKnown numbers rest
known_rest numbers [] rest known = known
known_rest numbers (made ∷ items) rest known = known_rest numbers items rest known.1

known_then : (logs : List PartLog) (part : ℕ) (items rest : List Made) → part < length (logs_of logs) → log_at (logs_of logs) part ≡ items ++ rest → AreKnown logs
    → (other : ℕ) → IsKnown (numbers_at (numbers_of logs) other) (log_at (set (logs_of logs) part rest) other)
known_then logs part items rest inside was known other = elim (cases_eq other part) [
  | inl same ↦ subst (λ (n : ℕ). IsKnown (numbers_at (numbers_of logs) n) (log_at (set (logs_of logs) part rest) n)) (sym same)
      (subst (λ (l : List Made). IsKnown (numbers_at (numbers_of logs) part) l) (sym (get_or-set_same (logs_of logs) part rest [] inside))
      (known_rest (numbers_at (numbers_of logs) part) items rest (subst (λ (l : List Made). IsKnown (numbers_at (numbers_of logs) part) l) was (known part))))
  | inr apart ↦ subst (λ (l : List Made). IsKnown (numbers_at (numbers_of logs) other) l) (sym (get_or-set_other (logs_of logs) part other rest [] apart)) (known other)
]

-- a list of turns is longer by these
longer : (turns turns_2 : List Turn) (numbers : List ℕ) (items : List Made) → turns_2 ≡ turns ++ map (turn_by numbers) items → length turns_2 ≡ length turns + length items
longer turns turns_2 numbers items added =
    ap (λ (l : List Turn). length l) added ∙ (length-append turns (map (turn_by numbers) items) ∙ ap (λ (n : ℕ). length turns + n) (length-map items (turn_by numbers)))

pub goes_on : (start now : List PartLog) (before turns turns_2 : List Turn) (len len_2 capacity capacity_2 : ℕ) (next : NextLog) (log log_2 : PartLog)
    → len ≡ length turns → len_2 ≡ length turns_2 → capacity ≤ capacity_2 → IsUnderWay start now before turns len capacity → Comes now next log → log ≡ get_or now next.part log
    → TakesUntil next.until log log_2 turns turns_2 → log_2.numbers ≡ log.numbers → log_2.clock ≡ log.clock → log_2.turns.items ≡ []
    → IsUnderWay start (set now next.part log_2) before turns_2 len_2 capacity_2
goes_on start now before turns turns_2 len len_2 capacity capacity_2 next log log_2 len_is len_2_is same_room way come is takes numbers clock none =
    let clocks : ℕ → ℕ = clock_at (clocks_of start) in
    let inside : next.part < length (logs_of now) = subst (λ (n : ℕ). next.part < n) (sym (long_logs now)) come.inside in
    let was : log_at (logs_of now) next.part ≡ takes.items ++ log_2.made.items = come.is ∙ takes.taken in
    let after = logs_after now next.part log_2 in
    let same : numbers_of (set now next.part log_2) ≡ numbers_of now = numbers_after now next.part log log_2 is numbers in
    let table : numbers_at (numbers_of start) next.part ≡ log.numbers.items = ap (λ (l : List (List ℕ)). numbers_at l next.part) (sym way.numbers) ∙ come.numbers in
    let begins : log.clock ≡ clocks next.part = sym come.clock ∙ ap (λ (l : List ℕ). clock_at l next.part) way.clocks in
    let count : entry_count (set (logs_of now) next.part log_2.made.items) + length takes.items ≡ entry_count (logs_of now) = count_less now next.part takes.items log_2.made.items come.inside was in
    let counts : entry_count (logs_of (set now next.part log_2)) ≡ entry_count (set (logs_of now) next.part log_2.made.items) = ap entry_count after in
    let long : length turns_2 ≡ length turns + length takes.items = longer turns turns_2 log.numbers.items takes.items takes.added in
    let room : len + entry_count (logs_of now) ≤ capacity = way.room in
    let others = before_logs clocks (logs_of now) next.part next.until takes.items
    (λ other apart. subst (λ (l : List ℕ). IsTimeFrom next.until (clock_at l other) (log_at (logs_of now) other)) way.clocks (come.others other apart))
    (subst (λ (n : ℕ). AllByRecursion (λ (made : Made). n + made.stamp ≤ next.until) takes.items) begins takes.within) in
    let merged = steps_on clocks takes.items (logs_of start) (logs_of now) (numbers_of start) before turns next.part log_2.made.items inside was others way.merging in
    record {
      merging = subst (λ (l : List (List Made)). Merging clocks (logs_of start) l (numbers_of start) before turns_2) (sym after)
          (subst (λ (l : List Turn). Merging clocks (logs_of start) (set (logs_of now) next.part log_2.made.items) (numbers_of start) before l)
          (ap (λ (l : List ℕ). turns ++ map (turn_by l) takes.items) table ∙ sym takes.added) merged);
      numbers = same ∙ way.numbers;
      clocks = clocks_after now next.part log log_2 is clock ∙ way.clocks;
      known = λ other. subst (λ (l : List (List ℕ)). IsKnown (numbers_at l other) (log_at (logs_of (set now next.part log_2)) other)) (sym same)
          (subst (λ (l : List (List Made)). IsKnown (numbers_at (numbers_of now) other) (log_at l other)) (sym after)
          (known_then now next.part takes.items log_2.made.items inside was way.known other));
      written = written_after now next.part log_2 way.written none;
      room = omega arith;
    }

-- ---- something goes on

some_taken : (items rest : List Made) (time until clock : ℕ) → HasTime time clock (items ++ rest) → time ≤ until → IsPast until clock rest → 0 < length items
some_taken [] [] time until clock front least past = absurd front
some_taken [] (made ∷ rest) time until clock front least past = absurd (omega (arith, front, least, past))
some_taken (made ∷ items) rest time until clock front least past = omega arith

pub fewer : (now : List PartLog) (turns turns_2 : List Turn) (next : NextLog) (log log_2 : PartLog) → Comes now next log → TakesUntil next.until log log_2 turns turns_2 → log_2.clock ≡ log.clock
    → IsPast next.until log_2.clock log_2.made.items → entry_count (logs_of (set now next.part log_2)) < entry_count (logs_of now)
fewer now turns turns_2 next log log_2 come takes same past =
    let count : entry_count (set (logs_of now) next.part log_2.made.items) + length takes.items ≡ entry_count (logs_of now) = count_less now next.part takes.items log_2.made.items come.inside (come.is ∙ takes.taken) in
    let counts : entry_count (logs_of (set now next.part log_2)) ≡ entry_count (set (logs_of now) next.part log_2.made.items) = ap entry_count (logs_after now next.part log_2) in
    let some : 0 < length takes.items =
    some_taken takes.items log_2.made.items next.time next.until log.clock (subst (λ (l : List Made). HasTime next.time log.clock l) takes.taken come.front) come.least
    (subst (λ (n : ℕ). IsPast next.until n log_2.made.items) same past) in
    omega arith

-- ---- by what was read

pub smaller : (now : List PartLog) (turns turns_2 : List Turn) (next : NextLog) (read log_2 : PartLog) → IsNextLog (clocks_of now) (logs_of now) (length now) next → read ≡ get_or now next.part read
    → TakesUntil next.until (get_or now next.part read) log_2 turns turns_2 → log_2.clock ≡ (get_or now next.part read).clock → IsPast next.until log_2.clock log_2.made.items
    → entry_count (logs_of (set now next.part log_2)) < entry_count (logs_of now)
smaller now turns turns_2 next read log_2 next_is is takes clock past =
    fewer now turns turns_2 next read log_2 (comes now next read next_is is) (subst (λ (l : PartLog). TakesUntil next.until l log_2 turns turns_2) (sym is) takes)
    (clock ∙ ap (λ (l : PartLog). l.clock) (sym is)) past

pub goes_on_read : (start now : List PartLog) (before turns turns_2 : List Turn) (len len_2 capacity capacity_2 : ℕ) (next : NextLog) (read log_2 : PartLog)
    → len ≡ length turns → len_2 ≡ length turns_2 → capacity ≤ capacity_2 → IsUnderWay start now before turns len capacity → IsNextLog (clocks_of now) (logs_of now) (length now) next → read ≡ get_or now next.part read
    → TakesUntil next.until (get_or now next.part read) log_2 turns turns_2 → log_2.numbers ≡ (get_or now next.part read).numbers → log_2.clock ≡ (get_or now next.part read).clock → log_2.turns.items ≡ []
    → IsUnderWay start (set now next.part log_2) before turns_2 len_2 capacity_2
goes_on_read start now before turns turns_2 len len_2 capacity capacity_2 next read log_2 len_is len_2_is same_room way next_is is takes numbers clock none =
    goes_on start now before turns turns_2 len len_2 capacity capacity_2 next read log_2 len_is len_2_is same_room way (comes now next read next_is is) is
    (subst (λ (l : PartLog). TakesUntil next.until l log_2 turns turns_2) (sym is) takes) (numbers ∙ ap (λ (l : PartLog). l.numbers) (sym is)) (clock ∙ ap (λ (l : PartLog). l.clock) (sym is)) none

-- ---- what a call asks for

known_log : (now : List PartLog) (next : NextLog) (log : PartLog) → AreKnown now → Comes now next log → IsKnown log.numbers.items log.made.items
known_log now next log known come = subst (λ (l : List Made). IsKnown log.numbers.items l) come.is (subst (λ (l : List ℕ). IsKnown l (log_at (logs_of now) next.part)) come.numbers (known next.part))

no_more : (one others all : ℕ) → all ≡ one + others → one ≤ all
no_more one others all sums = omega arith

-- a log has no more entries than all
within_all : (logs : List (List Made)) (part : ℕ) → length (log_at logs part) ≤ entry_count logs
within_all [] part = omega arith
within_all (log ∷ logs) zero = no_more (length log) (entry_count logs) (entry_count (log ∷ logs)) (sum_by-cons (λ (l : List Made). length l) log logs)
within_all (log ∷ logs) (suc part) =
    let more : length (log_at logs part) ≤ entry_count logs = within_all logs part in
    let sums : entry_count (log ∷ logs) ≡ length log + entry_count logs = sum_by-cons (λ (l : List Made). length l) log logs in
    omega arith

pub room_for : (now : List PartLog) (next : NextLog) (log : PartLog) (len capacity : ℕ) → Comes now next log → len + entry_count (logs_of now) ≤ capacity → len + length log.made.items ≤ capacity
room_for now next log len capacity come room =
    let all : length (log_at (logs_of now) next.part) ≤ entry_count (logs_of now) = within_all (logs_of now) next.part in
    let same : length (log_at (logs_of now) next.part) ≡ length log.made.items = ap (λ (l : List Made). length l) come.is in
    omega arith

pub known_read : (now : List PartLog) (next : NextLog) (read : PartLog) → AreKnown now → IsNextLog (clocks_of now) (logs_of now) (length now) next → read ≡ get_or now next.part read
    → IsKnown (get_or now next.part read).numbers.items (get_or now next.part read).made.items
known_read now next read known next_is is = subst (λ (l : PartLog). IsKnown l.numbers.items l.made.items) is (known_log now next read known (comes now next read next_is is))

pub room_read : (now : List PartLog) (next : NextLog) (read : PartLog) (len capacity : ℕ) → IsNextLog (clocks_of now) (logs_of now) (length now) next → read ≡ get_or now next.part read
    → len + entry_count (logs_of now) ≤ capacity → len + length (get_or now next.part read).made.items ≤ capacity
room_read now next read len capacity next_is is room = subst (λ (l : PartLog). len + length l.made.items ≤ capacity) is (room_for now next read len capacity (comes now next read next_is is) room)

climb_log : (now : List PartLog) (next : NextLog) (log : PartLog) → AreClimbing (logs_of now) → Comes now next log → Climb (made_stamps log.made.items)
climb_log now next log climb come = subst (λ (l : List Made). Climb (made_stamps l)) come.is (climb next.part)

pub climb_read : (now : List PartLog) (next : NextLog) (read : PartLog) → AreClimbing (logs_of now) → IsNextLog (clocks_of now) (logs_of now) (length now) next → read ≡ get_or now next.part read
    → Climb (made_stamps (get_or now next.part read).made.items)
climb_read now next read climb next_is is = subst (λ (l : PartLog). Climb (made_stamps l.made.items)) is (climb_log now next read climb (comes now next read next_is is))

written_log : (now : List PartLog) (next : NextLog) (log : PartLog) → AreWritten now → Comes now next log → IsWritten log.numbers.items log.made.items log.turns.items
written_log now next log written come =
    subst (λ (l : List Turn). IsWritten log.numbers.items log.made.items l) come.turns
    (subst (λ (l : List Made). IsWritten log.numbers.items l (turns_at (turns_of now) next.part)) come.is
    (subst (λ (l : List ℕ). IsWritten l (log_at (logs_of now) next.part) (turns_at (turns_of now) next.part)) come.numbers (written next.part)))

pub written_read : (now : List PartLog) (next : NextLog) (read : PartLog) → AreWritten now → IsNextLog (clocks_of now) (logs_of now) (length now) next → read ≡ get_or now next.part read
    → IsWritten (get_or now next.part read).numbers.items (get_or now next.part read).made.items (get_or now next.part read).turns.items
written_read now next read written next_is is =
    subst (λ (l : PartLog). IsWritten l.numbers.items l.made.items l.turns.items) is (written_log now next read written (comes now next read next_is is))

-- ---- the end

pub all_empty : (now : List PartLog) → IsNext (clocks_of now) (logs_of now) (length now) None → (part : ℕ) → log_at (logs_of now) part ≡ []
all_empty now none part = elim (cases_lt part (length now)) [
  | inl below ↦ none part below
  | inr past ↦ get_or_past (logs_of now) part [] (subst (λ (n : ℕ). n ≤ part) (sym (long_logs now)) past)
]
