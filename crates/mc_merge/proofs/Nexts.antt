-- The log that goes on, and how many entries there are.
use Rattle.std.proofs.Common.{◌≡◌, ◌≢◌, if◌then◌else◌, nat_le, min, Bool, true, false, ℕ, ◌+◌, ◌<◌, ◌≤◌, List, [], ◌∷◌, ◌++◌, length, take, Option, Some, None, IfSome, inl, inr, refl, ap, sym, ◌∙◌, subst, arith, below_more}
use Rattle.std.specs.List.{slice_get}
use Rattle.std.proofs.Math.ListN.{get_or}
use Rattle.std.proofs.lemmas.Bool.{cases_eq, leb-false, leb-true}
use Rattle.std.proofs.lemmas.List.{get_or-map, length-map, take_more}
use Rattle.std.proofs.lemmas.List.Sums.{sum_by_push, sum_by-take-le}
use Rattle.mc_merge.specs.Weaving.{HasTime, IsNext, IsNextLog, IsTimeFrom, clock_at, clocks_of, entry_count, log_at, logs_of, sooner}
use Rattle.mc_merge.specs.declared.log.Made.{Made}
use Rattle.mc_merge.specs.declared.log.PartLog.{PartLog}
use Rattle.mc_merge.specs.declared.merged.NextLog.{NextLog}
use Rattle.mc_merge.specs.declared.merged.TheConstants.{LAST_TIME}

-- ---- one log more

from_empty : (time clock : ℕ) (log : List Made) → log ≡ [] → IsTimeFrom time clock log
from_empty time clock log is = subst (λ (l : List Made). IsTimeFrom time clock l) (sym is) tt

from_lower : (time low clock : ℕ) (log : List Made) → low ≤ time → IsTimeFrom time clock log → IsTimeFrom low clock log
from_lower time low clock [] least from = tt
from_lower time low clock (made ∷ log) least from = omega arith

from_time : (time low clock : ℕ) (log : List Made) → HasTime time clock log → low ≤ time → IsTimeFrom low clock log
from_time time low clock [] has least = absurd has
from_time time low clock (made ∷ log) has least = omega arith

none_more : (clocks : List ℕ) (logs : List (List Made)) (count : ℕ) (best : Option NextLog) → log_at logs count ≡ [] → IsNext clocks logs count best → IsNext clocks logs (count + 1) best
none_more clocks logs count None is none = below_more (λ (part : ℕ). log_at logs part ≡ []) count none is
none_more clocks logs count (Some next) is next_is =
    let inside : next.part < count = next_is.inside in
    record {
      inside = omega arith;
      front = next_is.front;
      least = next_is.least;
      others = below_more (λ (part : ℕ). part ≢ next.part → IsTimeFrom next.until (clock_at clocks part) (log_at logs part)) count next_is.others
          (λ apart. from_empty next.until (clock_at clocks count) (log_at logs count) is);
    }

-- the first that has an entry
first_more : (clocks : List ℕ) (logs : List (List Made)) (count time until : ℕ) → HasTime time (clock_at clocks count) (log_at logs count) → time ≤ until
    → ((part : ℕ) → part < count → log_at logs part ≡ []) → IsNextLog clocks logs (count + 1) (record { part = count; time = time; until = until })
first_more clocks logs count time until has fits none = record {
  inside = omega arith;
  front = has;
  least = fits;
  others = below_more (λ (part : ℕ). part ≢ count → IsTimeFrom until (clock_at clocks part) (log_at logs part)) count
      (λ part below apart. from_empty until (clock_at clocks part) (log_at logs part) (none part below)) (λ apart. absurd (apart refl));
}

-- the one before stays, with an end that is no later
stays_more : (clocks : List ℕ) (logs : List (List Made)) (count time until : ℕ) (next : NextLog) → IsNextLog clocks logs count next → HasTime time (clock_at clocks count) (log_at logs count)
    → next.time ≤ until → until ≤ next.until → until ≤ time → IsNextLog clocks logs (count + 1) (record next { until = until })
stays_more clocks logs count time until next next_is has least sooner before =
    let inside : next.part < count = next_is.inside in
    record {
      inside = omega arith;
      front = next_is.front;
      least = least;
      others = below_more (λ (part : ℕ). part ≢ next.part → IsTimeFrom until (clock_at clocks part) (log_at logs part)) count
          (λ part below apart. from_lower next.until until (clock_at clocks part) (log_at logs part) sooner (next_is.others part below apart))
          (λ apart. from_time time until (clock_at clocks count) (log_at logs count) has before);
    }

-- another takes its place
takes_place : (clocks : List ℕ) (logs : List (List Made)) (count time : ℕ) (next : NextLog) → IsNextLog clocks logs count next → HasTime time (clock_at clocks count) (log_at logs count)
    → time ≤ next.time → IsNextLog clocks logs (count + 1) (record { part = count; time = time; until = next.time })
takes_place clocks logs count time next next_is has sooner =
    let later : next.time ≤ next.until = next_is.least in
    record {
      inside = omega arith;
      front = has;
      least = sooner;
      others = below_more (λ (part : ℕ). part ≢ count → IsTimeFrom next.time (clock_at clocks part) (log_at logs part)) count
          (λ part below apart. elim (cases_eq part next.part) [
            | inl same ↦ subst (λ (n : ℕ). IsTimeFrom next.time (clock_at clocks n) (log_at logs n)) (sym same) (from_time next.time next.time (clock_at clocks next.part) (log_at logs next.part) next_is.front (omega arith))
            | inr other ↦ from_lower next.until next.time (clock_at clocks part) (log_at logs part) later (next_is.others part below other)
          ]) (λ apart. absurd (apart refl));
    }

least_of : (a b : ℕ) → (min a b ≤ a) × (min a b ≤ b)
least_of a b = (omega arith, omega arith)

not_before : (a b c : ℕ) → c ≤ a → c ≤ b → c ≤ min a b
not_before a b c one two = omega arith

one_more : (clocks : List ℕ) (logs : List (List Made)) (count time : ℕ) (next : NextLog) (test : Bool) → IsNextLog clocks logs count next → HasTime time (clock_at clocks count) (log_at logs count) → nat_le next.time time ≡ test
    → IsNextLog clocks logs (count + 1) (if test then record next { until = min next.until time } else record { part = count; time = time; until = next.time })
one_more clocks logs count time next true next_is has is =
    let no_later : next.time ≤ time = leb-true next.time time is in
    stays_more clocks logs count time (min next.until time) next next_is has (not_before next.until time next.time next_is.least no_later) (least_of next.until time).0 (least_of next.until time).1
one_more clocks logs count time next false next_is has is =
    let later : time < next.time = leb-false next.time time is in
    takes_place clocks logs count time next next_is has (omega arith)

has_time : (clocks : List ℕ) (logs : List (List Made)) (count clock : ℕ) (made : Made) (rest : List Made) → log_at logs count ≡ made ∷ rest → clock_at clocks count ≡ clock
    → HasTime (clock + made.stamp) (clock_at clocks count) (log_at logs count)
has_time clocks logs count clock made rest is begins =
    subst (λ (l : List Made). HasTime (clock + made.stamp) (clock_at clocks count) l) (sym is) (ap (λ (n : ℕ). n + made.stamp) begins)

next_on : (clocks : List ℕ) (logs : List (List Made)) (count clock : ℕ) (log : List Made) (best : Option NextLog) → log_at logs count ≡ log → clock_at clocks count ≡ clock
    → IfSome (slice_get log 0) (λ made. clock + made.stamp ≤ LAST_TIME) → IsNext clocks logs count best → IsNext clocks logs (count + 1) (sooner best count clock (slice_get log 0))
next_on clocks logs count clock [] best is begins fits next_is = none_more clocks logs count best is next_is
next_on clocks logs count clock (made ∷ rest) None is begins fits next_is =
    first_more clocks logs count (clock + made.stamp) LAST_TIME (has_time clocks logs count clock made rest is begins) fits next_is
next_on clocks logs count clock (made ∷ rest) (Some next) is begins fits next_is =
    one_more clocks logs count (clock + made.stamp) next (nat_le next.time (clock + made.stamp)) next_is (has_time clocks logs count clock made rest is begins) refl

pub next_more : (logs : List PartLog) (count : ℕ) (log : PartLog) (best found : Option NextLog) (front : Option Made) → count < length logs → log ≡ get_or logs count log → front ≡ slice_get log.made.items 0
    → IfSome front (λ made. log.clock + made.stamp ≤ LAST_TIME)
    → found ≡ sooner best count log.clock front → IsNext (clocks_of logs) (logs_of logs) count best → IsNext (clocks_of logs) (logs_of logs) (count + 1) found
next_more logs count log best found front inside is front_is fits found_is next_is =
    let here : log_at (logs_of logs) count ≡ log.made.items = get_or-map (λ (l : PartLog). l.made.items) logs count log [] inside ∙ ap (λ (l : PartLog). l.made.items) (sym is) in
    let begins : clock_at (clocks_of logs) count ≡ log.clock = get_or-map (λ (l : PartLog). l.clock) logs count log 0 inside ∙ ap (λ (l : PartLog). l.clock) (sym is) in
    subst (λ (b : Option NextLog). IsNext (clocks_of logs) (logs_of logs) (count + 1) b) (sym (found_is ∙ ap (λ (f : Option Made). sooner best count log.clock f) front_is))
    (next_on (clocks_of logs) (logs_of logs) count log.clock log.made.items best here begins (subst (λ (f : Option Made). IfSome f (λ made. log.clock + made.stamp ≤ LAST_TIME)) front_is fits) next_is)

-- ---- their number

pub count_more : (logs : List PartLog) (i all long : ℕ) (log : PartLog) → i < length logs → log ≡ get_or logs i log → long ≡ length log.made.items → all ≡ entry_count (take i (logs_of logs))
    → all + long ≡ entry_count (take (i + 1) (logs_of logs))
count_more logs i all long log inside is long_is so_far =
    let here : get_or (logs_of logs) i [] ≡ log.made.items = get_or-map (λ (l : PartLog). l.made.items) logs i log [] inside ∙ ap (λ (l : PartLog). l.made.items) (sym is) in
    let more : entry_count (take (i + 1) (logs_of logs)) ≡ entry_count (take i (logs_of logs) ++ get_or (logs_of logs) i [] ∷ []) =
    ap entry_count (take_more (logs_of logs) i [] (subst (λ (n : ℕ). i < n) (sym (length-map logs (λ (l : PartLog). l.made.items))) inside)) in
    let sums : entry_count (take i (logs_of logs) ++ get_or (logs_of logs) i [] ∷ []) ≡ entry_count (take i (logs_of logs)) + length (get_or (logs_of logs) i []) =
    sum_by_push (λ (l : List Made). length l) (take i (logs_of logs)) (get_or (logs_of logs) i []) in
    let same : length (get_or (logs_of logs) i []) ≡ length log.made.items = ap (λ (l : List Made). length l) here in
    omega arith

pub count_within : (logs : List PartLog) (i : ℕ) → entry_count (take i (logs_of logs)) ≤ entry_count (logs_of logs)
count_within logs i = sum_by-take-le (λ (l : List Made). length l) (logs_of logs) i
