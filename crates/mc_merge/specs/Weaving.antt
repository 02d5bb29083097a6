-- Lists side by side as one list, in the order of the times at which their entries were made.
use Rattle.std.specs.Prelude.{◌≡◌, ◌≢◌, ◌==◌, ◌⊎◌, ℕ, ◌+◌, ◌<◌, ◌≤◌, nat_le, min, if◌then◌else◌, List, [], ◌∷◌, ◌++◌, length, map, slice_index_or, Option, Some, None}
use Rattle.std.specs.List.{AllByRecursion, sum_by}
use Rattle.mc_box.specs.BoxEvents.{turn_of}
use Rattle.mc_box.specs.declared.event.Turn.{Turn}
use Rattle.mc_merge.specs.declared.log.Made.{Made}
use Rattle.mc_merge.specs.declared.log.PartLog.{PartLog}
use Rattle.mc_merge.specs.declared.merged.NextLog.{NextLog}
use Rattle.mc_merge.specs.declared.merged.TheConstants.{LAST_TIME}

-- ---- items that each have the number of their list

-- those of one list
abbrev pub of_part : {X : Type 0} → ℕ → List (ℕ × X) → List X
of_part part [] = []
of_part part (item ∷ items) = (if item.0 == part then item.1 ∷ [] else []) ++ of_part part items

-- no stamp is below one before it
abbrev pub Climb : List ℕ → Type 0
Climb [] = Unit {0}
Climb (stamp ∷ stamps) = AllByRecursion (λ (later : ℕ). stamp ≤ later) stamps × Climb stamps

-- ---- logs

abbrev pub logs_of : List PartLog → List (List Made)
logs_of logs = map (λ (log : PartLog). log.made.items) logs

-- at which time the clock of each part begins
abbrev pub clocks_of : List PartLog → List ℕ
clocks_of logs = map (λ (log : PartLog). log.clock) logs

abbrev pub numbers_of : List PartLog → List (List ℕ)
numbers_of logs = map (λ (log : PartLog). log.numbers.items) logs

-- what is written down of their turns
abbrev pub turns_of : List PartLog → List (List Turn)
turns_of logs = map (λ (log : PartLog). log.turns.items) logs

abbrev pub log_at : List (List Made) → ℕ → List Made
log_at logs part = slice_index_or logs part []

abbrev pub clock_at : List ℕ → ℕ → ℕ
clock_at clocks part = slice_index_or clocks part 0

abbrev pub numbers_at : List (List ℕ) → ℕ → List ℕ
numbers_at numbers part = slice_index_or numbers part []

abbrev pub turns_at : List (List Turn) → ℕ → List Turn
turns_at turns part = slice_index_or turns part []

abbrev pub made_stamps : List Made → List ℕ
made_stamps log = map (λ (made : Made). made.stamp) log

abbrev pub entry_count : List (List Made) → ℕ
entry_count logs = sum_by (λ (log : List Made). length log) logs

-- each entry's box has a number in the world
abbrev pub IsKnown : List ℕ → List Made → Type 0
IsKnown numbers log = AllByRecursion (λ (made : Made). made.who < length numbers) log

abbrev pub AreKnown : List PartLog → Type 0
AreKnown logs = (part : ℕ) → IsKnown (numbers_at (numbers_of logs) part) (log_at (logs_of logs) part)

-- the stamps of each log rise
abbrev pub AreClimbing : List (List Made) → Type 0
AreClimbing logs = (part : ℕ) → Climb (made_stamps (log_at logs part))

-- ---- all of them

-- the times of entries by their parts' clocks
abbrev pub times_by : (ℕ → ℕ) → List (ℕ × Made) → List ℕ
times_by clock woven = map (λ (item : ℕ × Made). clock item.0 + item.1.stamp) woven

-- the entries of all logs, each log's in their own order, and no time by these clocks below one before it
pub record AreWoven (clock : ℕ → ℕ) (logs : List (List Made)) (woven : List (ℕ × Made)) : Type 0 where
  pub each : (part : ℕ) → of_part part woven ≡ log_at logs part
  pub order : Climb (times_by clock woven)

-- the turn of an entry, by the number that its box has in the world
abbrev pub turn_by : List ℕ → Made → Turn
turn_by numbers made = turn_of (slice_index_or numbers made.who 0) made.event

abbrev pub turn_in : List (List ℕ) → ℕ × Made → Turn
turn_in numbers item = turn_by (numbers_at numbers item.0) item.1

-- nothing is written down of a log, or the turns of all its entries
abbrev pub IsWritten : List ℕ → List Made → List Turn → Type 0
IsWritten numbers log turns = (turns ≡ []) ⊎ (turns ≡ map (turn_by numbers) log)

abbrev pub AreWritten : List PartLog → Type 0
AreWritten logs = (part : ℕ)
    → IsWritten (numbers_at (numbers_of logs) part) (log_at (logs_of logs) part) (turns_at (turns_of logs) part)

-- such turns come after those before, in the order of their times
pub record AddsMerged (logs : List PartLog) (old new : List Turn) : Type 0 where
  pub woven : List (ℕ × Made)
  pub are : AreWoven (clock_at (clocks_of logs)) (logs_of logs) woven
  pub added : new ≡ old ++ map (turn_in (numbers_of logs)) woven

-- ---- the log that goes on

-- no time of these, by a clock, is below this one, if the first isn't
abbrev pub IsTimeFrom : ℕ → ℕ → List Made → Type 0
IsTimeFrom time clock [] = Unit {0}
IsTimeFrom time clock (made ∷ log) = time ≤ clock + made.stamp

-- the time of what comes first
abbrev pub HasTime : ℕ → ℕ → List Made → Type 0
HasTime time clock [] = ⊥
HasTime time clock (made ∷ log) = clock + made.stamp ≡ time

-- of the first so many logs this one has the front with the least time, and no other has one below `until`
pub record IsNextLog (clocks : List ℕ) (logs : List (List Made)) (count : ℕ) (next : NextLog) : Type 0 where
  pub inside : next.part < count
  pub front : HasTime next.time (clock_at clocks next.part) (log_at logs next.part)
  pub least : next.time ≤ next.until
  pub others : (part : ℕ) → part < count → part ≢ next.part
      → IsTimeFrom next.until (clock_at clocks part) (log_at logs part)

-- or all of them are empty
abbrev pub IsNext : List ℕ → List (List Made) → ℕ → Option NextLog → Type 0
IsNext clocks logs count None = (part : ℕ) → part < count → log_at logs part ≡ []
IsNext clocks logs count (Some next) = IsNextLog clocks logs count next

-- of one log and another, whose front has this time, that with the lower time
abbrev pub sooner_of_two : NextLog → ℕ → ℕ → NextLog
sooner_of_two next part time = if nat_le next.time time
    then record next { until = min next.until time }
    else record { part = part; time = time; until = next.time }

abbrev pub sooner : Option NextLog → ℕ → ℕ → Option Made → Option NextLog
sooner best part clock None = best
sooner None part clock (Some made) = Some (record { part = part; time = clock + made.stamp; until = LAST_TIME })
sooner (Some next) part clock (Some made) = Some (sooner_of_two next part (clock + made.stamp))

-- the turns of all its entries are written down, and none has a time after this one
pub record IsWhole (until : ℕ) (log : PartLog) : Type 0 where
  pub turns_are : log.turns.items ≡ map (turn_by log.numbers.items) log.made.items
  pub within : AllByRecursion (λ (made : Made). log.clock + made.stamp ≤ until) log.made.items

-- its oldest entry leaves it
pub record TakesTurn (old new : PartLog) (turn : Turn) : Type 0 where
  pub made : Made
  pub first : old.made.items ≡ made ∷ new.made.items
  pub turn_is : turn ≡ turn_by old.numbers.items made

-- its first entries, with times up to this one, leave it for the list of turns
pub record TakesUntil (until : ℕ) (old new : PartLog) (before after : List Turn) : Type 0 where
  pub items : List Made
  pub taken : old.made.items ≡ items ++ new.made.items
  pub within : AllByRecursion (λ (made : Made). old.clock + made.stamp ≤ until) items
  pub added : after ≡ before ++ map (turn_by old.numbers.items) items

-- what is left has none of them first
abbrev pub IsPast : ℕ → ℕ → List Made → Type 0
IsPast until clock [] = Unit {0}
IsPast until clock (made ∷ log) = until < clock + made.stamp
