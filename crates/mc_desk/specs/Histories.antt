-- What was asked at a desk, what was taken from it and what lies on it, and what each pass knows of that.
use Rattle.std.specs.Prelude.{◌≡◌, ℕ, ◌+◌, ◌<◌, ◌≤◌, ◌==◌, Bool, true, false, List, [], ◌∷◌, ◌++◌, map, length, slice_index_or}
use Rattle.std.specs.List.{filter, range_with_len}
use mathlib.Core.Option as own
use mathlib.Core.Option.{none, some}
use lib.ListN.{get_elem?}
use Rattle.mc_desk.specs.declared.log.Log.{Log}
use Rattle.mc_desk.specs.declared.request.Request.{Request}

-- ---- requests

-- those of one operator, in their order
abbrev pub requests_of : ℕ → List Request → List Request
requests_of operator requests = filter (λ (request : Request). request.operator == operator) requests

-- of each operator, those that were taken and then those on the desk are what was accepted from it
abbrev pub IsHistory : List Request → List Request → (ℕ → List Request) → Type 0
IsHistory taken items accepted = (operator : ℕ) → requests_of operator (taken ++ items) ≡ accepted operator

-- their indices are 0, 1, 2 and so on
abbrev pub AreIndexed : List Request → Type 0
AreIndexed requests = map (λ (request : Request). request.index) requests ≡ range_with_len 0 (length requests)

-- ---- what a pass knows

-- the taker's, before it took any request: so many operators' passes were made of it, and these are all, or not
abbrev pub taker_with : ℕ → Bool → Log
taker_with made complete =
    record {
      asks = false;
      number = 0;
      last = false;
      accepted = [];
      takes = true;
      taken = [];
      made = made;
      complete =
          complete;
      known = [];
    }

-- the taker's, before any other pass was made
abbrev pub new_taker : Log
new_taker = taker_with 0 false

-- an operator's, before it asked
abbrev pub new_operator : ℕ → Bool → Log
new_operator number last =
    record {
      asks = true;
      number = number;
      last = last;
      accepted = [];
      takes = false;
      taken = [];
      made = 0;
      complete =
          false;
      known = [];
    }

-- what is left of a pass that is back
abbrev pub nobody : Log
nobody =
    record {
      asks = false;
      number = 0;
      last = false;
      accepted = [];
      takes = false;
      taken = [];
      made = 0;
      complete =
          false;
      known = [];
    }

-- one request more was accepted
abbrev pub with_accepted : Log → Request → Log
with_accepted log request = record log { accepted = log.accepted ++ request ∷ [] }

-- one request more was taken
abbrev pub with_taken : Log → Request → Log
with_taken log request = record log { taken = log.taken ++ request ∷ [] }

-- one operator's pass more was made, which is the last one or not
abbrev pub with_made : Log → Bool → Log
with_made log last = record log { made = log.made + 1; complete = last }

-- one operator's pass more is back
abbrev pub with_known : Log → Log → Log
with_known log ended = record log { known = log.known ++ ended.accepted ∷ [] }

-- all passes are back
abbrev pub with_all_known : Log → List (List Request) → Log
with_all_known log known = record log { known = known }

-- an operator's pass, and not the taker's
pub record Asking (log : Log) : Type 0 where
  pub asks : log.asks ≡ true
  pub takes : log.takes ≡ false

-- the taker's pass, and no operator's
pub record Taking (log : Log) : Type 0 where
  pub takes : log.takes ≡ true
  pub asks : log.asks ≡ false

-- ---- the rule

-- the past of a desk, of which each pass knows a part: which pass each operator has, what was accepted from each,
-- which pass takes and what it took, how many operators' passes were made, and whether these are all
pub record Past : Type 0 where
  pub seat : ℕ → own.Option ℕ
  pub accepted : ℕ → List Request
  pub taker : ℕ
  pub taken : List Request
  pub made : ℕ
  pub complete : Bool

-- the one pass of an operator knows what was accepted from it, and the last one that no operator comes after it
pub record FitsOperator (past : Past) (pass : ℕ) (log : Log) : Type 0 where
  pub seat_is : past.seat log.number ≡ some pass
  pub accepted_is : log.accepted ≡ past.accepted log.number
  pub last_is : log.last ≡ true → (past.complete ≡ true) × (past.made ≡ log.number + 1)

-- the one pass that takes knows what was taken, how many operators there are, and all that was accepted from those
-- whose passes are back
pub record FitsTaker (past : Past) (pass : ℕ) (log : Log) : Type 0 where
  pub only : pass ≡ past.taker
  pub taken_is : log.taken ≡ past.taken
  pub made_is : log.made ≡ past.made
  pub complete_is : log.complete ≡ past.complete
  pub known_is : (operator : ℕ) → operator < length log.known
      → (past.seat operator ≡ none) × (slice_index_or log.known operator [] ≡ past.accepted operator)
  pub back : length log.known ≤ log.made

-- a pass knows its part of the past
pub record Fits (past : Past) (pass : ℕ) (log : Log) : Type 0 where
  pub as_operator : log.asks ≡ true → FitsOperator past pass log
  pub as_taker : log.takes ≡ true → FitsTaker past pass log

-- what was taken and what lies on the desk is the history of what was accepted, each operator's requests count from
-- 0, there are none of strangers, and each pass knows its part of that
pub record IsRecorded (items : List Request) (logs : List Log) : Type 0 where
  pub past : Past
  pub history : IsHistory past.taken items past.accepted
  pub indexed : (operator : ℕ) → AreIndexed (past.accepted operator)
  pub unmade : (operator : ℕ) → past.made ≤ operator → (past.seat operator ≡ none) × (past.accepted operator ≡ [])
  pub fits : (pass : ℕ) (log : Log) → get_elem? logs pass ≡ some log → Fits past pass log

-- ---- what a pass is told

-- the request that comes is of an operator, and the first one of it that wasn't taken
pub record IsNext (log : Log) (request : Request) : Type 0 where
  pub operator : request.operator < log.made
  pub index : request.index ≡ length (requests_of request.operator log.taken)

-- it was taken, and it was the next one
pub record HasTaken (old : Log) (request : Request) (new : Log) : Type 0 where
  pub log : new ≡ with_taken old request
  pub next : IsNext old request

-- at one moment these requests lay on the desk, after those that were taken, and both were what was accepted. An
-- operator's pass knows its own part, the pass of a desk's only operator all of it, and the taker's what was taken
pub record WasSeen (log : Log) (items : List Request) : Type 0 where
  pub taken : List Request
  pub accepted : ℕ → List Request
  pub history : IsHistory taken items accepted
  pub by_operator : log.asks ≡ true → accepted log.number ≡ log.accepted
  pub by_only_operator : log.asks ≡ true → log.last ≡ true → log.number ≡ 0 → taken ++ items ≡ log.accepted
  pub by_taker : log.takes ≡ true → taken ≡ log.taken

-- once all passes are back, what was taken and what lies on the desk is all that was accepted
abbrev pub IsLeft : Log → List Request → Type 0
IsLeft log items = IsHistory log.taken items (λ operator. slice_index_or log.known operator [])
