-- The entries of several logs, and their one order by stamps.
use Rattle.std.specs.Prelude.{◌≡◌, ℕ, ◌+◌, ◌<◌, ◌==◌, Bool, List, [], ◌∷◌, ◌++◌, Some, filter, slice_get, slice_index_or}
use Rattle.std.specs.List.{AllByRecursion}
use Rattle.std.specs.List.Sorted.{IsSorted, IsPermutation}
use Rattle.std.specs.Ordering.{nat_cmp, ordering_then}
use Rattle.std.specs.declared.cmp.Ordering.{Ordering}
use Rattle.mc_order.specs.declared.Key.{Key}

-- by stamp; where stamps are the same, by log; and where logs are the same, by the place in the log
abbrev pub key_cmp : Key → Key → Ordering
key_cmp a b = ordering_then (nat_cmp a.stamp b.stamp) (ordering_then (nat_cmp a.who b.who) (nat_cmp a.index b.index))

-- the entries of one log, from an index on
abbrev pub keys_of : ℕ → ℕ → List ℕ → List Key
keys_of who index [] = []
keys_of who index (stamp ∷ stamps) = record { stamp = stamp; who = who; index = index } ∷ keys_of who (index + 1) stamps

-- the entries of the logs, from a log on
abbrev pub keys_from : ℕ → List (List ℕ) → List Key
keys_from who [] = []
keys_from who (log ∷ logs) = keys_of who 0 log ++ keys_from (who + 1) logs

-- the stamps of a log
abbrev pub stamps_at : List (List ℕ) → ℕ → List ℕ
stamps_at logs who = slice_index_or logs who []

-- each stamp is above all before it
abbrev pub Rise : List ℕ → Type 0
Rise [] = Unit {0}
Rise (stamp ∷ stamps) = AllByRecursion (λ later. stamp < later) stamps × Rise stamps

-- the entries of all logs, each once, by their stamps and then by their logs
pub record IsOrdered (logs : List (List ℕ)) (keys : List Key) : Type 0 where
  pub each_once : IsPermutation (keys_from 0 logs) keys
  pub sorted : IsSorted key_cmp keys

-- a greater stamp stands later
abbrev pub StampsRise : List Key → Type 0
StampsRise keys =
    (i j : ℕ) (a b : Key) → slice_get keys i ≡ Some a → slice_get keys j ≡ Some b → a.stamp < b.stamp → i < j

abbrev pub is_key_of : ℕ → Key → Bool
is_key_of who key = key.who == who

-- each log's entries stand in their own order
abbrev pub OwnOrder : List (List ℕ) → List Key → Type 0
OwnOrder logs keys = (who : ℕ) → filter (is_key_of who) keys ≡ keys_of who 0 (stamps_at logs who)
