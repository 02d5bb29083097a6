-- What may be cut of a journal that a snapshot has: no neighbour needs it any more to be sent to again.
use Rattle.std.specs.Prelude.{◌≡◌, ℕ, ◌≤◌, List, length, slice_get, slice_index_or, take, Some}
use Rattle.std.specs.List.{All}
use Rattle.mc_shard.specs.Journals.{EntryState}
use Rattle.mc_shard.specs.declared.entry.AtEnd.{AtEnd}

-- how many of the signals sent at an end its neighbour's snapshot has taken, so that none of them is taken again, by
-- all those counts; none at an end that isn't listed
abbrev pub taken_for_good : List ℕ → ℕ → ℕ
taken_for_good taken end = slice_index_or taken end 0

abbrev pub IsTakenForGood : List ℕ → AtEnd → Type 0
IsTakenForGood taken one = one.item.number ≤ taken_for_good taken one.end

-- each signal that it sent was taken for good
abbrev pub MayBeCut : List ℕ → EntryState → Type 0
MayBeCut taken entry = All (IsTakenForGood taken) entry.sent

-- so many entries are the longest front of a journal all of whose entries may be cut: if it isn't the whole, the next
-- one may not
pub record IsCuttable (taken : List ℕ) (journal : List EntryState) (count : ℕ) : Type 0 where
  pub within : count ≤ length journal
  pub front : All (MayBeCut taken) (take count journal)
  pub stops : (next : EntryState) → slice_get journal count ≡ Some next → MayBeCut taken next → ⊥
