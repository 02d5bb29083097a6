-- The requests of an asker, as a journal has them.
use Rattle.std.specs.Prelude.{◌≡◌, ◌==◌, ℕ, ◌+◌, if◌then◌else◌, List, [], ◌∷◌, ◌++◌, length, Option, Some, None}
use Rattle.std.specs.List.{range_with_len}
use Rattle.mc_shard.specs.Journals.{EntryState}
use Rattle.mc_shard.specs.States.{IsJournal, Places, ShardState, last_request, state_after}
use Rattle.mc_shard.specs.declared.entry.Asked.{Asked}

-- the number of a request, if it is this asker's
abbrev pub asker_number : ℕ → Option Asked → List ℕ
asker_number asker None = []
asker_number asker (Some asked) = if asked.asker == asker then asked.number ∷ [] else []

-- the numbers of an asker's requests that were made, in order
abbrev pub asker_numbers : ℕ → List EntryState → List ℕ
asker_numbers asker [] = []
asker_numbers asker (entry ∷ entries) = asker_number asker entry.asked ++ asker_numbers asker entries

-- these numbers go from the one after the first, one by one, to the second
pub record GoOn (before after : ℕ) (numbers : List ℕ) : Type 0 where
  pub numbers_are : numbers ≡ range_with_len (before + 1) (length numbers)
  pub last_is : after ≡ before + length numbers

-- the requests that a journal made of an asker go on, one by one, from its last one before the journal to the one that
-- the state keeps: from 1 on where it had none. So each was made once
abbrev pub RequestsGoOn : Type 0
RequestsGoOn = (places : Places) (first : ShardState) (entries : List EntryState) (asker : ℕ)
    → IsJournal places first entries
    → GoOn (last_request first.asked asker) (last_request (state_after first entries).asked asker)
    (asker_numbers asker entries)
