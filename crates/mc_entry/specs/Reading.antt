-- What it is to read a value.
use Rattle.std.specs.Prelude.{◌≡◌, ℕ, ◌≤◌, List, length, drop}
use Rattle.std.specs.List.{AllByRecursion}
use Rattle.mc_shard.specs.Journals.{EntryState}
use Rattle.mc_shard.specs.declared.entry.AtEnd.{AtEnd}
use Rattle.mc_entry.specs.Wire.{FitsAt, FitsEntry, all_wire, entry_wire}

-- if the bytes begin with the form of a value, it's this one, and what comes after its form is left
abbrev pub Reads : {T : Type 0} → (T → Type 0) → (T → List ℕ → List ℕ) → List ℕ → List ℕ → T → Type 0
Reads {T} Fits wire old new found = (value : T) (more : List ℕ) → Fits value → old ≡ wire value more
    → (found ≡ value) × (new ≡ more)

-- the same of values of which each has a form
abbrev pub ReadsAny : {T : Type 0} → (T → List ℕ → List ℕ) → List ℕ → List ℕ → T → Type 0
ReadsAny {T} wire old new found = (value : T) (more : List ℕ) → old ≡ wire value more → (found ≡ value) × (new ≡ more)

-- the same of so many signals
abbrev pub ReadsAll : ℕ → List ℕ → List ℕ → List AtEnd → Type 0
ReadsAll count old new found = (items : List AtEnd) (more : List ℕ) → length items ≡ count
    → AllByRecursion FitsAt items → old ≡ all_wire items more → (found ≡ items) × (new ≡ more)

-- the bytes begin with the form of this entry, which takes so many of them
pub record BeginsWith (bytes : List ℕ) (entry : EntryState) (len : ℕ) : Type 0 where
  pub fits : FitsEntry entry
  pub within : len ≤ length bytes
  pub is : bytes ≡ entry_wire entry (drop len bytes)

-- they begin with the form of no entry
abbrev pub BeginWithNone : List ℕ → Type 0
BeginWithNone bytes = (entry : EntryState) (more : List ℕ) → FitsEntry entry → bytes ≡ entry_wire entry more → ⊥
