-- Forms of values that are made of others: each definition gives the bytes of a value, and then more.
use Rattle.std.specs.Prelude.{◌≡◌, ℕ, ◌<◌, ◌^◌, List, [], ◌∷◌, length, Option, Some, None}
use Rattle.std.specs.List.{AllByRecursion}
use Rattle.std.specs.Option.{option_map}
use Rattle.std.specs.declared.alloc.Global.{Global}
use Rattle.std.specs.declared.vec.Vec.{Vec}
use Rattle.mc_entry.specs.Wire.{word8}

-- 1 and the value, or 0
abbrev pub option_wire : {T : Type 0} → (T → List ℕ → List ℕ) → Option T → List ℕ → List ℕ
option_wire {T} wire None more = 0 ∷ more
option_wire {T} wire (Some one) more = 1 ∷ wire one more

abbrev pub FitsOption : {T : Type 0} → (T → Type 0) → Option T → Type 0
FitsOption {T} Fits None = Unit {0}
FitsOption {T} Fits (Some one) = Fits one

-- one after the other
abbrev pub pair_wire : {A B : Type 0} → (A → List ℕ → List ℕ) → (B → List ℕ → List ℕ) → A × B → List ℕ → List ℕ
pair_wire {A} {B} first second pair more = first pair.0 (second pair.1 more)

abbrev pub FitsPair : {A B : Type 0} → (A → Type 0) → (B → Type 0) → A × B → Type 0
FitsPair {A} {B} Fits Fits_2 pair = Fits pair.0 × Fits_2 pair.1

-- each of a list, one after the other
abbrev pub each_wire : {T : Type 0} → (T → List ℕ → List ℕ) → List T → List ℕ → List ℕ
each_wire {T} wire [] more = more
each_wire {T} wire (one ∷ rest) more = wire one (each_wire wire rest more)

-- how many there are, and each
abbrev pub list_wire : {T : Type 0} → (T → List ℕ → List ℕ) → List T → List ℕ → List ℕ
list_wire {T} wire list more = word8 (length list) (each_wire wire list more)

abbrev pub FitsList : {T : Type 0} → (T → Type 0) → List T → Type 0
FitsList {T} Fits list = (length list < 2 ^ 64) × AllByRecursion Fits list

-- if the bytes begin with the forms of so many values, it's these, and what comes after them is left
abbrev pub ReadsEach : {T : Type 0} → (T → Type 0) → (T → List ℕ → List ℕ) → ℕ → List ℕ → List ℕ → List T → Type 0
ReadsEach {T} Fits wire count old new found = (list : List T) (more : List ℕ) → length list ≡ count
    → AllByRecursion Fits list → old ≡ each_wire wire list more → (found ≡ list) × (new ≡ more)

-- the values of lists that are kept as vectors
abbrev pub states_in : {T : Type 0} → Option (Vec T Global) → Option (List T)
states_in {T} found = option_map (λ (list : Vec T Global). list.items) found
