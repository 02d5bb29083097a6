-- Laws of counts of faults.
use Rattle.std.specs.Prelude.{ℕ, ◌-◌, ◌^◌, ◌<◌, ◌≤◌, ◌≡◌, ◌⊎◌, ◌↔◌, Bool}
use Rattle.mc_io.specs.Faults.{faults_after, Rose}

-- for counts that are values of a u64, to have risen is to be greater than before, or to stand at the last value
abbrev pub RoseOrStands : Type 0
RoseOrStands =
    (before now : ℕ) → before < 2 ^ 64 → now < 2 ^ 64 → Rose before now ↔ ((before < now) ⊎ (now ≡ 2 ^ 64 - 1))

-- no call lets the count fall
abbrev pub CountsNeverFall : Type 0
CountsNeverFall = (before : ℕ) (failed : Bool) → before ≤ faults_after before failed
