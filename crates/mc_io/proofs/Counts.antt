-- Counts of faults.
use Rattle.std.proofs.Common.{◌≡◌, ℕ, ◌==◌, ◌&&◌, Bool, true, false, arith}
use Rattle.mc_io.specs.Faults.{faults_after}

-- what doesn't fail leaves the count as it was
stays : (before now : ℕ) (none empty : Bool) → now ≡ faults_after before (none && empty) → none ≡ false → now ≡ before
stays before now true empty counted is = cc
stays before now false empty counted is = counted

-- a write that took something left the count as it was
pub count_stays : (before now count : ℕ) (empty : Bool) → now ≡ faults_after before (count == 0 && empty) → (count ≡ 0 → ⊥) → now ≡ before
count_stays before now count empty counted some =
    let is : (count == 0) ≡ false = grind (arith, some) in
    stays before now (count == 0) empty counted is
