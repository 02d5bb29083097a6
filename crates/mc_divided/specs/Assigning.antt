-- Which part each box goes to.
use Rattle.std.specs.Prelude.{◌≡◌, ◌<◌, ◌≤◌, ◌*◌, ℕ, All, List, length}
use Rattle.mc_box.specs.declared.limit.TheConstants.{SLOT_LIMIT}
use Rattle.mc_part.specs.DividedParts.{count_of}
use Rattle.mc_divided.specs.Networks.{turn_budget}
use Rattle.mc_divided.specs.declared.assigning.Assigned.{Assigned}
use Rattle.mc_part.specs.declared.limit.TheConstants.{STAMP_LIMIT}

-- each of so many boxes goes to one of so many parts, in each of which all retries fit into a phase
pub record HaveParts (boxes : ℕ) (assigned : List ℕ) (count : ℕ) : Type 0 where
  pub each : length assigned ≡ boxes
  pub some : 0 < count
  pub few : count ≤ STAMP_LIMIT
  pub parts : All (λ part. part < count) assigned
  pub room : (part : ℕ) → part < count → SLOT_LIMIT * count_of assigned part ≤ turn_budget count

abbrev pub AreAssigned : ℕ → Assigned → Type 0
AreAssigned boxes assigned = HaveParts boxes assigned.parts.items assigned.count
