-- What merging and rings ask for, shown of parts that have worked.
use Rattle.std.specs.Prelude.{◌≡◌, ℕ, ◌<◌, ◌≤◌, Contains, List, length}
use Rattle.std.specs.List.{AllByRecursion}
use Rattle.mc_merge.specs.Phases.{IsApart, IsPhase, Layout}
use Rattle.mc_merge.specs.Weaving.{AreClimbing, IsKnown, log_at, numbers_at}
use Rattle.mc_merge.specs.Wholes.{AreKept}
use Rattle.mc_merge.specs.declared.log.Made.{Made}
use Rattle.mc_model.specs.Worlds.{WorldState}
use Rattle.mc_merge.specs.Account.{PartState}
use Rattle.mc_merge.specs.Clocks.{AreClocked, IsClocked, item_stamps, stamps_below}
use Rattle.mc_merge.specs.Logs.{Own}
use Rattle.mc_merge.specs.Together.{HasWorked, Ran}

-- logs that were kept may be merged: their stamps rise, and each entry's box has a number
abbrev pub KeptLogsFit : Type 0
KeptLogsFit = (parts : ℕ → Ran) (made : List (List Made)) (numbers : List (List ℕ)) → AreKept parts made
    → ((part : ℕ) → HasWorked (parts part))
    → ((part : ℕ) → AllByRecursion (λ (own : Own). own.who < length (parts part).old.boxes) (parts part).log)
    → ((part : ℕ) → length (parts part).old.boxes ≤ length (numbers_at numbers part))
    → AreClimbing made × ((part : ℕ) → IsKnown (numbers_at numbers part) (log_at made part))

-- what came to a part at a number came by the ring of a lane that is taken there, from one of so many parts
pub record CameBy (base : WorldState) (layout : Layout) (parts : ℕ → Ran) (count part at : ℕ) : Type 0 where
  pub lane : ℕ
  pub inside : lane < length base.lanes
  pub apart : IsApart layout (λ p. (parts p).tables) (λ p. (parts p).old) lane
  pub place : layout.takers lane ≡ (part, at)
  pub from : (layout.senders lane).0 < count

-- of a phase that begins with all stamps at 0, no stamp is above the number of its turns
abbrev pub PhaseIsClocked : Type 0
PhaseIsClocked = (base : WorldState) (layout : Layout) (parts : ℕ → Ran) (drained : ℕ → PartState) (count : ℕ)
    → IsPhase base layout parts drained
    → ((part : ℕ) → part < count → IsClocked (parts part).old (parts part).new (parts part).log (parts part).gave
    (parts part).put)
    → ((part : ℕ) → part < count → (parts part).old.stamp ≡ 0)
    → ((part : ℕ) → part < count → (parts part).old.heard ≡ 0)
    → ((part at k : ℕ) → part < count → Contains (item_stamps ((parts part).gave at)) k
    → CameBy base layout parts count part at) → AreClocked count parts

-- nor is one that went into a ring: so none that comes out of it is strange
abbrev pub PutsFit : Type 0
PutsFit = (count : ℕ) (parts : ℕ → Ran) (part lane k : ℕ) → AreClocked count parts → part < count
    → Contains (item_stamps ((parts part).put lane)) k → k ≤ length (stamps_below count parts)
