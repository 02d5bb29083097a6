-- A ring that is drained between two phases.
use Rattle.std.specs.Prelude.{◌≡◌, ℕ, List, [], ◌++◌}
use Rattle.mc_merge.specs.LaneLogs.{without_stamps}
use Rattle.mc_merge.specs.Phases.{IsDrained, Layout, before_ring, lane_in}
use Rattle.mc_merge.specs.Account.{PartState}
use Rattle.mc_merge.specs.Together.{Ran}
use Rattle.mc_port.specs.declared.stamped.Stamped.{Stamped}

-- before the phase all that was given to the ring had been received; then both ports went on, and what was left, and
-- what waited before the ring, was drained
pub record DrainsRing (layout : Layout) (parts : ℕ → Ran) (drained : ℕ → PartState) (lane : ℕ) : Type 0 where
  pub received : List Stamped
  pub received_2 : List Stamped
  pub given : List Stamped
  pub given_2 : List Stamped
  pub left : List Stamped
  pub even : received ≡ given
  pub gave : received_2 ≡ received ++ (parts (layout.takers lane).0).gave (layout.takers lane).1
  pub put : given_2 ≡ given ++ (parts (layout.senders lane).0).put (layout.senders lane).1
  pub all : received_2 ++ left ≡ given_2
  pub rest : lane_in layout drained lane ≡ lane_in layout (λ part. (parts part).new) lane
      ++ (without_stamps left ++ before_ring layout (λ part. (parts part).new) lane)
  pub empty : before_ring layout drained lane ≡ []

abbrev pub RingsAreDrained : Type 0
RingsAreDrained = (layout : Layout) (parts : ℕ → Ran) (drained : ℕ → PartState) (lane : ℕ)
    → DrainsRing layout parts drained lane → IsDrained layout parts drained lane

-- between two drains: what a ring gave, and what is left, is what was put
abbrev pub DrainsMeet : Type 0
DrainsMeet = (received given gave put left : List Stamped) → received ≡ given
    → (received ++ gave) ++ left ≡ given ++ put → gave ++ left ≡ put
