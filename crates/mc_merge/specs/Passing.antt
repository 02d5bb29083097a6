-- What passes through a lane of a part.
use Rattle.std.specs.Prelude.{◌≡◌, ℕ, ◌+◌, ◌<◌, List, [], ◌++◌, length, slice_get, Some}
use Rattle.mc_signal.specs.declared.Tagged.{Tagged}
use Rattle.mc_merge.specs.LaneLogs.{without_stamps}
use Rattle.mc_merge.specs.Merging.{LaneKeeps}
use Rattle.mc_port.specs.declared.stamped.Stamped.{Stamped}

-- what is taken from a lane, then a rest, is what was there, then what came; and what came has a stamp below that of
-- its taking, or with a slack of 1 none above it
pub record LanePasses (slack : ℕ) (lane : List Tagged) (taken came : List Stamped) (rest : List Tagged) : Type 0 where
  pub order : without_stamps taken ++ rest ≡ lane ++ without_stamps came
  pub later : (j k : ℕ) (taking coming : Stamped) → j ≡ length lane + k → slice_get taken j ≡ Some taking
      → slice_get came k ≡ Some coming → coming.stamp < taking.stamp + slack

-- all that came has a stamp below all that is taken
abbrev pub AllBefore : ℕ → List Stamped → List Stamped → Type 0
AllBefore slack came taken = (i k : ℕ) (taking coming : Stamped) → slice_get taken i ≡ Some taking
    → slice_get came k ≡ Some coming → coming.stamp < taking.stamp + slack

abbrev pub PassesJoin : Type 0
PassesJoin = (slack : ℕ) (a b c : List Tagged) (taken came taken_2 came_2 : List Stamped)
    → LanePasses slack a taken came b → LanePasses slack b taken_2 came_2 c
    → AllBefore slack came taken_2 → LanePasses slack a (taken ++ taken_2) (came ++ came_2) c

-- out of one part, where the lane was empty, through a ring that was empty, into another: the ring got stamps that
-- are not below those of the sendings, and takings have stamps above those
abbrev pub LanesMeet : Type 0
LanesMeet = (inner inner_rest outer_rest : List Tagged) (taken gave left put sent : List Stamped)
    → LanePasses 0 inner taken gave inner_rest → gave ++ left ≡ put
    → LanePasses 1 [] put sent outer_rest → LaneKeeps inner taken sent
    (inner_rest ++ (without_stamps left ++ outer_rest))
