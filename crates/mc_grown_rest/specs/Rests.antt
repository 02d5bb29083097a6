-- Scripts of networks that grow, of which what they say shows that they come to their end.
use Rattle.std.specs.Prelude.{◌≡◌, ◌⊎◌, ◌+◌, ◌≤◌, ◌<◌, ℕ, false, List, [], ◌∷◌, None, count_by}
use Rattle.std.specs.List.{All}
use Rattle.mc_slot.specs.declared.Goal.TheVariants.{Close as ToClose}
use Rattle.mc_slot.specs.declared.SlotGoal.TheVariants.{End}
use Rattle.mc_slot.specs.declared.State.TheVariants.{Closed}
use Rattle.mc_box.specs.declared.event.Turn.{Turn}
use Rattle.mc_box.specs.declared.limit.TheConstants.{LAST_VERSION, SHIFT_LIMIT}
use Rattle.mc_growth.specs.Growths.{Cut as ACut, GrownState, Growth, Join as AJoin, grown_by}
use Rattle.mc_growth.specs.Outs.{channel_at}
use Rattle.mc_laws.specs.Chains.{ClosesNoChain}
use Rattle.mc_laws.specs.Versions.{PassesLast}
use Rattle.mc_laws.specs.Words.{ShiftsByWords}
use Rattle.mc_model.specs.Paths.{has_ring}
use Rattle.mc_model.specs.Settles.{hears_in, is_tell_of}
use Rattle.mc_model.specs.Unprogrammed.{HasNoPrograms}
use Rattle.mc_model.specs.Worlds.{WorldState, box_at, goal_of, slot_count, slot_of, version_at}
use Rattle.mc_grown_script.specs.declared.stop.GrownStop.{GrownStop}
use Rattle.mc_grown_script.specs.declared.stop.GrownStop.TheVariants.{Cut, Settle}
use Rattle.mc_seq.specs.declared.stopping.SettleStop.TheVariants.{Restless, Ring, VersionEnd}
use Rattle.mc_stages.specs.Plans.{growths_of, grown_at_end}
use Rattle.mc_stages.specs.declared.plan.StagePlan.{StagePlan}
use Rattle.mc_grown_rest.specs.Planned.{all_batches, commanded_for}

-- ---- versions

-- The first version of each slot and its Hears, over all plans, don't pass the last version together. A slot that joins
-- begins at its box's first version
abbrev pub PlansMeetNoLast : GrownState → List StagePlan → Type 0
PlansMeetNoLast first plans =
    (who local : ℕ)
    → version_at (grown_at_end first plans).world who local + hears_in who local (all_batches plans) ≤ LAST_VERSION

-- ---- rings

-- after no plan do the goals make a ring, as the plans up to that one set them
abbrev pub PlansLeaveNoRing : GrownState → List StagePlan → Type 0
PlansLeaveNoRing network [] = Unit {0}
PlansLeaveNoRing network (plan ∷ plans) =
    (has_ring (commanded_for network plan).world ≡ false) × PlansLeaveNoRing (commanded_for network plan) plans

-- the tunnels of all channels that ever join, and the links that boxes, programs or commands name, close no chain
abbrev pub PlansCloseNoChain : GrownState → List StagePlan → Type 0
PlansCloseNoChain first plans = ClosesNoChain (grown_at_end first plans).world (all_batches plans)

-- no settle meets a ring: no chain can be closed, whatever programs do; or no box has a program, and no plan leaves one
abbrev pub PlansMakeNoRing : GrownState → List StagePlan → Type 0
PlansMakeNoRing first plans =
    PlansCloseNoChain first plans ⊎ (HasNoPrograms first.world × PlansLeaveNoRing first plans)

-- ---- programs

-- a batch tells each box fewer words than it may make Shifts in a settle
abbrev pub TellsFew : List Turn → Type 0
TellsFew batch = (who : ℕ) → count_by (is_tell_of who) batch < SHIFT_LIMIT

-- each program goes by told words alone, no word is told yet, and each batch tells few
pub record RestsByWords (world : WorldState) (batches : List (List Turn)) : Type 0 where
  pub by_words : ShiftsByWords world
  pub untold : (who : ℕ) → (box_at world who).told ≡ None
  pub few : All TellsFew batches

-- in each settle programs come to rest: there are none, or they go by words, of which few are told
abbrev pub ProgramsRest : GrownState → List StagePlan → Type 0
ProgramsRest first plans = HasNoPrograms first.world ⊎ RestsByWords first.world (all_batches plans)

-- ---- cuts

-- where a channel is cut, each of its slots has the goal close
abbrev pub CutsAtClose : GrownState → Growth → Type 0
CutsAtClose network (AJoin medium from to) = Unit {0}
CutsAtClose network (ACut channel) =
    (s : ℕ) → s < slot_count network.world → channel_at network.world s ≡ channel
    → goal_of network.world s ≡ End ToClose

-- and so it is at each of these joins and cuts, after those before it
abbrev pub CutsAllAtClose : GrownState → List Growth → Type 0
CutsAllAtClose network [] = Unit {0}
CutsAllAtClose network (growth ∷ growths) =
    CutsAtClose network growth × CutsAllAtClose (grown_by network growth) growths

-- the commands before each cut leave the goal close at each slot of its channel
abbrev pub ClosesBeforeCuts : GrownState → List StagePlan → Type 0
ClosesBeforeCuts network [] = Unit {0}
ClosesBeforeCuts network (plan ∷ plans) =
    CutsAllAtClose network (growths_of plan) × ClosesBeforeCuts (commanded_for network plan) plans

-- ---- scripts

-- each slot is closed, as in a network of new boxes
abbrev pub AreClosed : WorldState → Type 0
AreClosed world = (s : ℕ) → s < slot_count world → (slot_of world s).state ≡ Closed

-- what the plans of a script say shows that it comes to its end: no command meets the last version, no settle meets a
-- ring, programs come to rest, and each channel is closed before it is cut
pub record ComesToEnd (first : GrownState) (plans : List StagePlan) : Type 0 where
  pub versions : PlansMeetNoLast first plans
  pub rings : PlansMakeNoRing first plans
  pub programs : ProgramsRest first plans
  pub cuts : ClosesBeforeCuts first plans

-- What a stop shows of the plans of a script: at the last version, that the first version of some slot and its Hears
-- over all plans are more than that together; at a ring, at a restless box and at a cut, that what would rule it out
-- isn't so
abbrev pub StopShows : GrownState → List StagePlan → GrownStop → Type 0
StopShows first plans (Settle (VersionEnd at)) =
    PassesLast (grown_at_end first plans).world (λ who local. hears_in who local (all_batches plans))
StopShows first plans (Settle (Ring at)) = PlansMakeNoRing first plans → ⊥
StopShows first plans (Settle (Restless at)) = ProgramsRest first plans → ⊥
StopShows first plans (Cut at) = ClosesBeforeCuts first plans → ⊥
