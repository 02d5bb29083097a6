-- Laws of plans: the world that a plan lays out is one that a call can be set up in, and stays so whatever its boxes
-- do.
use Rattle.std.specs.Prelude.{◌≡◌, ℕ, List, None, Some}
use Rattle.mc_rule.specs.Programs.{IsProgram, ProgStateState}
use Rattle.mc_model.specs.Sound.{AreNew, IsNumbered, IsSound}
use Rattle.mc_model.specs.Steps.{run}
use Rattle.mc_model.specs.Unprogrammed.{HasNoPrograms}
use Rattle.mc_model.specs.Worlds.{WorldState}
use Rattle.mc_box.specs.declared.event.Turn.{Turn}
use Rattle.mc_plan.specs.LaidOut.{IsLaidOut}
use Rattle.mc_plan.specs.Layouts.{IsLayout, program_fault, with_program}
use Rattle.mc_plan.specs.Plans.{PlanState, world_of}

-- the boxes of a plan's world are new, and tunnels join each of their slots once, with the numbers of the rules
abbrev pub PlansAreNumbered : Type 0
PlansAreNumbered = (plan : PlanState) → IsLaidOut plan → AreNew (world_of plan).boxes × IsNumbered (world_of plan)

-- no box of it has a program yet
abbrev pub PlansAreUnprogrammed : Type 0
PlansAreUnprogrammed = (plan : PlanState) → HasNoPrograms (world_of plan)

-- each world that a run reaches from there is sound
abbrev pub PlansStaySound : Type 0
PlansStaySound =
    (plan : PlanState) (turns : List Turn) (next : WorldState) → IsLaidOut plan → run (world_of plan) turns ≡ Some next
    → IsSound next

-- ---- layouts

-- a plan's world is a layout
abbrev pub PlansGiveLayouts : Type 0
PlansGiveLayouts = (plan : PlanState) → IsLaidOut plan → IsLayout (world_of plan)

-- it still is one when a box has got a program
abbrev pub ProgramsKeepLayouts : Type 0
ProgramsKeepLayouts =
    (first : WorldState) (who : ℕ) (states : List ProgStateState) → IsLayout first → IsProgram states
    → program_fault first who states ≡ None → IsLayout (with_program first who states)

-- each world that a run reaches from there is sound
abbrev pub LayoutsStaySound : Type 0
LayoutsStaySound =
    (first : WorldState) (turns : List Turn) (next : WorldState) → IsLayout first → run first turns ≡ Some next
    → IsSound next
