-- A network as the plans of a script alone make it: by joins, cuts and commands, whatever the turns between them are.
use Rattle.std.specs.Prelude.{List, map}
use Rattle.mc_box.specs.declared.event.Turn.{Turn}
use Rattle.mc_growth.specs.Growths.{GrownState, grown_by_all, with_world}
use Rattle.mc_settings.specs.Settings.{commanded}
use Rattle.mc_stages.specs.Plans.{batch_of, growths_of}
use Rattle.mc_stages.specs.declared.plan.StagePlan.{StagePlan}

-- the network that the joins and cuts of a plan make
abbrev pub grown_for : GrownState → StagePlan → GrownState
grown_for network plan = grown_by_all network (growths_of plan)

-- the network as they and then the commands of the plan make it
abbrev pub commanded_for : GrownState → StagePlan → GrownState
commanded_for network plan =
    with_world (grown_for network plan) (commanded (grown_for network plan).world (batch_of plan))

-- the batches of the plans
abbrev pub all_batches : List StagePlan → List (List Turn)
all_batches plans = map batch_of plans
