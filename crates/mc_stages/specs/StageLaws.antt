-- Laws of stages of networks that grow.
use Rattle.std.specs.Prelude.{List}
use Rattle.std.specs.List.{All}
use Rattle.mc_growth.specs.Growths.{GrownState, IsGrownRun, Stage, network_paths}
use Rattle.mc_growth.specs.Outs.{AreOut}
use Rattle.mc_stages.specs.StageRuns.{networks_after}
use Rattle.mc_model.specs.PathTable.{PathHolds}
use Rattle.mc_model.specs.Sound.{IsSound}

-- each path of a network is as the path table says
abbrev pub PathsHold : GrownState → Type 0
PathsHold network = All (PathHolds network.world) (network_paths network)

-- at each settle of a run in which a network grows they are
abbrev pub SettlesHold : Type 0
SettlesHold =
    (first last : GrownState) (stages : List Stage) → IsSound first.world → AreOut first.world first.out
    → IsGrownRun first stages last → All PathsHold (networks_after first stages)
