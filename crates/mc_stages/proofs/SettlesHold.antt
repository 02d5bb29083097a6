-- At each settle of a run in which a network grows its paths are as the path table says.
use Rattle.std.proofs.Common.{◌≡◌, List, All, Option, [], ◌∷◌, ap, sym, subst}
use Rattle.std.specs.Option.{unwrap_or}
use Rattle.std.proofs.lemmas.List.Elements.{All-cons, All-nil}
use Rattle.mc_growth.specs.Growths.{GrownState, IsGrownRun, IsStage, Stage, after_stage, stage_network, with_world}
use Rattle.mc_growth.specs.Outs.{AreOut}
use Rattle.mc_growth.proofs.Outs.{present_paths_hold}
use Rattle.mc_stages.specs.StageLaws.{PathsHold, SettlesHold}
use Rattle.mc_stages.specs.StageRuns.{networks_after, stage_end}
use Rattle.mc_stages.proofs.Grows.{asked_all, out_all, sound_all}
use Rattle.mc_stages.proofs.SettledOut.{settled_out}
use Rattle.mc_laws.proofs.StepKeeps.{run_keeps_sound}
use Rattle.mc_model.specs.Sound.{IsSound}
use Rattle.mc_model.specs.Worlds.{WorldState}

-- the network after a stage
pub end_is : (network : GrownState) (stage : Stage) (last : WorldState) → IsStage network stage last → stage_end network stage ≡ after_stage network stage last
end_is network stage last is =
    ap (λ (o : Option WorldState). with_world (stage_network network stage) (unwrap_or o (stage_network network stage).world)) is.settles.runs

-- what a stage leaves
record LeavesOn (network next : GrownState) : Type 0 where
  holds : PathsHold next
  sound : IsSound next.world
  out : AreOut next.world next.out

after_one : (network : GrownState) (stage : Stage) (last : WorldState) → IsSound network.world → AreOut network.world network.out → IsStage network stage last
    → LeavesOn network (after_stage network stage last)
after_one network stage last sound are is =
    let grown : GrownState = stage_network network stage in
    let strong = sound_all stage.growths network sound (asked_all stage.growths network is.grows) in
    let flags = out_all stage.growths network sound are is.grows in
    record {
      holds = present_paths_hold grown.world last grown.out stage.batch stage.turns strong flags is.settles;
      sound = run_keeps_sound grown.world last stage.turns strong is.settles.runs;
      out = settled_out grown.world last grown.out stage.batch stage.turns strong flags is.commands is.settles;
    }

pub settles_hold : SettlesHold
settles_hold first last [] sound are goes = All-nil PathsHold
settles_hold first last (stage ∷ stages) sound are goes =
    let next : GrownState = after_stage first stage goes.0 in
    let leaves = after_one first stage goes.0 sound are goes.1 in
    subst (λ (n : GrownState). All PathsHold (n ∷ networks_after n stages)) (sym (end_is first stage goes.0 goes.1))
    (All-cons PathsHold next (networks_after next stages) leaves.holds (settles_hold next last stages leaves.sound leaves.out goes.2))
