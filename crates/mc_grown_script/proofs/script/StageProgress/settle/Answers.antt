use Rattle.std.proofs.Common.{All, Bool, List, subst, sym}
use Rattle.mc_growth.specs.Outs.{present_paths}
use Rattle.mc_growth.proofs.Outs.{present_paths_hold}
use Rattle.mc_stages.specs.Plans.{NamesEnough}
use Rattle.mc_grown_script.specs.Progress.{EndsByFault}
use Rattle.mc_grown_script.specs.Scripts.{ScriptState}
use Rattle.mc_model.specs.PathTable.{PathHolds}
use Rattle.mc_model.specs.Sound.{IsSound}
use Rattle.mc_rounds.specs.Stops.{Stops}
use Rattle.mc_grown_script.proofs.Names.{after_settle, has_names}
use Rattle.mc_settle_text.proofs.Named.{fault_named}
use Rattle.mc_grown_script.proofs.Stopping.{stops_by}
use Rattle.mc_grown_script.proofs.script.StageProgress.settle.Goals as goal

pub put_network-requires-clause-named : goal.put_network-requires-clause-named
put_network-requires-clause-named g c =
    (after_settle c.args.names.now c.self.inside.network.world c.in-Ok.network.world c.args.batch.now c.in-Ok.turns.items
    (subst IsSound c.world.ensures c.keeps-2.ensures.sound)
    (subst (λ (s : ScriptState). NamesEnough c.args.names.now s.network.world) (sym c.self.view_is) c.requires.named) c.in-Ok.ensures.settled).named

pub put_network-requires-clause-holds : goal.put_network-requires-clause-holds
put_network-requires-clause-holds g c =
    subst (λ (out : List Bool). All (PathHolds c.in-Ok.network.world) (present_paths c.in-Ok.network.world out)) (sym c.in-Ok.ensures.out)
    (present_paths_hold c.self.inside.network.world c.in-Ok.network.world c.self.inside.network.out c.args.batch.now c.in-Ok.turns.items
    (subst IsSound c.world.ensures c.keeps-2.ensures.sound) c.keeps.ensures c.in-Ok.ensures.settled)

pub stop_by-requires : goal.stop_by-requires
stop_by-requires g c =
    let sound = subst IsSound c.world.ensures c.keeps-2.ensures.sound in
    fault_named c.args.names.now c.self.inside.network.world c.args.batch.now c.in-Err.fault sound
    (has_names c.args.names.now c.self.inside.network.world sound
    (subst (λ (s : ScriptState). NamesEnough c.args.names.now s.network.world) (sym c.self.view_is) c.requires.named)) c.in-Err.ensures.stops

pub returns-in_ok-run-in-Err : goal.returns-in_ok-run-in-Err
returns-in_ok-run-in-Err g c =
    stops_by c.in-Err.fault c.args.names.now c.args.batch.now c.args.self c.in_ok-run-in-Err.run'
    (subst (λ (s : ScriptState). Stops s.network.world c.args.batch.now c.in-Err.fault) c.self.view_is c.in-Err.ensures.stops)
    (subst (λ (s : ScriptState). EndsByFault c.args.names.now s.journal c.in-Err.fault c.in_ok-run-in-Err.run') c.self.view_is c.in_ok-run-in-Err.ensures)
