use Rattle.std.proofs.Common.{List, ap, subst, ℕ, ◌++◌, ◌∙◌}
use Rattle.mc_box.specs.declared.event.Turn.{Turn}
use Rattle.mc_path_laws.proofs.SettledHold.{settled_paths_hold}
use Rattle.mc_replay.specs.Journals.{lines_for}
use Rattle.mc_top.specs.Outcomes.{Stopping}
use Rattle.mc_top.specs.Printed.{report_text}
use Rattle.mc_top.specs.Scripts.{ScriptState, Settling, network_draws, network_world}
use Rattle.mc_script_end.proofs.Running.{IsAfterSettle, after_settle}
use Rattle.mc_settle_text.proofs.Named.{fault_named}
use Rattle.mc_top.proofs.Stopping.{stops_by}
use Rattle.mc_script_end.proofs.Running.{has_names}
use Rattle.mc_top.proofs.Summing.{report_is}
use Rattle.mc_top.proofs.run.Progress.settle.Goals as goal

-- what holds of the world that a settle leaves
after : (g : _) (c : goal.After-output-1 g) → IsAfterSettle c.args.names.now (network_world c.in-Ok.network)
after g c = after_settle c.args.names.now (network_world c.self.inside.network) (network_world c.in-Ok.network) _ _ c.keeps.ensures.sound (rw (← c.self.view_is) at c.requires.named) c.in-Ok.ensures.settled

pub print_settle-requires-clause-named : goal.print_settle-requires-clause-named
print_settle-requires-clause-named g c = (after g c).named

pub print_settle-requires-clause-quiet : goal.print_settle-requires-clause-quiet
print_settle-requires-clause-quiet g c = (after g c).quiet

pub returns-in_ok-print_settle-in-Ok : goal.returns-in_ok-print_settle-in-Ok
returns-in_ok-print_settle-in-Ok g c =
    let last = (network_world c.in-Ok.network) in
    let settled = c.in-Ok.ensures.settled in
    let holds = settled_paths_hold (network_world c.self.inside.network) last _ _ c.keeps.ensures.sound settled in
    subst (λ (s : ScriptState). Settling (report_text c.args.report c.args.names.now) c.args.number c.args.batch.now s (record {
      world = last;
      draws = network_draws c.in-Ok.network;
      journal = c.keep_settle.new.journal.items;
      output = c.print_settle.new.output.items;
    })) c.self.view_is (record {
      turns = c.in-Ok.turns.items;
      settled = settled;
      shift_limit = c.in-Ok.ensures.shift_limit;
      scheduled = c.in-Ok.ensures.scheduled;
      journal = c.in_ok-keep_settle-in-Ok.ensures
          ∙ ap (λ (turns : List Turn). c.self.inside.journal.items ++ lines_for turns) c.deref.ensures.value;
      output = c.in_ok-print_settle-in-Ok.ensures
          ∙ ap (λ (text : List ℕ). c.self.inside.output.items ++ text) (report_is c.args.report c.args.names.now c.args.number last holds);
    })

pub stop_by-requires : goal.stop_by-requires
stop_by-requires g c =
    fault_named c.args.names.now (network_world c.self.inside.network) c.args.batch.now c.in-Err.fault c.keeps.ensures.sound
    (has_names c.args.names.now (network_world c.self.inside.network) c.keeps.ensures.sound (rw (← c.self.view_is) at c.requires.named)) c.in-Err.ensures.stops

pub returns-in_ok-run-in-Err : goal.returns-in_ok-run-in-Err
returns-in_ok-run-in-Err g c =
    subst (λ (s : ScriptState). Stopping c.args.names.now c.args.batch.now s c.in_ok-run-in-Err.run') c.self.view_is
    (stops_by c.args.names.now c.args.batch.now (record {
      world = (network_world c.self.inside.network);
      draws = network_draws c.self.inside.network;
      journal = c.self.inside.journal.items;
      output = c.self.inside.output.items;
    }) c.in-Err.fault c.in_ok-run-in-Err.run' c.in-Err.ensures.stops c.in-Err.ensures.drawn c.in_ok-run-in-Err.ensures)
