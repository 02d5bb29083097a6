use Rattle.std.proofs.Common.{◌∙◌, ◌++◌, ◌<◌, List, ap, arith, length, subst, sym}
use Rattle.std.proofs.lemmas.Result.{IfOk-weaker}
use Rattle.mc_box.specs.declared.event.Turn.{Turn}
use Rattle.mc_desk.specs.declared.limit.TheConstants.{REQUEST_LIMIT}
use Rattle.mc_live_settle.specs.Settles.{LiveStops, SettlesLive}
use Rattle.mc_livetop.proofs.Running.{came_to_end, goes_next, next_allowed, now_named}
use Rattle.mc_livetop.proofs.Stopping.{live_fault_named, stopped_by}
use Rattle.mc_model.specs.Shapes.{AreAllowed}
use Rattle.mc_path_laws.proofs.SettledHold.{settled_paths_hold}
use Rattle.mc_replay.specs.Journals.{lines_for}
use Rattle.mc_script_end.proofs.Running.{after_settle, batch_at, has_names}
use Rattle.mc_livetop.proofs.run.run_live.Goals as goal

pub settle_live-requires-clause-allowed : goal.settle_live-requires-clause-allowed
settle_live-requires-clause-allowed g c = λ lifetimes outlive.
    subst (AreAllowed c.loop-index.now) (sym c.deref.ensures.value)
    (next_allowed c.args.operators c.args.names.now c.args.world c.loop-index.now c.args.batches.now c.loop-index.index c.index-batches-index.result _ c.loop-index.journal.items c.loop-index.output.items
    (omega (arith, c.loop-index-test.true)) c.keeps.ensures.sound c.requires.allowed c.loop-index.invariant)

pub settle_live-requires-clause-commands : goal.settle_live-requires-clause-commands
settle_live-requires-clause-commands g c = λ lifetimes outlive.
    subst (λ (turns : List Turn). length turns < REQUEST_LIMIT) (sym c.deref.ensures.value)
    (batch_at (λ batch. length batch < REQUEST_LIMIT) c.args.batches.now c.loop-index.index c.index-batches-index.result (omega (arith, c.loop-index-test.true)) c.requires.commands)

pub print_settle-requires-clause-named : goal.print_settle-requires-clause-named
print_settle-requires-clause-named g c =
    let s = c.in-Ok.ensures.settled in
    let named = now_named c.args.operators c.args.names.now c.args.world c.loop-index.now _ _ c.loop-index.index c.loop-index.journal.items c.loop-index.output.items c.requires.named c.loop-index.invariant in
    (after_settle c.args.names.now c.loop-index.now c.in-Ok.field-0.world s.order c.in-Ok.field-0.turns.items c.loop-index.invariant.sound named s.settled).named

pub print_settle-requires-clause-holds : goal.print_settle-requires-clause-holds
print_settle-requires-clause-holds g c =
    let s = c.in-Ok.ensures.settled in
    settled_paths_hold c.loop-index.now c.in-Ok.field-0.world s.order c.in-Ok.field-0.turns.items c.loop-index.invariant.sound s.settled

pub loop-index-preserved : goal.loop-index-preserved
loop-index-preserved g c =
    let settled = subst (λ (turns : List Turn). SettlesLive c.args.operators c.loop-index.now turns c.in-Ok.field-0.turns.items c.in-Ok.field-0.world) c.deref.ensures.value c.in-Ok.ensures.settled in
    let kept = c.in_ok-keep_settle-in-Ok.ensures ∙ ap (λ (turns : List Turn). c.loop-index.journal.items ++ lines_for turns) c.deref-in-Ok.ensures.value in
    goes_next c.args.operators c.args.names.now c.args.world c.loop-index.now c.in-Ok.field-0.world c.args.batches.now c.loop-index.index c.index-batches-index.result c.in-Ok.field-0.turns.items
    c.loop-index.journal.items c.keep_settle.new.journal.items c.loop-index.output.items c.print_settle.new.output.items
    (omega (arith, c.loop-index-test.true)) settled kept c.in_ok-print_settle-in-Ok.ensures c.loop-index.invariant

pub stop_by-requires : goal.stop_by-requires
stop_by-requires g c =
    let named = now_named c.args.operators c.args.names.now c.args.world c.loop-index.now _ _ c.loop-index.index c.loop-index.journal.items c.loop-index.output.items c.requires.named c.loop-index.invariant in
    live_fault_named c.args.operators c.args.names.now c.loop-index.now c.deref.result.now c.in-Err.fault c.loop-index.invariant.sound
    (has_names c.args.names.now c.loop-index.now c.loop-index.invariant.sound named) c.in-Err.ensures.stops

pub returns-in-Err-clause-ran : goal.returns-in-Err-clause-ran
returns-in-Err-clause-ran g c =
    let stops = subst (λ (turns : List Turn). LiveStops c.args.operators c.loop-index.now turns c.in-Err.fault) c.deref.ensures.value c.in-Err.ensures.stops in
    IfOk-weaker c.stop_by.result _ _
    (λ run ends. (stopped_by c.args.operators c.args.names.now c.args.world c.loop-index.now c.args.batches.now c.loop-index.index c.index-batches-index.result c.in-Err.fault
    c.loop-index.journal.items c.loop-index.output.items run (omega (arith, c.loop-index-test.true)) stops ends c.loop-index.invariant).ran) c.stop_by.ensures

pub returns-in-Err-clause-output : goal.returns-in-Err-clause-output
returns-in-Err-clause-output g c =
    let stops = subst (λ (turns : List Turn). LiveStops c.args.operators c.loop-index.now turns c.in-Err.fault) c.deref.ensures.value c.in-Err.ensures.stops in
    IfOk-weaker c.stop_by.result _ _
    (λ run ends. (stopped_by c.args.operators c.args.names.now c.args.world c.loop-index.now c.args.batches.now c.loop-index.index c.index-batches-index.result c.in-Err.fault
    c.loop-index.journal.items c.loop-index.output.items run (omega (arith, c.loop-index-test.true)) stops ends c.loop-index.invariant).output) c.stop_by.ensures

pub returns-clause-ran : goal.returns-clause-ran
returns-clause-ran g c =
    (came_to_end c.args.operators c.args.names.now c.args.world c.loop-index.now c.args.batches.now c.loop-index.index c.loop-index.journal.items c.loop-index.output.items
    (omega (arith, c.loop-index-test.false)) c.loop-index.invariant).ran

pub returns-clause-output : goal.returns-clause-output
returns-clause-output g c =
    (came_to_end c.args.operators c.args.names.now c.args.world c.loop-index.now c.args.batches.now c.loop-index.index c.loop-index.journal.items c.loop-index.output.items
    (omega (arith, c.loop-index-test.false)) c.loop-index.invariant).output
