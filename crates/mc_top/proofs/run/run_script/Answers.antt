use Rattle.std.proofs.Common.{◌+◌, ◌∙◌, ap, arith, map, slice_index_or, subst, sym, List, None}
use Rattle.mc_box.specs.declared.event.Turn.{Turn}
use Rattle.mc_model.specs.Shapes.{AreAllowed}
use Rattle.mc_net.specs.Nets.{batch_turns}
use Rattle.mc_top.specs.Drawn.{draws_state}
use Rattle.mc_top.specs.Outcomes.{CameOf, Stopping}
use Rattle.mc_top.specs.Printed.{opening_text, report_text}
use Rattle.mc_top.specs.Scripts.{Settling}
use Rattle.mc_script_end.proofs.Causes.{ran_shows}
use Rattle.mc_script_end.proofs.Running.{ran_holds}
use Rattle.mc_top.proofs.Running.{all_drawn, all_limited, all_printed, all_settled, batch_allowed, goes_first, goes_next, goes_to_end}
use Rattle.mc_top.proofs.Stopping.{EndsAtStop, stops_at}
use Rattle.mc_top.proofs.run.run_script.Goals as goal

pub loop-index-init : goal.loop-index-init
loop-index-init g c =
    rw (c.new-progress.ensures, c.in_ok-network.ensures.world, c.in_ok-network.ensures.draws, c.in_ok-opening.ensures)
    (goes_first (report_text c.args.report c.args.names.now) (opening_text c.args.report c.args.world) c.args.world (draws_state c.args.draws) (map batch_turns c.args.batches.now) c.keeps.ensures.sound)

pub settle-requires-clause-allowed : goal.settle-requires-clause-allowed
settle-requires-clause-allowed g c = λ lifetimes outlive.
    subst (AreAllowed c.loop-index.progress.world) (sym (c.deref.ensures.value ∙ ap batch_turns c.index-batches-index.is))
    (batch_allowed (report_text c.args.report c.args.names.now) (opening_text c.args.report c.args.world) c.args.world (draws_state c.args.draws) c.args.batches.now c.loop-index.index c.index-batches-index.result _ c.loop-index.progress (omega (arith, c.loop-index-test.true)) c.keeps.ensures.sound c.requires.allowed c.loop-index.invariant)

pub loop-index-preserved : goal.loop-index-preserved
loop-index-preserved g c =
    let batch : List Turn = batch_turns (slice_index_or c.args.batches.now c.loop-index.index c.index-batches-index.result) in
    let came : CameOf c.args.report c.args.names.now (c.loop-index.index + 1) batch c.loop-index.progress c.in_ok-next.field-0 =
    subst (λ (turns : List Turn). CameOf c.args.report c.args.names.now (c.loop-index.index + 1) turns c.loop-index.progress c.in_ok-next.field-0) (c.deref.ensures.value ∙ ap batch_turns c.index-batches-index.is) c.in_ok-next.ensures in
    let settled : Settling (report_text c.args.report c.args.names.now) (c.loop-index.index + 1) batch c.loop-index.progress c.in-Settled.next = subst (CameOf c.args.report c.args.names.now (c.loop-index.index + 1) batch c.loop-index.progress) c.in-Settled.is came in
    goes_next (report_text c.args.report c.args.names.now) (opening_text c.args.report c.args.world) c.args.world (draws_state c.args.draws) c.args.batches.now c.loop-index.index c.index-batches-index.result c.loop-index.progress c.in-Settled.next (omega (arith, c.loop-index-test.true)) settled c.loop-index.invariant

-- what the script came to where a batch stopped
stops : (g : _) (c : goal.In-Stopped g) → EndsAtStop c.args.report c.args.names.now c.args.world (draws_state c.args.draws) (map batch_turns c.args.batches.now) c.in-Stopped.run'
stops g c =
    let batch : List Turn = batch_turns (slice_index_or c.args.batches.now c.loop-index.index c.index-batches-index.result) in
    let came : CameOf c.args.report c.args.names.now (c.loop-index.index + 1) batch c.loop-index.progress c.in_ok-next.field-0 =
    subst (λ (turns : List Turn). CameOf c.args.report c.args.names.now (c.loop-index.index + 1) turns c.loop-index.progress c.in_ok-next.field-0) (c.deref.ensures.value ∙ ap batch_turns c.index-batches-index.is) c.in_ok-next.ensures in
    let stopping : Stopping c.args.names.now batch c.loop-index.progress c.in-Stopped.run' = subst (CameOf c.args.report c.args.names.now (c.loop-index.index + 1) batch c.loop-index.progress) c.in-Stopped.is came in
    stops_at c.args.report c.args.names.now (opening_text c.args.report c.args.world) c.args.world (draws_state c.args.draws) c.args.batches.now c.loop-index.index c.index-batches-index.result c.loop-index.progress c.in-Stopped.run' (omega (arith, c.loop-index-test.true)) stopping c.loop-index.invariant

pub returns-in-Stopped-clause-ran : goal.returns-in-Stopped-clause-ran
returns-in-Stopped-clause-ran g c = (stops g c).ran

pub returns-in-Stopped-clause-drawn : goal.returns-in-Stopped-clause-drawn
returns-in-Stopped-clause-drawn g c = (stops g c).drawn

pub returns-in-Stopped-clause-shift_limit : goal.returns-in-Stopped-clause-shift_limit
returns-in-Stopped-clause-shift_limit g c = (stops g c).shift_limit

pub returns-in-Stopped-clause-holds : goal.returns-in-Stopped-clause-holds
returns-in-Stopped-clause-holds g c = ran_holds c.in-Stopped.run'.stop (map batch_turns c.args.batches.now) c.args.world c.in-Stopped.run'.journal.items c.keeps.ensures.sound (stops g c).ran

pub returns-in-Stopped-clause-shows : goal.returns-in-Stopped-clause-shows
returns-in-Stopped-clause-shows g c =
    ran_shows c.in-Stopped.run'.stop (map batch_turns c.args.batches.now) c.args.world c.in-Stopped.run'.journal.items c.keeps.ensures.sound (stops g c).ran

pub returns-clause-ran : goal.returns-clause-ran
returns-clause-ran g c =
    all_settled (report_text c.args.report c.args.names.now) (opening_text c.args.report c.args.world) c.args.world (draws_state c.args.draws) (map batch_turns c.args.batches.now) c.loop-index.index _
    (goes_to_end _ _ _ _ _ c.loop-index.index _ _ (omega (arith, c.loop-index-test.false)) c.progress.view_is c.loop-index.invariant)

pub returns-clause-drawn : goal.returns-clause-drawn
returns-clause-drawn g c =
    all_drawn (report_text c.args.report c.args.names.now) (opening_text c.args.report c.args.world) c.args.world (draws_state c.args.draws) (map batch_turns c.args.batches.now) c.loop-index.index _
    (goes_to_end _ _ _ _ _ c.loop-index.index _ _ (omega (arith, c.loop-index-test.false)) c.progress.view_is c.loop-index.invariant)

pub returns-clause-shift_limit : goal.returns-clause-shift_limit
returns-clause-shift_limit g c =
    all_limited (report_text c.args.report c.args.names.now) (opening_text c.args.report c.args.world) c.args.world (draws_state c.args.draws) (map batch_turns c.args.batches.now) c.loop-index.index _
    (goes_to_end _ _ _ _ _ c.loop-index.index _ _ (omega (arith, c.loop-index-test.false)) c.progress.view_is c.loop-index.invariant)

pub returns-clause-holds : goal.returns-clause-holds
returns-clause-holds g c =
    ran_holds None (map batch_turns c.args.batches.now) c.args.world _ c.keeps.ensures.sound
    (all_settled (report_text c.args.report c.args.names.now) (opening_text c.args.report c.args.world) c.args.world (draws_state c.args.draws) (map batch_turns c.args.batches.now) c.loop-index.index _
    (goes_to_end _ _ _ _ _ c.loop-index.index _ _ (omega (arith, c.loop-index-test.false)) c.progress.view_is c.loop-index.invariant))

pub returns-clause-output : goal.returns-clause-output
returns-clause-output g c =
    all_printed (report_text c.args.report c.args.names.now) (opening_text c.args.report c.args.world) c.args.world (draws_state c.args.draws) (map batch_turns c.args.batches.now) c.loop-index.index _
    (goes_to_end _ _ _ _ _ c.loop-index.index _ _ (omega (arith, c.loop-index-test.false)) c.progress.view_is c.loop-index.invariant)
