use Rattle.std.proofs.Common.{◌+◌, ap, arith, drop, rules, subst}
use Rattle.mc_grown_script.specs.Progress.{CameOf}
use Rattle.mc_grown_script.specs.Scripts.{ScriptState}
use Rattle.mc_grown_script.proofs.Running.{came_to_end, goes_at, goes_first, goes_more, stage_named, stopped_within}
use Rattle.mc_grown_script.proofs.script.run_plans.Goals as goal

pub loop-index-init : goal.loop-index-init
loop-index-init g c =
    rw (c.new-progress.ensures)
    (goes_first c.args.names.now c.args.network c.args.plans.now c.requires.lawful c.requires.named c.requires.few_boxes (search rules))

pub run_plan-requires-clause-named : goal.run_plan-requires-clause-named
run_plan-requires-clause-named g c = λ lifetimes outlive.
    let on = goes_at c.args.names.now c.args.network c.args.plans.now c.loop-index.index c.index-plans-index.result c.index-plans-index.result c.loop-index.progress
    c.index-plans-index.is (omega (arith, c.loop-index-test.true)) c.loop-index.invariant in
    stage_named c.args.names.now c.loop-index.progress.network c.index-plans-index.result (drop (c.loop-index.index + 1) c.args.plans.now) on.lawful on.named

pub loop-index-preserved : goal.loop-index-preserved
loop-index-preserved g c =
    goes_more c.args.names.now c.args.network c.args.plans.now (drop (c.loop-index.index + 1) c.args.plans.now) c.loop-index.index c.index-plans-index.result
    c.loop-index.progress c.in-Settled.next
    (subst (CameOf c.args.names.now (c.loop-index.index + 1) c.index-plans-index.result c.loop-index.progress) c.in-Settled.is c.in_ok-next.ensures)
    (goes_at c.args.names.now c.args.network c.args.plans.now c.loop-index.index c.index-plans-index.result c.index-plans-index.result c.loop-index.progress
    c.index-plans-index.is (omega (arith, c.loop-index-test.true)) c.loop-index.invariant)

pub returns-in-Stopped : goal.returns-in-Stopped
returns-in-Stopped g c =
    stopped_within c.args.names.now c.args.network c.args.plans.now (drop (c.loop-index.index + 1) c.args.plans.now) c.loop-index.index c.index-plans-index.result
    c.loop-index.progress c.in-Stopped.run'
    (subst (CameOf c.args.names.now (c.loop-index.index + 1) c.index-plans-index.result c.loop-index.progress) c.in-Stopped.is c.in_ok-next.ensures)
    (goes_at c.args.names.now c.args.network c.args.plans.now c.loop-index.index c.index-plans-index.result c.index-plans-index.result c.loop-index.progress
    c.index-plans-index.is (omega (arith, c.loop-index-test.true)) c.loop-index.invariant)

pub returns : goal.returns
returns g c =
    came_to_end c.args.names.now c.args.network c.args.plans.now c.loop-index.index c.loop-index.progress _ (omega (arith, c.loop-index-test.false))
    (ap (λ (s : ScriptState). s.journal) c.progress.view_is) (ap (λ (s : ScriptState). s.output) c.progress.view_is) c.loop-index.invariant
