use Rattle.std.proofs.Common.{List, arith, map, subst, sym}
use Rattle.mc_growth.specs.Growths.{GrownState, grown_from}
use Rattle.mc_net.specs.Nets.{batch_turns}
use Rattle.mc_stages.specs.Plans.{AreLawful, NamesEnough, grown_at_end}
use Rattle.mc_stages.specs.declared.plan.StagePlan.{StagePlan}
use Rattle.mc_top.proofs.GrownEnds.{ran_stages}
use Rattle.mc_top.proofs.growing.run_stages.Goals as goal

pub run_plans-requires-clause-lawful : goal.run_plans-requires-clause-lawful
run_plans-requires-clause-lawful g c = λ lifetimes live.
    subst (λ (n : GrownState). AreLawful n c.deref.result.now) (sym c.in_ok-network.ensures)
    (subst (λ (l : List StagePlan). AreLawful (grown_from c.args.world) l) (sym c.deref.ensures.value) (c.requires.lawful c.in_ok-plans.plans.items c.in_ok-plans.ensures))

pub run_plans-requires-clause-named : goal.run_plans-requires-clause-named
run_plans-requires-clause-named g c = λ lifetimes live.
    subst (λ (n : GrownState). NamesEnough c.args.names.now (grown_at_end n c.deref.result.now).world) (sym c.in_ok-network.ensures)
    (subst (λ (l : List StagePlan). NamesEnough c.args.names.now (grown_at_end (grown_from c.args.world) l).world) (sym c.deref.ensures.value)
    (c.requires.named c.in_ok-plans.plans.items c.in_ok-plans.ensures))

pub run_plans-requires-clause-few_boxes : goal.run_plans-requires-clause-few_boxes
run_plans-requires-clause-few_boxes g c = λ lifetimes live. rw c.in_ok-network.ensures c.requires.few_boxes

pub run_plans-requires-clause-few : goal.run_plans-requires-clause-few
run_plans-requires-clause-few g c = λ lifetimes live. rw c.deref.ensures.value (omega (arith, c.requires.few c.in_ok-plans.plans.items c.in_ok-plans.ensures))

pub returns : goal.returns
returns g c =
    ran_stages c.args.names.now c.args.world (map batch_turns c.args.batches.now) c.args.items.now c.in_ok-network.network c.in_ok-plans.plans.items c.deref.result.now c.run_plans.result
    c.in_ok-network.ensures c.deref.ensures.value c.in_ok-plans.ensures c.keeps.ensures c.run_plans.ensures
