use Rattle.std.proofs.Common.{arith, map, rules}
use Rattle.mc_net.specs.Nets.{batch_turns}
use Rattle.mc_top.specs.Growing.{MayBeRun}
use Rattle.mc_top.proofs.GrownEnds.{may_be_run}
use Rattle.mc_top.proofs.growing.run_planned.Goals as goal

pub run_stages-requires : goal.run_stages-requires
run_stages-requires g c =
    let may : MayBeRun c.args.tail.names c.args.net.world (map batch_turns c.deref.result.now) c.deref-2.result.now =
    rw (c.deref.ensures.value, c.deref-2.ensures.value)
    (may_be_run c.args.text.now c.args.net c.args.tail c.plans_may_happen.ensures.may c.plans_may_happen.ensures.named c.plans_may_happen.ensures.few
    c.requires.declares c.requires.tail c.requires.named (omega arith)) in
    search rules
