use Rattle.std.proofs.Common.{refl, arith}
use Rattle.mc_stage_plans.proofs.OpenPlans.{cut_at, join_at, settle_at, turn_at}
use Rattle.mc_stage_plans.proofs.planning.plan_items.Goals as goal
use Rattle.mc_stage_plans.proofs.planning.plan_items.Goals.{in-Join+in_ok-push-in-Join, in-Cut+in_ok-push-in-Cut, in-Line+in-Stimulus+in_ok-push-in-Stimulus, in-Line+in-Settle+in_ok-push-in-Settle}

pub loop-item-preserved : goal.loop-item-preserved
loop-item-preserved c =
    let start = c.args.plans.now.items in
    let plans = c.loop-item.plans.items in
    let growths = c.loop-item.growths.items in
    let batch = c.loop-item.batch.items in
    let items = c.args.items.now in
    let i = c.loop-item.item-index in
    elim c.match-item.branch [
      | in-Join+in_ok-push-in-Join w ↦
          rw (w.plans-is, w.growths-is, w.batch-is)
          (join_at start plans growths w.push.new.self.items batch items i _ w.in-Join.medium w.in-Join.from w.in-Join.to (omega (arith, c.loop-item-test.true)) w.in-Join.is w.in_ok-push-in-Join.ensures.items c.loop-item.invariant)
      | in-Cut+in_ok-push-in-Cut w ↦
          rw (w.plans-is, w.growths-is, w.batch-is)
          (cut_at start plans growths w.push-in-Cut.new.self.items batch items i _ w.in-Cut.channel (omega (arith, c.loop-item-test.true)) w.in-Cut.is w.in_ok-push-in-Cut.ensures.items c.loop-item.invariant)
      | in-Line+in-Stimulus+in_ok-push-in-Stimulus w ↦
          rw (w.plans-is, w.growths-is, w.batch-is)
          (turn_at start plans growths batch w.push-in-Stimulus.new.self.items items i _ w.in-Line.command w.in-Stimulus.turn (omega (arith, c.loop-item-test.true)) w.in-Line.is w.in-Stimulus.is w.in_ok-push-in-Stimulus.ensures.items c.loop-item.invariant)
      | in-Line+in-Settle+in_ok-push-in-Settle w ↦
          rw (w.plans-is, w.growths-is, w.batch-is, w.new-growths-in-Settle.ensures.items, w.new-batch-in-Settle.ensures.items)
          (settle_at start plans w.push-in-Settle.new.self.items growths batch items i _ w.in-Line.command _ (omega (arith, c.loop-item-test.true)) w.in-Line.is w.in-Settle.is refl refl w.in_ok-push-in-Settle.ensures.items c.loop-item.invariant)
    ]
