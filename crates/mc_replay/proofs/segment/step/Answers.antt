use Rattle.mc_replay.proofs.CountsKept.{of_box_within, step_counts, step_fits, turn_inside}
use Rattle.mc_replay.proofs.segment.step.Goals as goal

pub recounted-requires-clause-owed : goal.recounted-requires-clause-owed
recounted-requires-clause-owed c =
    (of_box_within c.args.world.now c.args.turn.who c.args.counts.now c.counts_of-less.result (turn_inside c.args.world.now c.step.new.self c.args.turn c.in-Ok.ensures.ok) c.requires c.counts_of-less.ensures).0

pub recounted-requires-clause-ready : goal.recounted-requires-clause-ready
recounted-requires-clause-ready c =
    (of_box_within c.args.world.now c.args.turn.who c.args.counts.now c.counts_of-less.result (turn_inside c.args.world.now c.step.new.self c.args.turn c.in-Ok.ensures.ok) c.requires c.counts_of-less.ensures).1

pub recounted-requires-clause-owed_fits : goal.recounted-requires-clause-owed_fits
recounted-requires-clause-owed_fits c =
    (step_fits c.args.world.now c.step.new.self c.args.turn c.args.counts.now c.counts_of-more.result c.keeps.ensures.sound c.keeps-2.ensures.sound c.in-Ok.ensures.ok c.requires c.counts_of-more.ensures).0

pub recounted-requires-clause-ready_fits : goal.recounted-requires-clause-ready_fits
recounted-requires-clause-ready_fits c =
    (step_fits c.args.world.now c.step.new.self c.args.turn c.args.counts.now c.counts_of-more.result c.keeps.ensures.sound c.keeps-2.ensures.sound c.in-Ok.ensures.ok c.requires c.counts_of-more.ensures).1

pub returns : goal.returns
returns c = (
  c.in-Ok.ensures.ok,
  step_counts c.args.world.now c.step.new.self c.args.turn c.args.counts.now c.counts_of-less.result c.counts_of-more.result c.recounted.result c.keeps.ensures.sound c.in-Ok.ensures.ok c.requires
      c.counts_of-less.ensures c.counts_of-more.ensures c.recounted.ensures.owed c.recounted.ensures.ready,
)
