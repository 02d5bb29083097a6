use Rattle.std.proofs.Common.{◌∙◌, ap, List, sym, subst}
use Rattle.mc_box.specs.declared.event.Turn.{Turn}
use Rattle.mc_laws.proofs.ShapesKept.{step_keeps_shape}
use Rattle.mc_seq.specs.Commands.{commands_left}
use Rattle.mc_seq.specs.Drawing.{so_far_of}
use Rattle.mc_seq.specs.Schedule.{shifts_by}
use Rattle.mc_seq.specs.Spare.{AreKeptBut}
use Rattle.mc_seq.proofs.Counting.{kept_but, spare_same}
use Rattle.mc_seq.proofs.SettlesSoFar.{tried_is}
use Rattle.mc_seq.proofs.drawing.try_turn.Goals as goal

pub count_programmed-requires-clause-kept : goal.count_programmed-requires-clause-kept
count_programmed-requires-clause-kept c = record {
  kept = c.count.ensures.kept;
  boxes = c.count.ensures.boxes
      ∙ (c.requires.kept.commands.boxes ∙ sym (step_keeps_shape c.args.so_far.now.settled.world c.step.new.self c.args.turn c.keeps.ensures.sound c.in-Ok.ensures.ok).boxes);
}

pub count_programmed-requires-clause-but : goal.count_programmed-requires-clause-but
count_programmed-requires-clause-but c =
    subst (λ (l : List Turn). AreKeptBut c.step.new.self l c.args.so_far.now.shifts c.args.turn) (sym c.count.ensures.left)
    (kept_but c.args.so_far.now.shifts c.args.so_far.now.settled.world c.step.new.self (commands_left c.args.so_far.now.left) c.args.turn c.keeps.ensures.sound c.in-Ok.ensures.ok c.requires.kept.shifts)

pub returns-in_ok-push-in-Ok-clause-tried : goal.returns-in_ok-push-in-Ok-clause-tried
returns-in_ok-push-in-Ok-clause-tried c =
    tried_is c.count_programmed.result (so_far_of c.args.so_far.now) _ c.args.turn c.count_programmed.ensures.draw
    (record {
      goes = c.in-Ok.ensures.ok;
      left = c.count.ensures.left;
      since = c.count.ensures.since;
      shifts = c.count_programmed.ensures.spare
          ∙ ap (shifts_by c.args.turn)
          (spare_same c.args.so_far.now.shifts c.args.so_far.now.settled.world c.step.new.self (step_keeps_shape c.args.so_far.now.settled.world c.step.new.self c.args.turn c.keeps.ensures.sound c.in-Ok.ensures.ok).boxes);
      due = c.count_programmed.ensures.due;
      logged = c.in_ok-push-in-Ok.ensures.items;
    })

pub returns-in_ok-push-in-Ok-clause-kept : goal.returns-in_ok-push-in-Ok-clause-kept
returns-in_ok-push-in-Ok-clause-kept c = record {
  commands = record {
    kept = c.count.ensures.kept;
    boxes = c.count.ensures.boxes
        ∙ (c.requires.kept.commands.boxes ∙ sym (step_keeps_shape c.args.so_far.now.settled.world c.step.new.self c.args.turn c.keeps.ensures.sound c.in-Ok.ensures.ok).boxes);
  };
  shifts = c.count_programmed.ensures.kept;
}
