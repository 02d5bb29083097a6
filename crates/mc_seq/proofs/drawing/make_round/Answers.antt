use Rattle.std.proofs.Common.{refl, sym, ◌∙◌}
use Rattle.mc_laws.proofs.ShapesKept.{run_keeps_shape}
use Rattle.mc_seq.specs.Commands.{commands_left}
use Rattle.mc_seq.specs.Retries.{retries_by_box}
use Rattle.mc_seq.proofs.Counting.{kept_long, spare_same}
use Rattle.mc_seq.proofs.drawing.make_round.Goals as goal

pub recount_all-requires-clause-kept : goal.recount_all-requires-clause-kept
recount_all-requires-clause-kept c = record {
  kept = c.requires.commands.kept;
  boxes = c.requires.commands.boxes
      ∙ sym (run_keeps_shape c.args.so_far.now.settled.world c.retry_by_box.new.settled.world (retries_by_box c.args.so_far.now.settled.world) c.keeps.ensures.sound c.in_ok-retry_by_box.ensures.made.ran).boxes;
}

pub recount_all-requires-clause-long : goal.recount_all-requires-clause-long
recount_all-requires-clause-long c =
    kept_long c.args.so_far.now.shifts c.args.so_far.now.settled.world c.retry_by_box.new.settled.world (commands_left c.args.so_far.now.left) (retries_by_box c.args.so_far.now.settled.world) c.keeps.ensures.sound
    c.in_ok-retry_by_box.ensures.made.ran c.requires.shifts

pub returns-clause-made : goal.returns-clause-made
returns-clause-made c = record {
  retries = c.in_ok-retry_by_box.ensures.made.ran;
  left = refl;
  since = refl;
  shifts = c.recount_all.ensures.spare
      ∙ spare_same c.args.so_far.now.shifts c.args.so_far.now.settled.world c.retry_by_box.new.settled.world
      (run_keeps_shape c.args.so_far.now.settled.world c.retry_by_box.new.settled.world (retries_by_box c.args.so_far.now.settled.world) c.keeps.ensures.sound c.in_ok-retry_by_box.ensures.made.ran).boxes;
  due = refl;
  logged = c.in_ok-retry_by_box.ensures.made.logged;
}

pub returns-clause-kept : goal.returns-clause-kept
returns-clause-kept c = record {
  commands = record {
    kept = c.requires.commands.kept;
    boxes = c.requires.commands.boxes
        ∙ sym (run_keeps_shape c.args.so_far.now.settled.world c.retry_by_box.new.settled.world (retries_by_box c.args.so_far.now.settled.world) c.keeps.ensures.sound c.in_ok-retry_by_box.ensures.made.ran).boxes;
  };
  shifts = c.recount_all.ensures.kept;
}
