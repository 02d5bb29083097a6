use Rattle.std.proofs.Common.{map, take, slice_index_or, arith}
use Rattle.std.proofs.lemmas.Result.{err_from_is_err_and}
use Rattle.mc_script.specs.Batches.{batch_turns}
use Rattle.mc_replay.specs.Points.{Point, first_point, point_after}
use Rattle.mc_replay.specs.Replays.{views_of}
use Rattle.mc_replay.proofs.ToldLines.{line_pace, told_next}
use Rattle.mc_replay.proofs.Reading.{count_before, read_next, refused_at}
use Rattle.mc_replay.proofs.checking.read_lines.Goals as goal

pub read_line-requires-clause-few : goal.read_line-requires-clause-few
read_line-requires-clause-few g c =
    let count = count_before (g.V.Viewer.shows c.args.viewer.now) c.args.replay.now.segment.world (map batch_turns c.args.batches.now) c.args.lines.now c.loop-line.line-index c.loop-line.replay (views_of c.loop-line.views.items) (omega arith) c.loop-line.invariant.0 in
    omega (arith, count, c.requires.few)

pub returns-in_err-read_line-clause-refused : goal.returns-in_err-read_line-clause-refused
returns-in_err-read_line-clause-refused g c =
    let point : Point = point_after (first_point c.args.replay.now.segment.world (map batch_turns c.args.batches.now)) (take c.loop-line.line-index c.args.lines.now) in
    let fault = err_from_is_err_and c.from_residual.result c.from_residual.ensures.1 in
    rw (fault.1, fault.2) (λ bad. refused_at (g.V.Viewer.shows c.args.viewer.now) c.args.replay.now.segment.world (map batch_turns c.args.batches.now) c.args.lines.now c.loop-line.line-index _ c.loop-line.replay c.read_line.new.replay (views_of c.loop-line.views.items) c.in_err-read_line.field-0.0 bad (omega arith) c.loop-line.invariant.0 (c.in_err-read_line.ensures.reads point c.loop-line.invariant.0.stands))

pub loop-line-preserved : goal.loop-line-preserved
loop-line-preserved g c =
    let point : Point = point_after (first_point c.args.replay.now.segment.world (map batch_turns c.args.batches.now)) (take c.loop-line.line-index c.args.lines.now) in (
      read_next (g.V.Viewer.shows c.args.viewer.now) c.args.replay.now.segment.world (map batch_turns c.args.batches.now) c.args.lines.now c.loop-line.line-index _ c.loop-line.replay c.read_line.new.replay (views_of c.loop-line.views.items) (views_of c.read_line.new.views.items) (omega arith) c.loop-line.invariant.0 (c.in_ok-read_line.ensures.reads point c.loop-line.invariant.0.stands) c.in_ok-read_line.ensures.shown,
      line_pace (slice_index_or c.args.lines.now c.loop-line.line-index _) c.loop-line.replay.segment.world c.read_line.new.replay c.loop-line.telling c.read_line.new.telling c.in_ok-read_line.ensures.told,
      λ first. told_next c.args.replay.now.segment.world c.args.lines.now c.loop-line.line-index _ c.loop-line.replay.segment.world c.read_line.new.replay c.loop-line.telling c.read_line.new.telling (omega arith) c.in_ok-read_line.ensures.told (c.loop-line.invariant.2 first),
    )
