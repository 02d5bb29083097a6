use Rattle.std.proofs.Common.{List, [], map, subst, sym}
use Rattle.mc_box.specs.declared.event.Turn.{Turn}
use Rattle.mc_model.specs.Shapes.{AreAllowed}
use Rattle.mc_script.specs.Batches.{batch_turns}
use Rattle.mc_replay.specs.Follows.{Follows}
use Rattle.mc_replay.proofs.Stands.{fresh, place_allowed}
use Rattle.mc_replay.proofs.replay.Replay.new.Goals as goal

pub begin-requires : goal.begin-requires
begin-requires c = subst (AreAllowed c.args.world) (sym c.batch_at.ensures) (place_allowed (map batch_turns c.args.batches.now) c.args.world 0 c.requires)

pub returns : goal.returns
returns c =
    fresh c.args.world (map batch_turns c.args.batches.now) c.in_ok-segment.segment c.requires
    (subst (λ (batch : List Turn). Follows c.args.world batch [] c.in_ok-segment.segment) c.batch_at.ensures c.in_ok-segment.ensures.follows) c.in_ok-segment.ensures.none
