use Rattle.std.proofs.Common.{refl}
use Rattle.mc_replay.proofs.Followed.{follows_begin}
use Rattle.mc_replay.proofs.segment.first_parts.Goals as goal

pub returns-clause-follows : goal.returns-clause-follows
returns-clause-follows c =
    follows_begin c.args.world.now c.args.batch.now _ c.new-moments.result.items refl c.keeps.ensures.sound c.requires c.in_ok-left.ensures.kept c.in_ok-left.ensures.left c.count_all-counts.ensures
    c.in_ok-retries.ensures.numbered c.new-moments.ensures.items c.in_ok-keep_moment.ensures
