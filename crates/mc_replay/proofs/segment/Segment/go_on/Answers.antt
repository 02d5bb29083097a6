use Rattle.std.proofs.Common.{refl}
use Rattle.mc_replay.proofs.Followed.{follows_begin}
use Rattle.mc_replay.proofs.segment.Segment.go_on.Goals as goal

pub returns-clause-follows : goal.returns-clause-follows
returns-clause-follows c =
    follows_begin c.args.self.now.world c.args.batch.now _ _ refl c.keeps.ensures.sound c.requires.allowed c.in_ok-self.ensures.kept c.in_ok-self.ensures.left c.requires.stands.counted c.requires.stands.numbered
    c.clear.ensures.items c.in_ok-keep_moment.ensures
