use Rattle.mc_segments.specs.Following.{HasFollowed}
use Rattle.mc_segments.proofs.following.Following.follow_all.Given as goal

-- the turns so far were followed
abbrev pub invariant-loop-place : goal.invariant-loop-place
invariant-loop-place l = HasFollowed l.fn.self.segment.world l.turns l.place l.self
