use Rattle.std.proofs.Common.{sym, subst}
use Rattle.mc_model.specs.Worlds.{WorldState}
use Rattle.mc_segments.specs.Following.{HasFollowed}
use Rattle.mc_segments.proofs.ends.settled_ends.Goals as goal

pub follow_all-requires : goal.follow_all-requires
follow_all-requires c =
    subst (λ (w : WorldState). HasFollowed w c.args.turns.now 0 c.in_ok-following.following) (sym c.in_ok-following.ensures.world) (c.in_ok-following.ensures.followed c.args.turns.now)
