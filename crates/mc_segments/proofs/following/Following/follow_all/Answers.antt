use Rattle.std.proofs.Common.{◌≡◌, length, arith, subst}
use Rattle.mc_segments.specs.Following.{HasFollowed}
use Rattle.mc_segments.proofs.Followed.{all_ends, all_run}
use Rattle.mc_segments.proofs.following.Following.follow_all.Goals as goal

pub returns-clause-ends : goal.returns-clause-ends
returns-clause-ends c =
    let at : c.loop-place.place ≡ length c.args.turns.now = omega arith in
    let here = c.in_ok-end.ensures.ends _ (subst (λ k. HasFollowed c.args.self.now.segment.world c.args.turns.now k c.loop-place.self) at c.loop-place.invariant) in
    all_ends c.args.self.now.segment.world c.args.turns.now _ c.end.new.self (omega arith) here

pub returns-clause-runs : goal.returns-clause-runs
returns-clause-runs c =
    let at : c.loop-place.place ≡ length c.args.turns.now = omega arith in
    let here = c.in_ok-end.ensures.ends _ (subst (λ k. HasFollowed c.args.self.now.segment.world c.args.turns.now k c.loop-place.self) at c.loop-place.invariant) in
    all_run c.args.self.now.segment.world c.args.turns.now _ c.end.new.self (omega arith) here
