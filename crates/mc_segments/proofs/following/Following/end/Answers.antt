use Rattle.std.proofs.Common.{◌≡◌, ◌∙◌, [], true, ap, sym, subst}
use Rattle.mc_replay.specs.Follows.{Follows}
use Rattle.mc_replay.specs.declared.segment.Segment.{Segment}
use Rattle.mc_segments.proofs.Followed.{ends_there}
use Rattle.mc_segments.proofs.following.Following.end.Goals as goal

pub returns-clause-ends : goal.returns-clause-ends
returns-clause-ends c =
    let told : c.is_settled.result ≡ true = cc in
    let yes : c.may_end.result ≡ true = cc in
    λ world followed. ends_there c.is_settled.result world c.args.turns.now c.args.place c.args.self.now c.go_on.new.self c.push.new.self told c.if-self-place.false (sym c.may_end.ensures ∙ yes)
    (c.is_settled.ensures.settled _ _ _ followed.follows)
    (subst (λ (s : Segment). Follows s.world [] [] c.go_on.new.self) c.is_settled.ensures.same c.in_ok-go_on.ensures.follows)
    (c.in_ok-go_on.ensures.made ∙ ap (λ (s : Segment). s.retries.made) c.is_settled.ensures.same)
    c.in_ok-push.ensures.items followed
