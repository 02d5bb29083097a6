use Rattle.mc_segments.proofs.Followed.{turn_made, turn_stops}
use Rattle.mc_segments.proofs.following.Following.follow.Goals as goal

pub returns-in-Ok : goal.returns-in-Ok
returns-in-Ok c =
    λ world followed.
    let here = c.in_ok-end.ensures.ends world followed in
    turn_made world c.args.turns.now c.args.place _ c.end.new.self c.make_own.new.segment c.requires.within (c.in-Ok.ensures.makes _ _ here.followed.follows) c.in-Ok.ensures.made here

pub returns-in-Err : goal.returns-in-Err
returns-in-Err c =
    λ world followed.
    let here = c.in_ok-end.ensures.ends world followed in
    turn_stops c.in-Err.fault c.fault_at.result world c.args.turns.now c.args.place _ c.end.new.self c.make_own.new.segment c.requires.within c.fault_at.ensures (c.in-Err.ensures.makes _ _ here.followed.follows) here
