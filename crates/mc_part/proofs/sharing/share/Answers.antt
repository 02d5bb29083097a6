use Rattle.std.proofs.Common.{arith, refl}
use Rattle.mc_part.proofs.Shares.{given, next_thing, none_shared, part_there}
use Rattle.mc_part.proofs.sharing.share.Goals as goal

pub loop-thing-init : goal.loop-thing-init
loop-thing-init g c = record {
  shares = none_shared c.args.things.items c.args.assigned.now c.args.count _ c.in_ok-shares.ensures;
  rest = c.into_iter-thing-iterator.ensures.into_iter_gives.0;
}

pub give-requires : goal.give-requires
give-requires g c =
    let next = next_thing c.args.things.items c.loop-thing.thing-iterator.rest.items c.next.new.self.rest.items c.loop-thing.who c.in-Some.thing c.loop-thing.invariant.rest c.in-Some.ensures.steps.0 in
    part_there c.args.things.items c.args.assigned.now c.args.count c.loop-thing.who _ c.loop-thing.shares.items c.loop-thing.invariant.shares
    (c.requires.parts c.loop-thing.who 0 (omega (arith, next.0, c.requires.each)))

pub loop-thing-preserved : goal.loop-thing-preserved
loop-thing-preserved g c =
    let next = next_thing c.args.things.items c.loop-thing.thing-iterator.rest.items c.next.new.self.rest.items c.loop-thing.who c.in-Some.thing c.loop-thing.invariant.rest c.in-Some.ensures.steps.0 in
    record {
      shares = given c.args.things.items c.args.assigned.now _ _ c.args.count c.loop-thing.who 0 _ c.in-Some.thing next.0 (omega (arith, next.0, c.requires.each)) refl
          (c.requires.parts c.loop-thing.who 0 (omega (arith, next.0, c.requires.each))) c.loop-thing.invariant.shares next.1 c.in_ok-give.ensures;
      rest = next.2;
    }
