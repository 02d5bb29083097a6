use Rattle.std.proofs.Common.{◌<◌, ◌+◌, ◌-◌, ◌*◌, ◌^◌, ap, arith, ℕ}
use Rattle.std.proofs.lemmas.Grind.{common_steps}
use Rattle.mc_world.proofs.LaneChanges.{popped_is, room_changed}
use Rattle.mc_world.proofs.LaneFlags.{TakesFront, next_left, taken_last, taken_next, taken_signals}
use Rattle.mc_world.proofs.lanes.pop_front.Goals as goal

-- the front is taken, and another is there
takes_one : (c : goal.After-pass) → TakesFront c.args.topology.now c.args.lanes.now c.args.waiting.now c.args.slot c.args.toward.0 c.index-lanes-lane.result c.pop-front.new.self
takes_one c = record {
  laid = c.requires.laid;
  table = c.requires.waiting;
  here = c.requires.here;
  some = c.requires.some;
  lane = c.requires.lane;
  left = popped_is _ _ c.pop-front.result c.pop-front.ensures.item;
}

-- or none is
takes_last : (c : goal.After-clear) → TakesFront c.args.topology.now c.args.lanes.now c.args.waiting.now c.args.slot c.args.toward.0 c.index-lanes-lane.result c.pop-front.new.self
takes_last c = record {
  laid = c.requires.laid;
  table = c.requires.waiting;
  here = c.requires.here;
  some = c.requires.some;
  lane = c.requires.lane;
  left = popped_is _ _ c.pop-front.result c.pop-front.ensures.item;
}

pub returns-in-Some-clause-popped : goal.returns-in-Some-clause-popped
returns-in-Some-clause-popped c = taken_signals c.args.topology.now c.args.lanes.now c.args.waiting.now c.args.slot c.args.toward.0 c.index-lanes-lane.result c.pop-front.new.self (takes_one c)

pub returns-in-None-clause-popped : goal.returns-in-None-clause-popped
returns-in-None-clause-popped c = taken_signals c.args.topology.now c.args.lanes.now c.args.waiting.now c.args.slot c.args.toward.0 c.index-lanes-lane.result c.pop-front.new.self (takes_last c)

pub returns-in-Some-clause-waiting : goal.returns-in-Some-clause-waiting
returns-in-Some-clause-waiting c =
    taken_next c.args.topology.now c.args.lanes.now c.args.waiting.now c.pass.new.self c.args.slot c.args.toward.0 _ c.index-lanes-lane.result c.pop-front.new.self c.front.result c.in-Some.next (takes_one c)
    c.requires.served c.front.ensures.item c.in-Some.is (ap (λ (n : ℕ). c.args.slot + 2 * c.in-Some.next.tunnel - 2 * n) c.requires.tunnel) c.pass.ensures.flags c.pass.ensures.takes

pub returns-in-None-clause-waiting : goal.returns-in-None-clause-waiting
returns-in-None-clause-waiting c =
    taken_last c.args.topology.now c.args.lanes.now c.args.waiting.now c.clear.new.self c.args.slot c.args.toward.0 c.index-lanes-lane.result c.pop-front.new.self c.front.result (takes_last c)
    c.front.ensures.item c.in-None.is c.clear.ensures.flags c.clear.ensures.counted

pub overflow_sub-next_slot : goal.overflow_sub-next_slot
overflow_sub-next_slot c =
    let next = next_left c.args.topology.now c.args.lanes.now c.args.waiting.now c.args.slot c.args.toward.0 c.index-lanes-lane.result c.pop-front.new.self c.front.result c.in-Some.next
    (record { laid = c.requires.laid; table = c.requires.waiting; here = c.requires.here; some = c.requires.some; lane = c.requires.lane; left = popped_is _ _ c.pop-front.result c.pop-front.ensures.item })
    c.requires.served c.front.ensures.item c.in-Some.is in
    omega (arith, next.low, c.requires.tunnel)

pub overflow_cast-next_slot-in-Some-3 : goal.overflow_cast-next_slot-in-Some-3
overflow_cast-next_slot-in-Some-3 c =
    let next = next_left c.args.topology.now c.args.lanes.now c.args.waiting.now c.args.slot c.args.toward.0 c.index-lanes-lane.result c.pop-front.new.self c.front.result c.in-Some.next
    (record { laid = c.requires.laid; table = c.requires.waiting; here = c.requires.here; some = c.requires.some; lane = c.requires.lane; left = popped_is _ _ c.pop-front.result c.pop-front.ensures.item })
    c.requires.served c.front.ensures.item c.in-Some.is in
    let fits : c.args.slot + 2 * c.in-Some.next.tunnel - 2 * c.args.toward.1 < 2 ^ 32 = omega (arith, next.for.inside, c.requires.laid.fit, c.requires.tunnel) in
    grind (arith, common_steps)

pub pass-requires-clause-there : goal.pass-requires-clause-there
pass-requires-clause-there c =
    let next = next_left c.args.topology.now c.args.lanes.now c.args.waiting.now c.args.slot c.args.toward.0 c.index-lanes-lane.result c.pop-front.new.self c.front.result c.in-Some.next
    (record { laid = c.requires.laid; table = c.requires.waiting; here = c.requires.here; some = c.requires.some; lane = c.requires.lane; left = popped_is _ _ c.pop-front.result c.pop-front.ensures.item })
    c.requires.served c.front.ensures.item c.in-Some.is in
    omega (arith, next.for.inside, c.requires.tunnel, c.requires.waiting.counted.flags)

pub returns-in-Some-clause-room : goal.returns-in-Some-clause-room
returns-in-Some-clause-room c k count room =
    room_changed c.args.lanes.now c.args.toward.0 c.index-lanes-lane.result c.pop-front.new.self count count (omega arith) (λ low. omega (arith, low, c.pop-front.ensures.room)) k room

pub returns-in-None-clause-room : goal.returns-in-None-clause-room
returns-in-None-clause-room c k count room =
    room_changed c.args.lanes.now c.args.toward.0 c.index-lanes-lane.result c.pop-front.new.self count count (omega arith) (λ low. omega (arith, low, c.pop-front.ensures.room)) k room
