use Rattle.std.proofs.Common.{◌∙◌, sym}
use Rattle.mc_world.proofs.LaneFlags.{Comes, come_behind, come_first, come_signals}
use Rattle.mc_world.proofs.lanes.push_last.Goals as goal

-- the signal is the first in its lane
first : (c : goal.After-set) → Comes c.args.topology.now c.args.lanes.now c.args.waiting.now c.args.slot c.toward-lane.result.0 c.toward-lane.result.1 c.args.signal.now c.index-lanes-lane.result c.push.new.self
first c = record {
  laid = c.requires.laid;
  table = c.requires.waiting;
  here = c.requires.here;
  lane = c.toward-lane.ensures.lane;
  tunnel_is = c.toward-lane.ensures.tunnel;
  added = c.push.ensures.items;
}

-- or others are before it
behind : (c : goal.Else-was_empty) → Comes c.args.topology.now c.args.lanes.now c.args.waiting.now c.args.slot c.toward-lane.result.0 c.toward-lane.result.1 c.args.signal.now c.index-lanes-lane.result c.push.new.self
behind c = record {
  laid = c.requires.laid;
  table = c.requires.waiting;
  here = c.requires.here;
  lane = c.toward-lane.ensures.lane;
  tunnel_is = c.toward-lane.ensures.tunnel;
  added = c.push.ensures.items;
}

pub returns-then-was_empty-clause-sent : goal.returns-then-was_empty-clause-sent
returns-then-was_empty-clause-sent c = come_signals c.args.topology.now c.args.lanes.now c.args.waiting.now c.args.slot c.toward-lane.result.0 c.toward-lane.result.1 c.args.signal.now c.index-lanes-lane.result c.push.new.self (first c)

pub returns-else-was_empty-clause-sent : goal.returns-else-was_empty-clause-sent
returns-else-was_empty-clause-sent c = come_signals c.args.topology.now c.args.lanes.now c.args.waiting.now c.args.slot c.toward-lane.result.0 c.toward-lane.result.1 c.args.signal.now c.index-lanes-lane.result c.push.new.self (behind c)

pub returns-then-was_empty-clause-waiting : goal.returns-then-was_empty-clause-waiting
returns-then-was_empty-clause-waiting c =
    come_first c.args.topology.now c.args.lanes.now c.args.waiting.now c.set.new.self c.args.slot c.toward-lane.result.0 c.toward-lane.result.1 c.args.signal.now c.index-lanes-lane.result c.push.new.self (first c)
    (sym c.is_empty-was_empty.ensures ∙ c.if-was_empty.true) c.set.ensures.flags c.set.ensures.counted

pub returns-else-was_empty-clause-waiting : goal.returns-else-was_empty-clause-waiting
returns-else-was_empty-clause-waiting c =
    come_behind c.args.topology.now c.args.lanes.now c.args.waiting.now c.args.slot c.toward-lane.result.0 c.toward-lane.result.1 c.args.signal.now c.index-lanes-lane.result c.push.new.self (behind c) (sym c.is_empty-was_empty.ensures ∙ c.if-was_empty.false)
