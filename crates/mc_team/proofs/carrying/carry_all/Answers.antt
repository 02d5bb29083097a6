use Rattle.std.proofs.Common.{arith}
use Rattle.mc_team.proofs.OnLanes.{carries_all, carries_none, carries_one, tied_kept}
use Rattle.mc_team.proofs.carrying.carry_all.Goals as goal

pub loop-ends-init : goal.loop-ends-init
loop-ends-init c = carries_none c.args.lanes.now c.args.members.now c.requires.ready

pub carry_lane-requires-clause-ready : goal.carry_lane-requires-clause-ready
carry_lane-requires-clause-ready c = c.loop-ends.invariant.boxes.ready

pub carry_lane-requires-clause-tied : goal.carry_lane-requires-clause-tied
carry_lane-requires-clause-tied c = tied_kept c.args.lanes.now c.args.members.now c.loop-ends.members c.loop-ends.invariant.boxes c.requires.tied c.loop-ends.ends-index (omega arith)

pub loop-ends-preserved : goal.loop-ends-preserved
loop-ends-preserved c = carries_one c.loop-ends.ends-index c.args.lanes.now c.args.members.now c.loop-ends.members c.carry_lane.new.members c.requires.apart (omega arith) c.loop-ends.invariant c.in_ok-carry_lane.ensures

pub returns : goal.returns
returns c = carries_all c.loop-ends.ends-index c.args.lanes.now c.args.members.now c.loop-ends.members (omega arith) c.loop-ends.invariant
