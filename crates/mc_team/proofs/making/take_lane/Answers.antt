use Rattle.std.proofs.Common.{◌∙◌, ap}
use Rattle.mc_team.proofs.TakenLanes.{lane_left}
use Rattle.mc_lane.specs.Queue.{Queue}
use Rattle.mc_signal.specs.declared.Tagged.{Tagged}
use Rattle.mc_team.proofs.making.take_lane.Goals as goal

pub returns-clause-left : goal.returns-clause-left
returns-clause-left c = lane_left c.args.lanes.now.items c.args.at c.replace.new.dest (ap (λ (q : Queue Tagged). q.items) (c.replace.ensures.after ∙ c.new.ensures))
