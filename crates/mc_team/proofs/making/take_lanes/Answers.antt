use Rattle.std.proofs.Common.{◌∙◌, ◌++◌, ◌∷◌, [], List, ap, arith}
use Rattle.std.proofs.lemmas.List.{map_push}
use Rattle.mc_team.proofs.TakenLanes.{still_there, taking_all, taking_more}
use Rattle.mc_lane.specs.Queue.{Queue}
use Rattle.mc_signal.specs.declared.Tagged.{Tagged}
use Rattle.mc_team.proofs.Lists.{at_index}
use Rattle.mc_worker.specs.Boxes.{items_of}
use Rattle.mc_team.proofs.making.take_lanes.Goals as goal

pub take_lane-requires : goal.take_lane-requires
take_lane-requires c =
    still_there c.args.numbers.now c.loop-lane.lane-index _ c.args.lanes.now.items c.loop-lane.lanes.items (items_of c.loop-lane.taken.items) c.loop-lane.invariant
    (c.requires.there c.loop-lane.lane-index _ (at_index c.args.numbers.now c.loop-lane.lane-index 0 (omega arith)))

pub loop-lane-preserved : goal.loop-lane-preserved
loop-lane-preserved c =
    taking_more c.args.numbers.now c.loop-lane.lane-index _ (items_of c.args.lanes.now.items) (items_of c.loop-lane.lanes.items) (items_of c.take_lane.new.lanes.items) (items_of c.loop-lane.taken.items) (items_of c.push.new.self.items)
    c.requires.apart (at_index c.args.numbers.now c.loop-lane.lane-index 0 (omega arith)) c.loop-lane.invariant
    (ap (λ (l : List (Queue Tagged)). items_of l) c.in_ok-push.ensures.items
    ∙ (map_push (λ (q : Queue Tagged). q.items) c.loop-lane.taken.items c.take_lane.result ∙ ap (λ (l : List Tagged). items_of c.loop-lane.taken.items ++ l ∷ []) c.take_lane.ensures.taken))
    c.take_lane.ensures.left

pub returns-clause-taken : goal.returns-clause-taken
returns-clause-taken c =
    (taking_all c.args.numbers.now c.loop-lane.lane-index (items_of c.args.lanes.now.items) (items_of c.loop-lane.lanes.items) (items_of c.loop-lane.taken.items) (omega arith) c.loop-lane.invariant).0

pub returns-clause-left : goal.returns-clause-left
returns-clause-left c =
    (taking_all c.args.numbers.now c.loop-lane.lane-index (items_of c.args.lanes.now.items) (items_of c.loop-lane.lanes.items) (items_of c.loop-lane.taken.items) (omega arith) c.loop-lane.invariant).1
