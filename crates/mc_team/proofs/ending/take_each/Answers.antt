use Rattle.std.proofs.Common.{◌∙◌, ◌++◌, ◌∷◌, [], List, ap, arith}
use Rattle.std.proofs.lemmas.List.{map_push}
use Rattle.mc_team.proofs.TakenInboxes.{emptied, emptying_more}
use Rattle.mc_team.specs.Made.{inboxes_of}
use Rattle.mc_lane.specs.Queue.{Queue}
use Rattle.mc_signal.specs.declared.Tagged.{Tagged}
use Rattle.mc_team.proofs.Lists.{at_index}
use Rattle.mc_worker.specs.Boxes.{items_of}
use Rattle.mc_team.proofs.ending.take_each.Goals as goal

pub loop-ends-preserved : goal.loop-ends-preserved
loop-ends-preserved c =
    emptying_more c.args.lanes.now c.loop-ends.ends-index (inboxes_of c.args.inboxes.items) (inboxes_of c.loop-ends.inboxes.items) (inboxes_of c.take_inbox.new.inboxes.items) (items_of c.loop-ends.taken.items) (items_of c.push.new.self.items) _
    c.requires c.loop-ends.invariant (at_index c.args.lanes.now c.loop-ends.ends-index _ (omega arith))
    (ap (λ (l : List (Queue Tagged)). items_of l) c.in_ok-push.ensures.items
    ∙ (map_push (λ (q : Queue Tagged). q.items) c.loop-ends.taken.items c.take_inbox.result ∙ ap (λ (l : List Tagged). items_of c.loop-ends.taken.items ++ l ∷ []) c.take_inbox.ensures.taken))
    c.take_inbox.ensures.left

pub returns : goal.returns
returns c = emptied c.args.lanes.now c.loop-ends.ends-index (inboxes_of c.args.inboxes.items) (inboxes_of c.loop-ends.inboxes.items) (items_of c.loop-ends.taken.items) (omega arith) c.loop-ends.invariant
