use Rattle.mc_team.proofs.NewBoxes.{IsMaking}
use Rattle.mc_worker.specs.Boxes.{items_of}
use Rattle.mc_team.proofs.making.make.Given as goal

abbrev pub invariant-loop-part : goal.invariant-loop-part
invariant-loop-part l =
    IsMaking l.initial.layout (items_of l.initial.lanes.items) l.fn.boxes.items l.members.items l.part-iterator.rest.items l.layout (items_of l.lanes.items)
