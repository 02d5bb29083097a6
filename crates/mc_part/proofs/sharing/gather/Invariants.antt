use Rattle.mc_part.specs.DividedParts.{inner_lists}
use Rattle.mc_part.proofs.Gathering.{GathersFrom}
use Rattle.mc_part.proofs.sharing.gather.Given as goal

-- what is out, and what is left
abbrev pub invariant-loop-done : goal.invariant-loop-done
invariant-loop-done g l =
    GathersFrom l.assigned (inner_lists l.fn.shares.items) (inner_lists l.shares.items) l.done l.things.items
