use Rattle.mc_desks.proofs.Columns.{AreTurned}
use Rattle.mc_desks.specs.Passes.{lists_of}
use Rattle.mc_desks.proofs.finishing.by_desk.Given as goal

abbrev pub invariant-loop-row : goal.invariant-loop-row
invariant-loop-row l = AreTurned l.desks (lists_of l.fn.passes.items) (lists_of l.row-iterator.rest.items) (lists_of l.columns.items)
