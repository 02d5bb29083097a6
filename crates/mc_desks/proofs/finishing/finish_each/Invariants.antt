use Rattle.mc_desks.proofs.EachLeft.{IsFinishing}
use Rattle.mc_desks.specs.Passes.{lists_of}
use Rattle.mc_desks.proofs.finishing.finish_each.Given as goal

abbrev pub invariant-loop-desk : goal.invariant-loop-desk
invariant-loop-desk g l = IsFinishing l.room l.fn.takers.items (lists_of l.fn.columns.items) l.desk-iterator.rest.items l.takers.rest.items (lists_of l.columns.rest.items) l.rests.items
