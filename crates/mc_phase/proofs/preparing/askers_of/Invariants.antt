use Rattle.mc_desks.specs.Passes.{lists_of}
use Rattle.mc_phase.proofs.Askers.{AreCalled}
use Rattle.mc_phase.proofs.preparing.askers_of.Given as goal

abbrev pub invariant-loop-own : goal.invariant-loop-own
invariant-loop-own l = AreCalled l.desks (lists_of l.fn.passes.items) (lists_of l.own-iterator.rest.items) l.askers.items
