use Rattle.mc_desks.proofs.DealtSoFar.{IsDealing}
use Rattle.mc_desks.specs.Passes.{lists_of}
use Rattle.mc_desks.proofs.dealing.deal.Given as goal

abbrev pub invariant-loop-pass : goal.invariant-loop-pass
invariant-loop-pass l = IsDealing (lists_of l.initial.lists) (lists_of l.lists) l.fn.row.items l.pass-iterator.rest.items l.at
