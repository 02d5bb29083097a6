use Rattle.two_phones.specs.Phones.{IsPhone}
use Rattle.two_phones.proofs.call.settle.Given as goal

abbrev pub invariant-loop-round : goal.invariant-loop-round
invariant-loop-round l = IsPhone l.alice × IsPhone l.bob
