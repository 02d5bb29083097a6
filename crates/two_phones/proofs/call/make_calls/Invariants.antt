use Rattle.two_phones.specs.Phones.{IsPhone}
use Rattle.two_phones.proofs.call.make_calls.Given as goal

abbrev pub invariant-loop-call : goal.invariant-loop-call
invariant-loop-call l = IsPhone l.alice × IsPhone l.bob
