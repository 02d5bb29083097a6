use Rattle.std.proofs.Common.{arith, refl}
use Rattle.mc_world.proofs.Running.{flag_has, none_there, waits_at}
use Rattle.mc_world.proofs.network.engine.Engine.waiting_slot.Goals as goal

pub returns-clause-some : goal.returns-clause-some
returns-clause-some c = waits_at c.self.inside c.args.self.now c.args.who c.kth-local.result c.number.result c.self.invariant c.self.view_is c.number.ensures c.kth-local.ensures.has

pub returns-clause-none : goal.returns-clause-none
returns-clause-none c = flag_has _ c.self.inside.waiting.flags.items _ c.kth-local.result c.number.result c.number.ensures c.kth-local.ensures.has

pub returns-then-not-has_one-clause-none : goal.returns-then-not-has_one-clause-none
returns-then-not-has_one-clause-none c local =
    none_there c.self.inside c.args.self.now c.args.who local c.self.invariant c.self.view_is (λ below. c.if-not-has_one.ensures.none refl (omega (arith, below, c.len.ensures, c.self.inside.topology.numbers.ok.0)))
