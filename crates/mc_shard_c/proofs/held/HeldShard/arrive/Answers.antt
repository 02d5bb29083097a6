use Rattle.std.proofs.Common.{sym, subst, ℕ}
use Rattle.mc_shard_c.specs.Handles.{writer_of}
use Rattle.mc_shard_c.specs.Turns.{WhyNotArrived}
use Rattle.mc_shard_c.specs.Turns.WhyNotArrived.{waits, no_signal, refused}
use Rattle.mc_shard_c.proofs.held.HeldShard.arrive.Goals as goal

pub returns-then-not-is_free-clause-why_not : goal.returns-then-not-is_free-clause-why_not
returns-then-not-is_free-clause-why_not c = λ _. waits c.if-not-is_free.ensures

pub returns-in_default-clause-why_not : goal.returns-in_default-clause-why_not
returns-in_default-clause-why_not c = λ _. no_signal (sym c.in_default.ensures.reads)

pub returns-in-Err-clause-why_not : goal.returns-in-Err-clause-why_not
returns-in-Err-clause-why_not c = λ _. subst (λ (code : ℕ). WhyNotArrived (writer_of c.args.self.now) c.args.plain.now code) (sym c.code_of.ensures)
    (refused c.in-Err.why (record { at = c.in-Some.at; says = c.in-Some.ensures.says; free = c.if-not-is_free.ensures; hinders = c.in-Err.ensures.why }))
