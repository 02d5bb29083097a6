use Rattle.std.proofs.Common.{◌∙◌, sym, subst, ℕ, Option}
use Rattle.mc_shard.specs.Refusals.{HindersAsked}
use Rattle.mc_shard.specs.declared.entry.Asked.{Asked}
use Rattle.mc_shard_c.specs.Handles.{writer_of}
use Rattle.mc_shard_c.specs.Turns.{WhyNotRequested}
use Rattle.mc_shard_c.specs.Turns.WhyNotRequested.{waits, no_asked, no_event, refused}
use Rattle.mc_shard_c.proofs.held.HeldShard.request.Goals as goal

pub returns-then-not-is_free-clause-why_not : goal.returns-then-not-is_free-clause-why_not
returns-then-not-is_free-clause-why_not c = λ _. waits c.if-not-is_free.ensures

pub returns-then-not-is_asked-clause-why_not : goal.returns-then-not-is_asked-clause-why_not
returns-then-not-is_asked-clause-why_not c = λ _. no_asked (sym c.is_asked.ensures ∙ c.if-not-is_asked.true)

pub returns-in_default-clause-why_not : goal.returns-in_default-clause-why_not
returns-in_default-clause-why_not c = λ _. no_event (sym c.in_default.ensures)

pub returns-in-Err-clause-why_not : goal.returns-in-Err-clause-why_not
returns-in-Err-clause-why_not c = λ _. subst (λ (code : ℕ). WhyNotRequested (writer_of c.args.self.now) c.args.asked.now c.args.who c.args.plain.now c.args.known code) (sym c.code_of.ensures)
    (refused c.in-Err.why (record {
      event = c.in-Some.event;
      says = sym c.in-Some.ensures;
      free = c.if-not-is_free.ensures;
      hinders = subst (λ (asked : Option Asked). HindersAsked c.in-Err.why c.args.self.now.shard asked c.args.who c.in-Some.event c.args.known) c.asked.ensures c.in-Err.ensures.why;
    }))
