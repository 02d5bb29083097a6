use Rattle.std.proofs.Common.{ap, arith, length, sym, rules, ◌∙◌}
use Rattle.mc_box_c.specs.Answers.WhyNotActed.{invalid, disabled, version_end, no_room}
use Rattle.mc_box_c.proofs.Counts.{acted_as_many}
use Rattle.mc_box_c.proofs.held.HeldBox.act.Goals as goal

pub returns-in-None-clause-why_not : goal.returns-in-None-clause-why_not
returns-in-None-clause-why_not c = λ _. invalid (sym c.event.ensures ∙ c.in-None.is)

pub returns-then-out-most-clause-why_not : goal.returns-then-out-most-clause-why_not
returns-then-out-most-clause-why_not c = λ _. no_room (search rules)

pub returns-then-not-enabled-clause-why_not : goal.returns-then-not-enabled-clause-why_not
returns-then-not-enabled-clause-why_not c = λ _. disabled (record { asked = c.in-Some.event; says = sym c.event.ensures ∙ c.in-Some.is; disabled = search rules })

pub returns-in-Err-clause-why_not : goal.returns-in-Err-clause-why_not
returns-in-Err-clause-why_not c = λ _. version_end (record { asked = c.in-Some.event; says = sym c.event.ensures ∙ c.in-Some.is; end = search rules })

-- the box has as many slots as before, and what was sent has left its room
pub invariant_of-self : goal.invariant_of-self
invariant_of-self c =
    let same = acted_as_many c.args.self.now.part c.in-Some.event (record { sent = c.in-Ok.ensures.event.sent; after = c.act.new.self }) c.keeps.ensures c.in-Ok.ensures.event.goes in
    record { idle = c.empty_into.ensures.empty; room = omega (arith, same, ap length c.args.self.now.idle, c.args.self.now.room, c.in-Ok.ensures.room, c.empty_into.ensures.room); unsent = c.args.self.now.unsent }
