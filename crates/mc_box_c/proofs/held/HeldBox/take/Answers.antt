use Rattle.std.proofs.Common.{◌≤◌, arith, length, sym, subst, ◌∙◌}
use Rattle.std.specs.Prelude.{List}
use Rattle.mc_slot.specs.declared.Slot.{Slot}
use Rattle.mc_box_c.specs.Answers.WhyNotTaken.{invalid, no_slot, unlawful, no_room}
use Rattle.mc_box_c.proofs.Counts.{took_as_many}
use Rattle.mc_plain.proofs.Says.{is_none}
use Rattle.mc_box_c.proofs.held.HeldBox.take.Goals as goal

pub returns-then-slots-slot-clause-why_not : goal.returns-then-slots-slot-clause-why_not
returns-then-slots-slot-clause-why_not c = λ _. no_slot (subst (λ (slots : List Slot). length slots ≤ c.args.slot) c.slots.ensures.slots c.if-slots-slot.true)

pub returns-then-is_signal-clause-why_not : goal.returns-then-is_signal-clause-why_not
returns-then-is_signal-clause-why_not c = λ _. no_room c.if-out-lt3.true

pub returns-then-out-lt3-clause-why_not : goal.returns-then-out-lt3-clause-why_not
returns-then-out-lt3-clause-why_not c = λ _. invalid (sym c.is_signal.ensures ∙ c.if-is_signal.false)

pub returns-then-not-read-clause-why_not : goal.returns-then-not-read-clause-why_not
returns-then-not-read-clause-why_not c = λ _. invalid (sym c.read.ensures.reads ∙ c.if-not-read.true)

pub returns-then-not-is_lawful-clause-why_not : goal.returns-then-not-is_lawful-clause-why_not
returns-then-not-is_lawful-clause-why_not c = λ _. unlawful (record { signal = c.read.new.signal; possible = sym c.read.ensures.reads ∙ c.if-not-read.false; says = c.read.ensures.says c.if-not-read.false; unlawful = is_none _ (sym c.is_lawful.ensures ∙ c.if-not-is_lawful.true) })

-- the box has as many slots as before
pub invariant_of-self-2 : goal.invariant_of-self-2
invariant_of-self-2 c =
    let same = took_as_many c.args.self.now.part c.args.slot c.read.new.signal (record { sent = c.send_take.ensures.event.sent; after = c.send_take.new.self }) c.keeps.ensures c.send_take.ensures.event.goes in
    record { idle = c.args.self.now.idle; room = omega (arith, same, c.args.self.now.room); unsent = c.empty_list_into.ensures.empty }
