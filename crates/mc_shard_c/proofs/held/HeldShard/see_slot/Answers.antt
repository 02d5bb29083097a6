use Rattle.std.proofs.Common.{◌≤◌, ◌<◌, List, length, subst, arith}
use Rattle.std.proofs.lemmas.Grind.{common_steps}
use Rattle.mc_box.specs.Boxes.{BoxState}
use Rattle.mc_shard_c.specs.Seeing.WhyNoSlot.{waits, no_box, no_slot}
use Rattle.mc_shard_c.proofs.held.HeldShard.see_slot.Goals as goal

pub returns-then-not-is_free-clause-why_not : goal.returns-then-not-is_free-clause-why_not
returns-then-not-is_free-clause-why_not c = λ _. waits c.if-not-is_free.ensures

pub returns-then-boxes-who-clause-why_not : goal.returns-then-boxes-who-clause-why_not
returns-then-boxes-who-clause-why_not c = λ _. no_box (c.if-not-is_free.ensures, subst (λ (boxes : List BoxState). length boxes ≤ c.args.who) c.boxes-boxes.ensures c.if-boxes-who.true)

pub returns-then-slots-slot-clause-why_not : goal.returns-then-slots-slot-clause-why_not
returns-then-slots-slot-clause-why_not c = λ _. no_slot (record {
  box = (c.if-not-is_free.ensures, subst (λ (boxes : List BoxState). c.args.who < length boxes) c.boxes-boxes.ensures c.if-boxes-who.false);
  lacks = grind (arith, common_steps);
})
