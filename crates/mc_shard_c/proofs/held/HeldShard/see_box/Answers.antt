use Rattle.std.proofs.Common.{◌≤◌, List, length, subst}
use Rattle.mc_box.specs.Boxes.{BoxState}
use Rattle.mc_shard_c.specs.Seeing.WhyNoBox.{waits, no_box}
use Rattle.mc_shard_c.proofs.held.HeldShard.see_box.Goals as goal

pub returns-then-not-is_free-clause-why_not : goal.returns-then-not-is_free-clause-why_not
returns-then-not-is_free-clause-why_not c = λ _. waits c.if-not-is_free.ensures

pub returns-then-boxes-who-clause-why_not : goal.returns-then-boxes-who-clause-why_not
returns-then-boxes-who-clause-why_not c = λ _. no_box (c.if-not-is_free.ensures, subst (λ (boxes : List BoxState). length boxes ≤ c.args.who) c.boxes-boxes.ensures c.if-boxes-who.true)
