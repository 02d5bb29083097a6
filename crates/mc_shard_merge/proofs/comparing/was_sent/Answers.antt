use Rattle.std.proofs.Common.{◌≡◌, ◌∙◌, Some, true, false, ap, arith, sym}
use Rattle.std.proofs.lemmas.Grind.{common_steps}
use Rattle.mc_shard.specs.Same.{is_same_at}
use Rattle.mc_shard.specs.declared.entry.AtEnd.{AtEnd}
use Rattle.mc_shard.proofs.Same.{at_eq}
use Rattle.mc_shard_merge.proofs.Among.{other_at, sent_here, sent_left}
use Rattle.mc_shard_merge.proofs.comparing.was_sent.Goals as goal

pub returns-then-eq : goal.returns-then-eq
returns-then-eq c =
    let is : is_same_at c.get.result c.args.wanted ≡ true = grind (arith, common_steps) in
    sent_here c.args.sent.now.items c.loop-place.place c.args.wanted (sym c.get.ensures ∙ ap (λ (x : AtEnd). Some x) (at_eq c.get.result c.args.wanted is))

pub loop-place-preserved : goal.loop-place-preserved
loop-place-preserved c among =
    let other : is_same_at c.get.result c.args.wanted ≡ false = grind (arith, common_steps) in
    sent_left c.args.sent.now.items c.loop-place.place c.get.result c.args.wanted (sym c.get.ensures) (other_at c.get.result c.args.wanted other) (c.loop-place.invariant among)
