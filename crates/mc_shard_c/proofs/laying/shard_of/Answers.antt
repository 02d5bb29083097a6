use Rattle.std.proofs.Common.{◌<◌, ◌^◌, length, arith}
use Rattle.mc_shard_c.proofs.Laid.{not_laid, says_shard}
use Rattle.mc_shard_c.proofs.laying.shard_of.Goals as goal

pub returns-then-not-are_laid-clause-invalid : goal.returns-then-not-are_laid-clause-invalid
returns-then-not-are_laid-clause-invalid c = λ _ shard.
    not_laid c.args.plains.now c.args.slots.now c.args.states.now c.args.end_count c.args.askers
    c.in_ok-boxes.field-0.boxes.items c.deref.result.now c.in_ok-boxes.field-0.places.items c.deref-2.result.now c.in_ok-boxes.field-0.owners.items c.deref-3.result.now shard
    c.deref.ensures.value c.deref-2.ensures.value c.deref-3.ensures.value c.in_ok-boxes.ensures.boxes c.in_ok-boxes.ensures.places c.in_ok-boxes.ensures.owners c.if-not-are_laid.ensures

pub returns-clause-says : goal.returns-clause-says
returns-clause-says c =
    let few : length c.args.plains.now < 2 ^ 32 = omega (arith, c.if-plains.false) in
    says_shard c.args.plains.now c.args.slots.now c.args.states.now c.args.end_count c.args.askers
    c.in_ok-boxes.field-0.boxes.items c.deref.result.now c.in_ok-boxes.field-0.places.items c.deref-2.result.now c.in_ok-boxes.field-0.owners.items c.deref-3.result.now c.in_ok-shard.shard
    c.deref.ensures.value c.deref-2.ensures.value c.deref-3.ensures.value c.in_ok-boxes.ensures.boxes c.in_ok-boxes.ensures.places c.in_ok-boxes.ensures.owners c.if-not-are_laid.ensures few c.in_ok-shard.ensures
