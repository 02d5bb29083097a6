use Rattle.std.proofs.Common.{◌≡◌, ◌<◌, [], arith, length, refl}
use Rattle.std.proofs.lemmas.Grind.{common_steps}
use Rattle.mc_snapshot.specs.Shards.{shard_wire}
use Rattle.mc_shard_c.specs.Saving.WhyNotSaved.{no_room, memory}
use Rattle.mc_shard_c.proofs.saving.save_into.Goals as goal

pub returns-then-is_err-clause-why_not : goal.returns-then-is_err-clause-why_not
returns-then-is_err-clause-why_not c = λ _. memory refl

pub returns-clause-why_not : goal.returns-clause-why_not
returns-clause-why_not c = λ _.
    let less : length c.args.bytes.now < length c.deref.result.now = c.if-put_if_room.ensures.put.0 in
    let needs : c.put_if_room.new.count ≡ length (shard_wire c.args.shard.now []) = grind (arith, common_steps) in
    let below : length c.args.bytes.now < c.put_if_room.new.count = grind (arith, common_steps) in
    no_room (record { needs = needs; less = below })
