use Rattle.std.proofs.Common.{◌<◌, ◌≤◌, [], arith, length}
use Rattle.std.proofs.lemmas.Grind.{common_steps}
use Rattle.mc_entry.specs.Wire.{entry_wire}
use Rattle.mc_shard_c.proofs.Sizes.{fits_room}
use Rattle.mc_shard_c.specs.Turns.WhyNotPut.{no_room, memory}
use Rattle.mc_shard_c.proofs.writing.write_into.Goals as goal

pub returns-then-is_err-clause-why_not : goal.returns-then-is_err-clause-why_not
returns-then-is_err-clause-why_not c = λ _. memory

pub returns-then-bytes-len-clause-why_not : goal.returns-then-bytes-len-clause-why_not
returns-then-bytes-len-clause-why_not c = λ _. no_room (grind (arith, common_steps))

pub returns-then-bytes-len-clause-enough : goal.returns-then-bytes-len-clause-enough
returns-then-bytes-len-clause-enough c = λ _.
    let less : length c.args.bytes.now < length (entry_wire c.args.entry.now []) = grind (arith, common_steps) in
    let most : length (entry_wire c.args.entry.now []) ≤ 6998 = fits_room c.args.entry.now c.requires in
    omega (arith, less, most)
