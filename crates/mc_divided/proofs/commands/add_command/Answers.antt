use Rattle.std.proofs.Common.{◌≡◌, rules, length, arith}
use Rattle.std.specs.Vec.{vec_len}
use Rattle.mc_divided.proofs.CommandAdded.{added_after, allowed_inside, divided_after, is_command_of, kept_after, place_read}
use Rattle.mc_divided.proofs.commands.add_command.Goals as goal

pub index-part-requires : goal.index-part-requires
index-part-requires c =
    let inside = allowed_inside c.args.network.now c.args.turn c.requires.allowed in
    let long : vec_len c.args.network.now.assigned ≡ length c.args.network.now.assigned.items = search rules in
    omega (arith, inside, long)

pub index-who-requires : goal.index-who-requires
index-who-requires c =
    let inside = allowed_inside c.args.network.now c.args.turn c.requires.allowed in
    let long : vec_len c.args.network.now.numbers ≡ length c.args.network.now.numbers.items = search rules in
    omega (arith, inside, long, c.requires.divided.numbers.count)

pub add_at-requires-clause-there : goal.add_at-requires-clause-there
add_at-requires-clause-there c =
    (place_read c.args.network.now c.args.turn.who c.index-part.result.now c.index-who.result.now c.requires.divided
    (allowed_inside c.args.network.now c.args.turn c.requires.allowed) c.index-part.ensures c.index-who.ensures).there

pub add_at-requires-clause-command : goal.add_at-requires-clause-command
add_at-requires-clause-command c = is_command_of c.args.network.now c.args.turn c.requires.allowed

pub returns-clause-divided : goal.returns-clause-divided
returns-clause-divided c =
    divided_after c.args.network.now c.add_at.new.runs c.args.turn c.index-part.result.now c.index-who.result.now
    c.add_at.result c.requires.divided c.requires.allowed
    (place_read c.args.network.now c.args.turn.who c.index-part.result.now c.index-who.result.now c.requires.divided
    (allowed_inside c.args.network.now c.args.turn c.requires.allowed) c.index-part.ensures c.index-who.ensures)
    c.add_at.ensures.added c.add_at.ensures.kept

pub returns-clause-added : goal.returns-clause-added
returns-clause-added c =
    added_after c.args.network.now c.add_at.new.runs c.args.turn c.index-part.result.now c.index-who.result.now
    c.add_at.result c.requires.divided (returns-clause-divided c) c.requires.allowed
    (place_read c.args.network.now c.args.turn.who c.index-part.result.now c.index-who.result.now c.requires.divided
    (allowed_inside c.args.network.now c.args.turn c.requires.allowed) c.index-part.ensures c.index-who.ensures)
    c.add_at.ensures.added

pub returns-clause-kept : goal.returns-clause-kept
returns-clause-kept c =
    kept_after c.args.network.now c.add_at.new.runs c.index-part.result.now c.add_at.result c.requires.divided
    (returns-clause-divided c) c.add_at.ensures.kept
