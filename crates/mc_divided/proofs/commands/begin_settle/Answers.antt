use Rattle.std.specs.Vec.{with_items}
use Rattle.mc_divided.proofs.CommandsLeft.{begun_divided, begun_state, begun_vec, spare_as}
use Rattle.mc_divided.proofs.BetweenSettles.{known_as}
use Rattle.mc_divided.proofs.commands.begin_settle.Goals as goal

pub stays_calm-network-requires : goal.stays_calm-network-requires
stays_calm-network-requires c = known_as c.args.network.now c.deref.result.now c.requires c.deref.ensures.value

pub begin_parts-requires : goal.begin_parts-requires
begin_parts-requires c = known_as c.args.network.now c.deref_mut.result.now c.requires c.deref_mut.ensures.value

pub returns-clause-divided : goal.returns-clause-divided
returns-clause-divided c =
    begun_divided c.args.network.now (with_items c.args.network.now.runs c.begin_parts.new.runs) c.stays_calm-network.result c.requires (begun_vec c.args.network.now c.deref_mut.result.now c.begin_parts.new.runs c.deref_mut.ensures.value c.begin_parts.ensures)
    c.stays_calm-network.ensures.calm (spare_as c.stays_calm-network.result c.deref.result.now c.args.network.now.runs.items c.deref.ensures.value c.stays_calm-network.ensures.spare)

pub returns-clause-state : goal.returns-clause-state
returns-clause-state c =
    let begun = (begun_vec c.args.network.now c.deref_mut.result.now c.begin_parts.new.runs c.deref_mut.ensures.value c.begin_parts.ensures) in
    begun_state c.args.network.now (with_items c.args.network.now.runs c.begin_parts.new.runs) c.stays_calm-network.result c.requires begun
    (begun_divided c.args.network.now (with_items c.args.network.now.runs c.begin_parts.new.runs) c.stays_calm-network.result c.requires begun
    c.stays_calm-network.ensures.calm (spare_as c.stays_calm-network.result c.deref.result.now c.args.network.now.runs.items c.deref.ensures.value c.stays_calm-network.ensures.spare))
