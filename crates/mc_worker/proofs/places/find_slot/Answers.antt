use Rattle.std.proofs.Common.{◌∙◌, refl}
use Rattle.mc_worker.proofs.Tables.{not_there}
use Rattle.mc_worker.proofs.places.find_slot.Goals as goal

pub returns-else-is_place-clause-none : goal.returns-else-is_place-clause-none
returns-else-is_place-clause-none c = not_there c.args.list.now.items c.args.table.now _ c.args.end c.args.tunnel c.requires.table refl (λ at. c.if-is_place.ensures (c.place_in.ensures ∙ at))
