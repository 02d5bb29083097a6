use Rattle.std.proofs.Common.{sym, ◌∙◌}
use Rattle.mc_world.proofs.Tables.{box_read}
use Rattle.mc_world.proofs.PartnerTables.{end_alone, linked_is}
use Rattle.mc_world.proofs.network.World.partner_at.Goals as goal

pub returns-in-End-clause-partner : goal.returns-in-End-clause-partner
returns-in-End-clause-partner c slot is =
    let actor = box_read c.self.inside c.args.self.now c.args.who c.index.result.now c.self.view_is c.requires.here c.index.ensures in
    let aims = sym c.goal.ensures ∙ c.in-End.is in
    sym (end_alone c.args.self.now c.args.who c.args.local slot _ is (rw actor at aims))

pub returns-in-Link-clause-partner : goal.returns-in-Link-clause-partner
returns-in-Link-clause-partner c slot is =
    let actor = box_read c.self.inside c.args.self.now c.args.who c.index.result.now c.self.view_is c.requires.here c.index.ensures in
    c.number.ensures ∙ sym (linked_is c.args.self.now c.args.who c.args.local c.in-Link.partner slot is (rw (← actor) (sym c.goal.ensures ∙ c.in-Link.is)))
