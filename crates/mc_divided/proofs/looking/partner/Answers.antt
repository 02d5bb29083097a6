use Rattle.std.proofs.Common.{◌∙◌, ℕ, length, sym, ap}
use Rattle.mc_model.specs.Paths.{partner_by}
use Rattle.mc_model.specs.Worlds.{number}
use Rattle.mc_divided.specs.Networks.{channels_of, world_in}
use Rattle.mc_divided.proofs.NetworkBoxes.{goal_read, place_inside, slot_inside}
use Rattle.mc_slot.specs.declared.SlotGoal.{SlotGoal}
use Rattle.mc_divided.proofs.looking.partner.Goals as goal

pub box_of-requires-clause-here : goal.box_of-requires-clause-here
box_of-requires-clause-here c =
    place_inside c.args.network.now c.args.slot c.place-who.result c.requires.divided c.requires.inside
    (c.place-who.ensures (channels_of c.args.network.now) (length c.args.network.now.assigned.items)
    c.requires.divided.frame)

pub goal-requires : goal.goal-requires
goal-requires c =
    slot_inside c.args.network.now c.args.slot c.place-who.result c.box_of.result.now c.requires.divided c.requires.inside
    (c.place-who.ensures (channels_of c.args.network.now) (length c.args.network.now.assigned.items)
    c.requires.divided.frame) c.box_of.ensures

pub returns-in-End : goal.returns-in-End
returns-in-End c =
    let at = c.place-who.ensures (channels_of c.args.network.now) (length c.args.network.now.assigned.items)
    c.requires.divided.frame in
    sym (ap (λ (g : SlotGoal). partner_by (world_in c.args.network.now) g c.args.slot)
    (goal_read c.args.network.now c.args.slot c.place-who.result c.box_of.result.now c.goal.result at c.box_of.ensures
    c.goal.ensures ∙ c.in-End.is))

pub returns-in-Link : goal.returns-in-Link
returns-in-Link c =
    let at = c.place-who.ensures (channels_of c.args.network.now) (length c.args.network.now.assigned.items)
    c.requires.divided.frame in
    c.number.ensures (channels_of c.args.network.now) (length c.args.network.now.assigned.items) c.requires.divided.frame
    ∙ (ap (λ (p : ℕ × ℕ). number (world_in c.args.network.now) p.0 c.in-Link.partner) at
    ∙ sym (ap (λ (g : SlotGoal). partner_by (world_in c.args.network.now) g c.args.slot)
    (goal_read c.args.network.now c.args.slot c.place-who.result c.box_of.result.now c.goal.result at c.box_of.ensures
    c.goal.ensures ∙ c.in-Link.is)))
