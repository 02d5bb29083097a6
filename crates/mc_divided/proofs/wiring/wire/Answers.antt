use Rattle.std.proofs.Common.{get_or, ap, ◌∙◌}
use Rattle.mc_part.specs.DividedParts.{inner_lists}
use Rattle.mc_model.specs.Worlds.{ChannelState, channel_number_limit}
use Rattle.mc_divided.proofs.Wires.{none_wired, ports_few, wired_next}
use Rattle.mc_divided.proofs.wiring.wire.Goals as goal

pub loop-number-init : goal.loop-number-init
loop-number-init c =
    none_wired c.args.division.now.assigned.items c.args.channels.now c.args.division.now.count (inner_lists c.in_ok-no_ports.field-0.items) c.new.result.items c.in_ok-no_ports.ensures c.new.ensures.items

pub wire_channel-requires-clause-short : goal.wire_channel-requires-clause-short
wire_channel-requires-clause-short c =
    ports_few c.args.division.now.assigned.items c.args.channels.now c.args.division.now.count c.loop-number.number channel_number_limit (inner_lists c.loop-number.wiring.ports.items) c.loop-number.wiring.crossings.items
    c.loop-number.invariant c.loop-number-test.true c.requires.few

pub loop-number-preserved : goal.loop-number-preserved
loop-number-preserved c =
    wired_next c.args.division.now.assigned.items c.args.channels.now c.args.division.now.count c.loop-number.number c.index-from.result.now c.index-to.result.now c.index-channels-number.result
    c.loop-number.wiring c.wire_channel.new.wiring c.loop-number-test.true c.index-channels-number.is c.requires.joins c.requires.division.parts
    (c.index-from.ensures ∙ ap (λ (e : ChannelState). get_or c.args.division.now.assigned.items e.from c.index-from.result.now) c.channel.view_is)
    (c.index-to.ensures ∙ ap (λ (e : ChannelState). get_or c.args.division.now.assigned.items e.to c.index-to.result.now) c.channel.view_is)
    c.loop-number.invariant c.in_ok-wire_channel.ensures
