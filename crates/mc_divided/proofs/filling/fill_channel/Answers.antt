use Rattle.std.proofs.Common.{◌+◌, ◌*◌, All, IsTrue, length, get_or, subst, sym, arith}
use Rattle.mc_merge.specs.Lanes.{absent_channel}
use Rattle.mc_model.specs.Worlds.{WorldState}
use Rattle.mc_signal.specs.declared.Tagged.{Tagged}
use Rattle.mc_divided.specs.Laying.{slot_after}
use Rattle.mc_divided.proofs.LaneFills.{all_led, fit_read}
use Rattle.mc_world.specs.Pumping.{is_slot_at}
use Rattle.mc_divided.proofs.filling.fill_channel.Goals as goal

pub fill_lane-requires-clause-leads : goal.fill_lane-requires-clause-leads
fill_lane-requires-clause-leads c =
    all_led c.args.engine.now (2 * c.args.place) (length (get_or c.args.channels.now c.args.channel absent_channel).tunnels) c.args.first c.index-lanes-channel.result.items c.requires.leads
    (fit_read c.args.channels.now c.args.lanes.now c.args.channel 0 (2 * c.args.channel) c.index-lanes-channel.result c.requires.fit c.requires.there (omega arith) c.requires.lanes (omega arith) c.index-lanes-channel.is)

pub fill_lane-requires-2-clause-leads : goal.fill_lane-requires-2-clause-leads
fill_lane-requires-2-clause-leads c =
    subst (λ (w : WorldState). All (λ (tagged : Tagged). IsTrue (is_slot_at w (2 * c.args.place + 1) tagged.tunnel (slot_after (c.args.first + 1) tagged.tunnel))) c.index-lanes-channel-2.result.items)
    (sym c.in_ok-fill_lane.ensures)
    (all_led c.args.engine.now (2 * c.args.place + 1) (length (get_or c.args.channels.now c.args.channel absent_channel).tunnels) (c.args.first + 1) c.index-lanes-channel-2.result.items c.requires.leads_next
    (fit_read c.args.channels.now c.args.lanes.now c.args.channel 1 (2 * c.args.channel + 1) c.index-lanes-channel-2.result c.requires.fit c.requires.there (omega arith) c.requires.lanes (omega arith) c.index-lanes-channel-2.is))
