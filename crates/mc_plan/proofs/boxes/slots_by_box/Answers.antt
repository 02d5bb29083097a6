use Rattle.std.proofs.Common.{rules, ◌∙◌}
use Rattle.mc_plan.specs.Setups.{lists_of}
use Rattle.mc_plan.proofs.Filled.{channel_step, channels_done}
use Rattle.mc_plan.proofs.boxes.slots_by_box.Goals as goal

pub loop-channel-preserved : goal.loop-channel-preserved
loop-channel-preserved c = record {
  all = channel_step c.args.channels.now c.loop-channel.count c.loop-channel.channel-index c.len.result c.channel-item.result (lists_of c.loop-channel.lists.items) _ _
      (search rules) c.channel-item.is (search rules) c.in_ok-add_channel.ensures.slots c.loop-channel.invariant.all;
  boxes = c.in_ok-add_channel.ensures.boxes ∙ c.loop-channel.invariant.boxes;
  few = search rules;
}

pub returns : goal.returns
returns c = channels_done c.args.channels.now c.loop-channel.count c.loop-channel.channel-index (lists_of c.loop-channel.lists.items) _ (search rules) c.loop-channel.invariant.all
