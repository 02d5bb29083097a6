use Rattle.std.proofs.Common.{◌≡◌, ◌≤◌, ◌*◌, length, get_or, ap, sym, arith, rules}
use Rattle.mc_model.specs.Worlds.{ChannelState}
use Rattle.mc_divided.proofs.FirstSlots.{first_few, first_more, firsts_added}
use Rattle.mc_divided.specs.Laying.{first_slot}
use Rattle.mc_divided.proofs.engines.first_slots.Goals as goal

pub overflow_cast-slots : goal.overflow_cast-slots
overflow_cast-slots c =
    let few : first_slot c.args.channels.now c.loop-channel.channel-index ≤ 16 * c.loop-channel.channel-index = first_few c.args.channels.now c.loop-channel.channel-index c.requires.tunnels (omega arith) in
    omega (arith, few, c.loop-channel.invariant.next, c.requires.few)

pub overflow_add-slots : goal.overflow_add-slots
overflow_add-slots c =
    let few : first_slot c.args.channels.now c.loop-channel.channel-index ≤ 16 * c.loop-channel.channel-index = first_few c.args.channels.now c.loop-channel.channel-index c.requires.tunnels (omega arith) in
    let own = (c.requires.tunnels c.loop-channel.channel-index c.channel-item.result (omega arith)).few in
    let same : length (get_or c.args.channels.now c.loop-channel.channel-index c.channel-item.result).tunnels ≡ length c.channel-item.result.tunnels = ap (λ (e : ChannelState). length e.tunnels) (sym c.channel-item.is) in
    let count : c.len.result ≡ length c.channel-item.result.tunnels = search rules in
    omega (arith, few, own, same, count, c.loop-channel.invariant.next, c.requires.few)

pub loop-channel-preserved : goal.loop-channel-preserved
loop-channel-preserved c = record {
  firsts = firsts_added c.args.channels.now c.loop-channel.channel-index c.loop-channel.slots c.loop-channel.firsts.items c.push.new.self.items c.loop-channel.invariant.next c.loop-channel.invariant.firsts c.in_ok-push.ensures.items;
  next = let more = first_more c.args.channels.now c.loop-channel.channel-index c.channel-item.result (omega arith) in
      let same : length (get_or c.args.channels.now c.loop-channel.channel-index c.channel-item.result).tunnels ≡ length c.channel-item.result.tunnels = ap (λ (e : ChannelState). length e.tunnels) (sym c.channel-item.is) in
      let count : c.len.result ≡ length c.channel-item.result.tunnels = search rules in
      omega (arith, more, same, count, c.loop-channel.invariant.next);
}
