use Rattle.std.proofs.Common.{◌≡◌, map}
use Rattle.std.specs.List.{range_with_len}
use Rattle.mc_divided.specs.Laying.{first_slot}
use Rattle.mc_divided.proofs.engines.first_slots.Given as goal

-- those of the channels so far, and the first slot of the next one
abbrev pub invariant-loop-channel : goal.invariant-loop-channel
invariant-loop-channel l = record {
  firsts : l.firsts.items ≡ map (first_slot l.channels) (range_with_len 0 l.channel-index);
  next : l.slots ≡ first_slot l.channels l.channel-index;
}
