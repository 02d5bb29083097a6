use Rattle.std.proofs.Common.{arith}
use Rattle.mc_divided.proofs.ChannelNumbers.{numbers_added}
use Rattle.mc_divided.specs.Laying.{kind_of}
use Rattle.mc_divided.proofs.filling.add_numbers.Goals as goal

pub loop-number-preserved : goal.loop-number-preserved
loop-number-preserved c =
    numbers_added (kind_of c.args.assigned.now c.args.part c.args.crossing) c.args.channels.now c.loop-number.number c.index-channels-number.result c.is_kind-is_one.result c.args.numbers.now.items
    c.loop-number.numbers.items c.add_number.new.numbers.items (omega arith) c.index-channels-number.is c.is_kind-is_one.ensures c.loop-number.invariant c.in_ok-add_number.ensures
