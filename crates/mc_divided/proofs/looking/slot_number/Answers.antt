use Rattle.std.proofs.Common.{length}
use Rattle.mc_divided.specs.Networks.{channels_of}
use Rattle.mc_divided.proofs.looking.slot_number.Goals as goal

pub returns : goal.returns
returns c =
    c.number.ensures (channels_of c.args.network.now) (length c.args.network.now.assigned.items) c.requires.frame
