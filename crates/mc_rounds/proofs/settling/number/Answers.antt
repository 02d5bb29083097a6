use Rattle.std.proofs.Common.{sym, ◌∙◌}
use Rattle.mc_divided.specs.Networks.{network_state}
use Rattle.mc_rounds.proofs.AtLast.{has_number}
use Rattle.mc_rounds.proofs.settling.number.Goals as goal

pub unreachable-requires : goal.unreachable-requires
unreachable-requires c =
    has_number (network_state c.args.network.now) c.args.who c.args.local c.requires.divided.sound c.requires.last
    (sym c.slot_number.ensures ∙ c.in-None.is)
