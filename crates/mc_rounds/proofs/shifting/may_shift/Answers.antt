use Rattle.mc_divided.specs.Networks.{network_state}
use Rattle.mc_rounds.proofs.Since.{still_none, still_shifted}
use Rattle.mc_rounds.proofs.shifting.may_shift.Goals as goal

pub returns-then-not-has_shifted : goal.returns-then-not-has_shifted
returns-then-not-has_shifted c off =
    still_none (network_state c.args.network.now) c.requires.idle (c.has_shifted.ensures c.if-not-has_shifted.true)

pub returns : goal.returns
returns c off =
    still_shifted (network_state c.args.network.now) c.args.turns.now c.requires.idle c.requires.counted
    (c.shifted_can_shift.ensures off)
