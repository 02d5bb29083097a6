use Rattle.mc_divided.specs.Networks.{network_state}
use Rattle.mc_rounds.proofs.Rested.{least_by}
use Rattle.mc_rounds.proofs.resting.test_ring.Goals as goal

pub returns-then-not-linked : goal.returns-then-not-linked
returns-then-not-linked c =
    least_by (network_state c.args.network.now).world c.requires.divided.sound (c.requires.free c.if-not-linked.true)
