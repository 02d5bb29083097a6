use Rattle.mc_model.specs.Paths.{whole_walk}
use Rattle.mc_path_laws.proofs.Sides.{length_sides}
use Rattle.mc_path.proofs.laws.two_slots_a_tunnel.Goals as goal

pub returns : goal.returns
returns c world path = length_sides (whole_walk world path.low)
