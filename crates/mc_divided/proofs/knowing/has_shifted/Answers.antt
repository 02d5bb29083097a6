use Rattle.mc_divided.proofs.BetweenSettles.{known_as, none_shifted}
use Rattle.mc_divided.proofs.knowing.has_shifted.Goals as goal

pub any_shifted-requires : goal.any_shifted-requires
any_shifted-requires c = known_as c.args.network.now c.deref.result.now c.requires c.deref.ensures.value

pub returns : goal.returns
returns c none = none_shifted c.args.network.now c.deref.result.now c.requires c.deref.ensures.value (c.any_shifted.ensures none)
