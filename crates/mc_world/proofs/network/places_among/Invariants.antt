use Rattle.std.proofs.Common.{◌≡◌, take}
use Rattle.mc_model.specs.Worlds.{places_among}
use Rattle.mc_world.proofs.network.places_among.Given as goal

-- the places of the channels so far
abbrev pub invariant-loop-channel : goal.invariant-loop-channel
invariant-loop-channel l = l.places.items ≡ places_among (take l.channel-index l.channels)
