use Rattle.std.proofs.Common.{◌≡◌, ◌++◌, map, take}
use Rattle.mc_world.specs.Tables.{channel_of}
use Rattle.mc_model.specs.Worlds.{tunnels_within}
use Rattle.mc_world.proofs.network.add_tunnels.Given as goal

-- the tunnels so far were added
abbrev pub invariant-loop-within : goal.invariant-loop-within
invariant-loop-within l = l.places.items ≡ l.fn.places.items ++ map channel_of (tunnels_within l.channel 0 (take l.within l.tunnels))
