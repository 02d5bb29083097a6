use Rattle.std.proofs.Common.{◌≡◌, map, take}
use Rattle.mc_world.specs.Tables.{channel_of}
use Rattle.mc_model.specs.Worlds.{tunnels_from}
use Rattle.mc_world.proofs.network.tunnels_among.Given as goal

-- the tunnels of the channels so far
abbrev pub invariant-loop-number : goal.invariant-loop-number
invariant-loop-number l = l.places.items ≡ map channel_of (tunnels_from 0 (take l.number l.channels))
