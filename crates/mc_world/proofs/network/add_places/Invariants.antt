use Rattle.std.proofs.Common.{◌≡◌, ◌++◌, take, flat_map}
use Rattle.mc_model.specs.Worlds.{places_of}
use Rattle.mc_world.proofs.network.add_places.Given as goal

-- the places of the tunnels so far were added
abbrev pub invariant-loop-tunnel : goal.invariant-loop-tunnel
invariant-loop-tunnel l = l.places.items ≡ l.fn.places.items ++ flat_map (places_of l.channel) (take l.tunnel-index l.channel.tunnels)
