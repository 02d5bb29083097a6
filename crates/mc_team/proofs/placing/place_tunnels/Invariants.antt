use Rattle.std.proofs.Common.{take}
use Rattle.mc_team.specs.Layouts.{ArePlaced, inner_lists}
use Rattle.mc_team.proofs.TunnelsPlaced.{with_tunnels}
use Rattle.mc_team.proofs.placing.place_tunnels.Given as goal

abbrev pub invariant-loop-within : goal.invariant-loop-within
invariant-loop-within l = ArePlaced (with_tunnels l.fn.channel (take l.within l.fn.channel.tunnels)) l.from_end l.to_end (inner_lists l.fn.places.items) (inner_lists l.places.items)
