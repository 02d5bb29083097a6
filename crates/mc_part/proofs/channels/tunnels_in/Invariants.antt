use Rattle.std.proofs.Common.{◌≡◌, take}
use Rattle.mc_part.specs.Divisions.{tunnels_in}
use Rattle.mc_part.proofs.channels.tunnels_in.Given as goal

-- the tunnels so far
abbrev pub invariant-loop-within : goal.invariant-loop-within
invariant-loop-within l = l.made.items ≡ tunnels_in l.from_here l.to_here 0 (take l.within l.tunnels)
