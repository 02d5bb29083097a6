use Rattle.std.proofs.Common.{◌≡◌, take}
use Rattle.mc_plan.specs.Plans.{tunnels_between}
use Rattle.mc_plan.proofs.tunnels.tunnels_between.Given as goal

-- the tunnels so far
abbrev pub invariant-loop-i : goal.invariant-loop-i
invariant-loop-i l = l.tunnels.items ≡ tunnels_between l.near l.far (take l.i l.media)
