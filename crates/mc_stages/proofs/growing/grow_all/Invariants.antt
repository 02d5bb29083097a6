use Rattle.std.proofs.Common.{drop, map}
use Rattle.mc_stages.specs.Plans.{growth_of}
use Rattle.mc_stages.proofs.Grows.{GrowsOn}
use Rattle.mc_stages.proofs.growing.grow_all.Given as goal

-- from here on the joins and cuts that are left lead to the same network
abbrev pub invariant-loop-growth : goal.invariant-loop-growth
invariant-loop-growth l = GrowsOn l.fn.network (map growth_of l.growths) (map growth_of (drop l.growth-index l.growths)) l.network
