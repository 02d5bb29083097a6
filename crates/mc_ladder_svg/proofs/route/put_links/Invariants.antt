use Rattle.std.proofs.Common.{◌≡◌, ◌++◌, flat_map}
use Rattle.std.specs.List.{range_with_len}
use Rattle.mc_ladder_svg.specs.Lines.{link_circle}
use Rattle.mc_ladder_svg.proofs.route.put_links.Given as goal

-- the hollow dots so far are appended
abbrev pub invariant-loop-leg : goal.invariant-loop-leg
invariant-loop-leg l = l.out.items ≡ l.initial.out.items ++ flat_map (link_circle l.stops) (range_with_len 0 l.leg)
