use Rattle.std.proofs.Common.{◌≡◌, ◌++◌, flat_map}
use Rattle.std.specs.List.{range_with_len}
use Rattle.mc_ladder_svg.specs.Lines.{step}
use Rattle.mc_ladder_svg.proofs.route.put_legs.Given as goal

-- the legs so far are appended
abbrev pub invariant-loop-leg : goal.invariant-loop-leg
invariant-loop-leg l = l.out.items ≡ l.initial.out.items ++ flat_map (step l.stops) (range_with_len 0 l.leg)
