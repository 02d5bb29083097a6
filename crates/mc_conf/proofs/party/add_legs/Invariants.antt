use Rattle.std.proofs.Common.{◌≡◌, ◌++◌, take}
use Rattle.std.specs.List.{filter_map}
use Rattle.mc_conf.specs.Legs.{leg_of}
use Rattle.mc_conf.proofs.party.add_legs.Given as goal

-- the legs of the paths so far stand after what was there
abbrev pub invariant-loop-view : goal.invariant-loop-view
invariant-loop-view l = l.found.items ≡ l.fn.found.items ++ filter_map (leg_of l.who) (take l.view-index l.views)
