use Rattle.std.proofs.Common.{◌≡◌, drop, map}
use Rattle.mc_ladder_top.specs.Requests.{unknown_in}
use Rattle.mc_ladder_top.proofs.choosing.unknown_in.Given as goal

-- what is found among the rest is what is found among all
abbrev pub invariant-loop-name : goal.invariant-loop-name
invariant-loop-name l = unknown_in l.names (map (λ name. name.now) (drop l.name-index l.wanted)) ≡ unknown_in l.names (map (λ name. name.now) l.wanted)
