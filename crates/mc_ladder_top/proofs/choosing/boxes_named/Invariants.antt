use Rattle.std.proofs.Common.{◌≡◌, ◌++◌, drop, filter_map, map}
use Rattle.mc_ladder_top.specs.Requests.{box_named}
use Rattle.mc_ladder_top.proofs.choosing.boxes_named.Given as goal

-- what is left makes the whole
abbrev pub invariant-loop-name : goal.invariant-loop-name
invariant-loop-name l =
    l.boxes.items ++ filter_map (λ name. box_named l.names name) (map (λ name. name.now) (drop l.name-index l.wanted))
    ≡ filter_map (λ name. box_named l.names name) (map (λ name. name.now) l.wanted)
