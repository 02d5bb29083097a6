use Rattle.std.proofs.Common.{◌≡◌, ◌++◌, take}
use Rattle.std.specs.List.{filter_map}
use Rattle.mc_conf.specs.Mixes.{mix_of}
use Rattle.mc_conf.proofs.mixing.add_heard.Given as goal

-- whom the party hears of the legs so far stands after what was there
abbrev pub invariant-loop-heard : goal.invariant-loop-heard
invariant-loop-heard l = l.found.items ≡ l.fn.found.items ++ filter_map (mix_of l.hearer) (take l.heard-index l.legs)
