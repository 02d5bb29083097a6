use Rattle.std.proofs.Common.{◌≡◌, flat_map, take}
use Rattle.std.specs.List.{filter_map}
use Rattle.mc_conf.specs.Mixes.{mix_of}
use Rattle.mc_conf.proofs.mixing.mixes_of.Given as goal

-- the pairs of the hearers so far
abbrev pub invariant-loop-hearer : goal.invariant-loop-hearer
invariant-loop-hearer l = l.found.items ≡ flat_map (λ hearer. filter_map (mix_of hearer) l.legs) (take l.hearer-index l.legs)
