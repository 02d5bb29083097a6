use Rattle.std.proofs.Common.{◌≡◌, ◌++◌, flat_map, take}
use Rattle.mc_conf.specs.Printed.{mix_line}
use Rattle.mc_conf.proofs.printing.put_mixes.Given as goal

-- the lines of the pairs so far stand after what was there
abbrev pub invariant-loop-mix : goal.invariant-loop-mix
invariant-loop-mix l = l.out.items ≡ l.fn.out.items ++ flat_map (mix_line l.names) (take l.mix-index l.found)
