use Rattle.std.proofs.Common.{◌≡◌, ◌++◌, take, flat_map}
use Rattle.mc_net_text.specs.Lines.{also_line}
use Rattle.mc_net_text.proofs.lines.put_others.Given as goal

-- the lines so far
abbrev pub invariant-loop-tunnel : goal.invariant-loop-tunnel
invariant-loop-tunnel l =
    l.out.items ≡ l.fn.out.items ++ flat_map (also_line l.names l.from l.to) (take l.tunnel-index l.tunnels)
