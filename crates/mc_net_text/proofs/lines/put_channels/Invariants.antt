use Rattle.std.proofs.Common.{◌≡◌, ◌++◌, take, flat_map}
use Rattle.mc_net_text.specs.Lines.{channel_lines}
use Rattle.mc_net_text.proofs.lines.put_channels.Given as goal

-- the lines so far
abbrev pub invariant-loop-ends : goal.invariant-loop-ends
invariant-loop-ends l =
    l.out.items ≡ l.fn.out.items ++ flat_map (channel_lines l.names) (take l.ends-index l.channels)
