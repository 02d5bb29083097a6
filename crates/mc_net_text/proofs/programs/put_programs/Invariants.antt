use Rattle.std.proofs.Common.{◌≡◌, ◌++◌, take, flat_map}
use Rattle.mc_net_text.specs.Lines.{program_lines}
use Rattle.mc_net_text.proofs.programs.put_programs.Given as goal

-- the lines so far
abbrev pub invariant-loop-block : goal.invariant-loop-block
invariant-loop-block l =
    l.out.items ≡ l.fn.out.items ++ flat_map (program_lines l.names) (take l.block-index l.blocks)
