use Rattle.std.proofs.Common.{◌≡◌, ◌++◌, take, flat_map}
use Rattle.mc_program_lines.specs.Programs.{words_of}
use Rattle.mc_net_text.specs.Lines.{when_line}
use Rattle.mc_net_text.proofs.programs.put_whens.Given as goal

-- the lines so far
abbrev pub invariant-loop-rule : goal.invariant-loop-rule
invariant-loop-rule l =
    l.out.items ≡ l.fn.out.items ++ flat_map (when_line l.names l.who (words_of l.states)) (take l.rule-index l.rules)
