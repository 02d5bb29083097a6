use Rattle.std.proofs.Common.{◌≡◌, ◌++◌, drop}
use Rattle.mc_program_lines.specs.Programs.{words_of}
use Rattle.mc_net_text.specs.Lines.{parts_lines}
use Rattle.mc_net_text.proofs.programs.put_parts.Given as goal

-- what is left are the lines of the parts that are left
abbrev pub invariant-loop-number : goal.invariant-loop-number
invariant-loop-number l =
    l.fn.out.items ++ parts_lines l.names l.who (words_of l.states) 0 l.parts
    ≡ l.out.items ++ parts_lines l.names l.who (words_of l.states) l.number (drop l.number l.parts)
