use Rattle.std.proofs.Common.{◌≡◌, ◌++◌, All, flat_map, take}
use Rattle.mc_journal.specs.Printed.{IsFoundLine, line_text}
use Rattle.mc_journal.proofs.print.print_journal.Given as goal

-- the lines so far are printed, and all that they name is found
abbrev pub invariant-loop-line : goal.invariant-loop-line
invariant-loop-line l = record {
  printed : l.text.items ≡ l.initial.text.items ++ flat_map (line_text l.names) (take l.line-index l.lines);
  found : All (IsFoundLine l.names) (take l.line-index l.lines);
}
