use Rattle.std.proofs.Common.{◌≡◌, ◌++◌, flat_map, map, take}
use Rattle.mc_explain.specs.Quotes.{told_line}
use Rattle.mc_explain.proofs.explanation.put_lines.Given as goal

-- the lines so far are appended
abbrev pub invariant-loop-line : goal.invariant-loop-line
invariant-loop-line l = l.out.items ≡ l.initial.out.items ++ flat_map told_line (map (λ line. line.now) (take l.line-index l.lines))
