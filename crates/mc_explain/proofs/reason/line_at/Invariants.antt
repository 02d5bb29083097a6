use Rattle.mc_explain.proofs.Left.{IsBehind}
use Rattle.mc_explain.proofs.reason.line_at.Given as goal

-- the lines that are left are those after so many of the text
abbrev pub invariant-loop : goal.invariant-loop
invariant-loop l = IsBehind l.text l.rest l.counter l.line
