use Rattle.std.proofs.Common.{◌≡◌, ◌++◌, drop}
use Rattle.mc_net_text.specs.Lines.{goal_lines}
use Rattle.mc_net_text.proofs.programs.put_goals.Given as goal

-- what is left are the lines of the goals that are left
abbrev pub invariant-loop-local : goal.invariant-loop-local
invariant-loop-local l =
    l.fn.out.items ++ goal_lines l.names l.who 0 l.goals
    ≡ l.out.items ++ goal_lines l.names l.who l.local (drop l.local l.goals)
