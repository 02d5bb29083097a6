use Rattle.std.proofs.Common.{◌≡◌, All, length}
use Rattle.mc_rule.specs.Programs.{IsState}
use Rattle.mc_divided_tests.proofs.programs.drawn_states.Given as goal

-- so many states are as they should be
abbrev pub invariant-loop-state : goal.invariant-loop-state
invariant-loop-state l = record {
  long : length l.states.items ≡ l._state;
  each : All (IsState l.slots l.count) l.states.items;
}
