use Rattle.std.proofs.Common.{◌≡◌, ◌<◌, All, length}
use Rattle.mc_rule.specs.Programs.{NamesSlot}
use Rattle.mc_rule.specs.declared.Rule.{Rule}
use Rattle.mc_divided_tests.proofs.programs.drawn_rules.Given as goal

-- the transitions so far are as they should be
abbrev pub invariant-loop-rule : goal.invariant-loop-rule
invariant-loop-rule l = record {
  long : length l.rules.items ≡ l._rule;
  targets : All (λ (rule : Rule). rule.target < l.count) l.rules.items;
  guards : All (λ (rule : Rule). NamesSlot l.slots rule.guard) l.rules.items;
}
