use Rattle.std.proofs.Common.{◌<◌, ℕ, slice_index_or}
use Rattle.mc_rule.specs.declared.Rule.{Rule}
use Rattle.mc_snapshot.proofs.programs.name_states.Given as goal

-- the transitions before lead to states that are there
abbrev pub invariant-loop-at : goal.invariant-loop-at
invariant-loop-at l = (at : ℕ) (other : Rule) → at < l.at → (slice_index_or l.rules at other).target < l.states
