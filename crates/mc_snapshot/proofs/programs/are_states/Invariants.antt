use Rattle.std.proofs.Common.{◌<◌, ℕ, length, slice_index_or}
use Rattle.mc_rule.specs.Programs.{IsState, ProgStateState}
use Rattle.mc_snapshot.proofs.programs.are_states.Given as goal

-- those before are a program's states
abbrev pub invariant-loop-at : goal.invariant-loop-at
invariant-loop-at l =
    (at : ℕ) (other : ProgStateState) → at < l.at → IsState l.slots (length l.states) (slice_index_or l.states at other)
