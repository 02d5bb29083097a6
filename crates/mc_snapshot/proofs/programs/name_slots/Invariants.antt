use Rattle.std.proofs.Common.{◌<◌, ℕ, slice_index_or}
use Rattle.mc_rule.specs.Programs.{NamesSlot}
use Rattle.mc_rule.specs.declared.Rule.{Rule}
use Rattle.mc_snapshot.proofs.programs.name_slots.Given as goal

-- the guards before name slots that are there
abbrev pub invariant-loop-at : goal.invariant-loop-at
invariant-loop-at l =
    (at : ℕ) (other : Rule) → at < l.at → NamesSlot l.slots (slice_index_or l.rules at other).guard
