use Rattle.std.proofs.Common.{◌≡◌, ◌<◌, ℕ, length, slice_index_or}
use Rattle.mc_slot.specs.declared.Goal.TheVariants.{Close as ToClose}
use Rattle.mc_slot.specs.declared.SlotGoal.TheVariants.{End}
use Rattle.mc_box.specs.Loading.{LinksAlike}
use Rattle.mc_box.proofs.loading.fits_goals.Given as goal

-- the goals before link slots of one medium
abbrev pub invariant-loop-local : goal.invariant-loop-local
invariant-loop-local l = record {
  count : length l.goals ≡ length l.slots;
  alike : (local : ℕ) → local < l.local → LinksAlike l.slots local (slice_index_or l.goals local (End ToClose));
}
