use Rattle.std.proofs.Common.{◌≡◌, ◌<◌, ℕ, length, get_or, None}
use Rattle.mc_model.specs.Paths.{partner_of}
use Rattle.mc_divided.specs.Networks.{world_in}
use Rattle.mc_divided.proofs.looking.partners.Given as goal

-- the entries so far
abbrev pub invariant-loop-slot : goal.invariant-loop-slot
invariant-loop-slot l = record {
  long : length l.partners.items ≡ l.slot;
  each : (s : ℕ) → s < l.slot → get_or l.partners.items s None ≡ partner_of (world_in l.network) s;
}
