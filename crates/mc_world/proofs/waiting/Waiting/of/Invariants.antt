use Rattle.std.proofs.Common.{◌≡◌, ◌<◌, ◌&&◌, ℕ, false, get_or, length, nat_lt}
use Rattle.mc_world.specs.Lanes.{signals_of}
use Rattle.mc_world.specs.Waiting.{AreFlagsCounted, waits_by}
use Rattle.mc_world.proofs.waiting.Waiting.of.Given as goal

-- the flags so far are those of the slots so far at which a signal waits
abbrev pub invariant-loop-slot : goal.invariant-loop-slot
invariant-loop-slot l =
    record {
      counted : AreFlagsCounted l.topology l.waiting;
      flagged : (s : ℕ) → s < length l.topology.places.items → get_or l.waiting.flags.items s false ≡ (nat_lt s l.slot && waits_by l.topology (signals_of l.lanes) s);
    }
