use Rattle.std.proofs.Common.{◌<◌}
use Rattle.mc_laws.proofs.BothWays.{WalkBoth}
use Rattle.mc_model.specs.Sound.{IsSound}
use Rattle.mc_model.specs.Worlds.{WorldState, slot_count}
use Rattle.mc_world.specs.Rings.{ArePartners}
use Rattle.mc_world.proofs.ringing.is_on_ring.Given as goal

-- where the two walks are, in each world of which these are the partners
abbrev pub invariant-loop-done : goal.invariant-loop-done
invariant-loop-done l = (world : WorldState) → IsSound world → ArePartners world l.partners → l.slot < slot_count world → WalkBoth world l.slot l._done l.ahead l.behind
