use Rattle.mc_model.specs.Rings.{NoneBefore}
use Rattle.mc_model.specs.Sound.{IsSound}
use Rattle.mc_model.specs.Worlds.{WorldState}
use Rattle.mc_world.specs.Rings.{ArePartners}
use Rattle.mc_world.proofs.ringing.least_on_ring.Given as goal

-- no slot so far stands on a ring, in each world of which these are the partners
abbrev pub invariant-loop-place : goal.invariant-loop-place
invariant-loop-place l = (world : WorldState) → IsSound world → ArePartners world l.partners → NoneBefore world l.place
