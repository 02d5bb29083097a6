-- The worked causes are what they should be.
use Rattle.std.proofs.Common.{refl}
use Rattle.mc_cause.specs.Worked.{WorkedCauses}

pub worked_causes : WorkedCauses
worked_causes = record {
  refused = (refl, refl);
  hung_up = (refl, refl);
  crossed = (refl, refl);
  never = (refl, refl);
  runs = refl;
  closed = (refl, refl);
  refused_again = (refl, refl);
}
