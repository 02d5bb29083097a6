-- A world that rests is quiet.
use Rattle.std.proofs.Common.{◌≡◌, not, true}
use Rattle.std.proofs.lemmas.Bool.{and_parts}
use Rattle.mc_model.specs.Settles.{can_shift, is_quiet, rests}
use Rattle.mc_model.specs.Worlds.{WorldState}

pub rests_quiet : (world : WorldState) → rests world ≡ true → is_quiet world ≡ true
rests_quiet world is = (and_parts (is_quiet world) (not (can_shift world)) is).0
