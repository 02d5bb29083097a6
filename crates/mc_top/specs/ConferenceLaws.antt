-- What is printed of a conference, as a relation on the paths of the world.
use Rattle.std.specs.Prelude.{ℕ, map}
use Rattle.mc_conf.specs.Mixes.{mixes}
use Rattle.mc_conf.specs.Pairs.{AreAllPairs}
use Rattle.mc_model.specs.Paths.{paths}
use Rattle.mc_model.specs.Sound.{IsSound}
use Rattle.mc_model.specs.Worlds.{WorldState}
use Rattle.mc_path.specs.Views.{view_of}

-- in a sound world the pairs of a conference are all pairs of legs, of which the one party hears the other, each once
-- and no other, in rising slot number
abbrev pub ConferencesAreAllPairs : Type 0
ConferencesAreAllPairs =
    (world : WorldState) (who : ℕ) → IsSound world
    → AreAllPairs (map (view_of world) (paths world)) who (mixes (map (view_of world) (paths world)) who)
