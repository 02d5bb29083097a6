-- Laws of the texts that are made: they can be run.
use Rattle.std.specs.Prelude.{◌≤◌, ℕ}
use Rattle.mc_scene.specs.Generated.{generated}
use Rattle.mc_scene.specs.Scenes.{scene_text}
use Rattle.mc_scene.specs.declared.limit.TheConstants.{SIZE_LIMIT}
use Rattle.mc_scene.specs.declared.scenes.Scene.{Scene}
use Rattle.mc_script_end.specs.Rings.{CanRun}

-- the text of each scene can be run
abbrev pub ScenesCanRun : Type 0
ScenesCanRun = (scene : Scene) → CanRun (scene_text scene)

-- and so can each generated text of few chains
abbrev pub GeneratedCanRun : Type 0
GeneratedCanRun = (number size : ℕ) → 1 ≤ size → size ≤ SIZE_LIMIT → CanRun (generated number size)
