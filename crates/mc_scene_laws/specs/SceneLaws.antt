-- Laws of the texts of scenes: what they declare, and that their batches come to rest.
use Rattle.mc_lines.specs.declared.tail.Tail.TheVariants.{Nothing}
use Rattle.mc_net.specs.Texts.{Says}
use Rattle.mc_scene.specs.Scenes.{scene_text}
use Rattle.mc_scene.specs.declared.scenes.Scene.{Scene}
use Rattle.mc_scene_laws.specs.Resting.{ComesToRest}
use Rattle.mc_scene_laws.specs.SceneTexts.{scene_declared}

-- the text of each scene is in the grammar
abbrev pub ScenesAreTexts : Type 0
ScenesAreTexts = (scene : Scene) → Says Nothing (scene_text scene) (scene_declared scene)

-- and all of its batches come to rest
abbrev pub ScenesComeToRest : Type 0
ScenesComeToRest = (scene : Scene) → ComesToRest (scene_declared scene)
