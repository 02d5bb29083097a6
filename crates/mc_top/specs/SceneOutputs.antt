-- What the scenes print, in whichever order their boxes take turns.
use Rattle.std.specs.Prelude.{◌≡◌, List, map}
use Rattle.mc_lines.specs.declared.tail.Tail.TheVariants.{Nothing}
use Rattle.mc_model.specs.Sound.{IsSound}
use Rattle.mc_net.specs.Nets.{DeclaresNet, batch_turns}
use Rattle.mc_net.specs.declared.net.Net.{Net}
use Rattle.mc_replay.specs.Journals.{IsJournal}
use Rattle.mc_scene.specs.Outputs.{scene_output}
use Rattle.mc_scene.specs.Scenes.{scene_text}
use Rattle.mc_scene.specs.declared.scenes.Scene.{Scene}
use Rattle.mc_script.specs.declared.command.JournalLine.{JournalLine}
use Rattle.mc_script_end.specs.Printed.{journal_text}

-- each journal that settles the batches of a scene prints its stated output
abbrev pub ScenesPrintTheSame : Type 0
ScenesPrintTheSame =
    (scene : Scene) (net : Net) (journal : List JournalLine) → DeclaresNet Nothing (scene_text scene) net
    → IsSound net.world
    → IsJournal net.world (map batch_turns net.batches.items) journal
    → journal_text net.names 1 net.world journal ≡ scene_output scene
