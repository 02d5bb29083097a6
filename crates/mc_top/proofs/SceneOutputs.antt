-- The scenes print their stated outputs.
use Rattle.std.proofs.Common.{◌≡◌, ℕ, List, map, refl, ap, sym, ◌∙◌, subst}
use Rattle.mc_box.specs.declared.event.Turn.{Turn}
use Rattle.mc_lines.specs.SoFar.{Declared}
use Rattle.mc_lines.specs.declared.tail.Tail.TheVariants.{Nothing}
use Rattle.mc_model.specs.Sound.{IsSound}
use Rattle.mc_model.specs.Worlds.{WorldState}
use Rattle.mc_net.specs.Nets.{IsFirstWorld, batch_turns, batches_of}
use Rattle.mc_net.specs.Texts.{Says}
use Rattle.mc_net.specs.declared.net.Net.{Net}
use Rattle.mc_program_lines.specs.Finished.{program_of}
use Rattle.mc_program_lines.specs.Programs.{BlockState}
use Rattle.mc_replay.specs.Journals.{IsJournal}
use Rattle.mc_scene.specs.Outputs.{scene_output}
use Rattle.mc_scene.specs.Scenes.{scene_text}
use Rattle.mc_scene.specs.declared.scenes.Scene.{Scene}
use Rattle.mc_scene.specs.declared.scenes.Scene.TheVariants.{Pbx, Prepaid}
use Rattle.mc_scene_laws.specs.SceneTexts.{pbx_declared, prepaid_declared, scene_declared}
use Rattle.mc_scene_laws.proofs.SceneTexts.{scenes_are_texts}
use Rattle.mc_script.specs.declared.command.JournalLine.{JournalLine}
use Rattle.mc_text.specs.NameLists.{NameLists}
use Rattle.mc_script_end.specs.Printed.{journal_text}
use Rattle.mc_top.specs.SceneOutputs.{ScenesPrintTheSame}
use Rattle.mc_top.proofs.PbxScene.{pbx_block, pbx_prints, pbx_stage}
use Rattle.mc_top.proofs.PrepaidScene.{prepaid_block, prepaid_prints, prepaid_stage}
use Rattle.mc_top.proofs.SceneWorlds.{BeginsAs, DeclaresScene, GivesSlots, Stage, scene_begins}

-- what a scene's text declares
declared_is : (scene : Scene) (d : Declared) → Says Nothing (scene_text scene) d → d ≡ scene_declared scene
declared_is scene d says = says.declared ∙ sym (scenes_are_texts scene).declared

-- each journal from a world of a scene prints this
abbrev Prints : Stage → BlockState → Declared → List ℕ → Type 0
Prints stage block d out = (world : WorldState) (journal : List JournalLine) → BeginsAs world stage (program_of block) → IsJournal world (batches_of d.commands) journal
    → journal_text d.names 1 world journal ≡ out

-- a net of such a text prints what its first world does
prints_by : (stage : Stage) (block : BlockState) (d declared : Declared) (out : List ℕ) (net : Net) (journal : List JournalLine) → Prints stage block declared out → DeclaresScene stage block declared
    → GivesSlots stage → d ≡ declared → net.names ≡ d.names → IsFirstWorld d net.world → map batch_turns net.batches.items ≡ batches_of d.commands → IsSound net.world
    → IsJournal net.world (map batch_turns net.batches.items) journal → journal_text net.names 1 net.world journal ≡ out
prints_by stage block d declared out net journal prints scene gives is names first batches sound settled =
    ap (λ (listed : NameLists). journal_text listed 1 net.world journal) (names ∙ ap (λ (e : Declared). e.names) is)
    ∙ prints net.world journal (scene_begins stage block declared net.world scene gives (subst (λ (e : Declared). IsFirstWorld e net.world) is first) sound)
    (subst (λ (all : List (List Turn)). IsJournal net.world all journal) (batches ∙ ap (λ (e : Declared). batches_of e.commands) is) settled)

pub scenes_print_the_same : ScenesPrintTheSame
scenes_print_the_same Pbx net journal declares sound settled =
    prints_by pbx_stage pbx_block declares.declared pbx_declared (scene_output Pbx) net journal pbx_prints (record { boxes = refl; channels = refl; blocks = refl })
    (record { one = refl; two = refl; three = refl; feature = refl }) (declared_is Pbx declares.declared declares.says) declares.names declares.world declares.batches sound settled
scenes_print_the_same Prepaid net journal declares sound settled =
    prints_by prepaid_stage prepaid_block declares.declared prepaid_declared (scene_output Prepaid) net journal prepaid_prints (record { boxes = refl; channels = refl; blocks = refl })
    (record { one = refl; two = refl; three = refl; feature = refl }) (declared_is Prepaid declares.declared declares.says) declares.names declares.world declares.batches sound settled
