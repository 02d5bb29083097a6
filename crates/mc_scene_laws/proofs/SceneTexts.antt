-- The texts of the scenes are in the grammar: each of their lines by computing.
use Rattle.std.proofs.Common.{◌≡◌, Some, map, refl}
use Rattle.std.specs.List.{All}
use Rattle.mc_text.specs.Lines.{lines, words}
use Rattle.mc_lines.specs.SoFar.{nothing}
use Rattle.mc_lines.specs.declared.tail.Tail.TheVariants.{Nothing}
use Rattle.mc_scene.specs.Scenes.{pbx_lines, prepaid_lines, scene_text}
use Rattle.mc_scene.specs.declared.scenes.Scene.TheVariants.{Pbx, Prepaid}
use Rattle.mc_scene_laws.specs.SceneLaws.{ScenesAreTexts}
use Rattle.mc_scene_laws.specs.SceneTexts.{pbx_declared, prepaid_declared}
use Rattle.mc_scene_laws.proofs.Entering.{IsPlainLine, computed, declared_by_words, says_lines}
use Rattle.mc_scene_laws.proofs.PlainLines.{are_plain}

pbx_cut : lines (scene_text Pbx) ≡ pbx_lines
pbx_cut = refl

pbx_reads : declared_by_words (nothing Nothing) (map words pbx_lines) ≡ Some pbx_declared
pbx_reads = refl

pbx_plain : All IsPlainLine pbx_lines
pbx_plain = are_plain pbx_lines refl

prepaid_cut : lines (scene_text Prepaid) ≡ prepaid_lines
prepaid_cut = refl

prepaid_reads : declared_by_words (nothing Nothing) (map words prepaid_lines) ≡ Some prepaid_declared
prepaid_reads = refl

prepaid_plain : All IsPlainLine prepaid_lines
prepaid_plain = are_plain prepaid_lines refl

pub scenes_are_texts : ScenesAreTexts
scenes_are_texts Pbx = says_lines pbx_lines pbx_declared pbx_plain (computed (nothing Nothing) pbx_declared (map words pbx_lines) pbx_reads) (scene_text Pbx) pbx_cut refl refl
scenes_are_texts Prepaid = says_lines prepaid_lines prepaid_declared prepaid_plain (computed (nothing Nothing) prepaid_declared (map words prepaid_lines) prepaid_reads) (scene_text Prepaid) prepaid_cut refl refl
