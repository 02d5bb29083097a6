-- The texts that are made can be run: what they declare goes by words, and closes no chain.
use Rattle.std.proofs.Common.{ℕ, List, All, inr, arith}
use Rattle.mc_box.specs.declared.event.Turn.{Turn}
use Rattle.mc_lines.specs.SoFar.{Declared}
use Rattle.mc_lines.specs.declared.tail.Tail.TheVariants.{Nothing}
use Rattle.mc_net.specs.Nets.{batches_of}
use Rattle.mc_net.specs.Texts.{Says}
use Rattle.mc_scene.specs.Chains.{drawn_chains}
use Rattle.mc_scene.specs.Generated.{generated}
use Rattle.mc_scene.specs.Scenes.{scene_text}
use Rattle.mc_scene_laws.specs.ChainTexts.{chains_declared}
use Rattle.mc_scene_laws.specs.Resting.{ComesToRest, TellsOnce}
use Rattle.mc_scene_laws.specs.SceneTexts.{scene_declared}
use Rattle.mc_scene_laws.proofs.ChainTexts.{generated_are_texts}
use Rattle.mc_scene_laws.proofs.GeneratedRests.{generated_come_to_rest}
use Rattle.mc_scene_laws.proofs.SceneRests.{scenes_come_to_rest}
use Rattle.mc_scene_laws.proofs.SceneTexts.{scenes_are_texts}
use Rattle.mc_script_end.proofs.FirstWorlds.{first_worlds_await_words}
use Rattle.mc_script_end.specs.Rings.{CanRun}
use Rattle.mc_script_end.specs.Rings.{AlwaysRests}
use Rattle.mc_top.specs.SceneLaws.{GeneratedCanRun, ScenesCanRun}
use Rattle.mc_grown_rest.specs.Rests.{TellsFew}

-- one word is few
few_told : (batches : List (List Turn)) → All TellsOnce batches → All TellsFew batches
few_told batches once k d within who = let one = once k d within who in omega arith

always_rests : (d : Declared) → ComesToRest d → AlwaysRests d
always_rests d rests = inr (λ world first. (
  record {
    by_words = rests.by_words world first;
    untold = first_worlds_await_words d world first;
    few = few_told (batches_of d.commands) rests.once;
  },
  rests.chains world first,
))

can_run : (text : List ℕ) (d : Declared) → Says Nothing text d → ComesToRest d → CanRun text
can_run text d says rests = (d, says, rests.versions, always_rests d rests)

pub scenes_can_run : ScenesCanRun
scenes_can_run scene = can_run (scene_text scene) (scene_declared scene) (scenes_are_texts scene) (scenes_come_to_rest scene)

pub generated_can_run : GeneratedCanRun
generated_can_run number size some few =
    can_run (generated number size) (chains_declared (drawn_chains number size)) (generated_are_texts number size some few) (generated_come_to_rest number size)
