-- Modes that make their texts themselves: the work can always be done on these.
use Rattle.std.proofs.Common.{◌≡◌, ◌⊎◌, ℕ, Bool, List, true, false, None, Some, arith, refl, subst}
use Rattle.std.specs.declared.option.Option.{Option}
use Rattle.std.specs.Prelude.{String}
use Rattle.std.specs.declared.alloc.Global.{Global}
use Rattle.mc_scene.specs.Generated.{generated}
use Rattle.mc_scene.specs.Outputs.{scene_output}
use Rattle.mc_scene.specs.Scenes.{scene_text}
use Rattle.mc_scene.specs.declared.scenes.Scene.{Scene as OneScene}
use Rattle.mc_script.specs.declared.command.JournalLine.{JournalLine}
use Rattle.mc_script_end.specs.Rings.{CanRun}
use Rattle.mc_top.specs.Modes.{IsWithinLimits, IsWorkable, reads, text_for}
use Rattle.mc_call.specs.Calls.{Delivers}
use Rattle.mc_top.specs.Top.{Ends, IsTextFor}
use Rattle.mc_words.specs.Commands.{IsCommand}
use Rattle.mc_words.specs.declared.words.Mode.{Mode}
use Rattle.mc_words.specs.declared.words.Mode.TheVariants.{Check, Conf, Gen, One, Run, Scene}
use Rattle.mc_top.proofs.MadeTexts.{generated_can_run, scenes_can_run}
use Rattle.mc_top.proofs.SceneOutputs.{scenes_print_the_same}
use Rattle.mc_top.proofs.Told.{WorksOn, ends_told, works_out}

-- the numbers of a mode that words ask for are within the limits of generated texts
pub within_limits : (words : List (String Global)) (mode : Mode) → IsCommand words mode → IsWithinLimits mode
within_limits words (Run asked) is = tt
within_limits words (One state asked) is = tt
within_limits words (Check why) is = tt
within_limits words (Gen number size) is = (is.0.3.1, is.0.5, is.0.4.1)
within_limits words (Scene scene) is = tt
within_limits words (Conf name) is = tt

-- what isn't true is false
pub false_unless : (b : Bool) → (b ≡ true → ⊥) → b ≡ false
false_unless true unless = absurd (unless refl)
false_unless false unless = refl

-- ---- the text that a mode works on

-- what was said of the text that was read or made holds of the mode's text
pub ends_for : (mode : Mode) (left old new : Option (List ℕ)) (text : List ℕ) (status due : ℕ) (journal : List JournalLine)
    → IsTextFor mode left text → Ends mode (Some text) old new status due journal → Ends mode (text_for mode left) old new status due journal
ends_for (Run asked) left old new text status due journal is ends = ends_told (Run asked) left old new text status due journal is ends
ends_for (One state asked) left old new text status due journal is ends = ends_told (One state asked) left old new text status due journal is ends
ends_for (Conf name) left old new text status due journal is ends = ends_told (Conf name) left old new text status due journal is ends
ends_for (Check why) left old new text status due journal is ends = ends_told (Check why) left old new text status due journal is ends
ends_for (Gen number size) left old new text status due journal is ends = subst (λ (t : List ℕ). Ends (Gen number size) (Some t) old new status due journal) is ends
ends_for (Scene scene) left old new text status due journal is ends = subst (λ (t : List ℕ). Ends (Scene scene) (Some t) old new status due journal) is ends

-- ---- the work is done

-- the text that a mode works on is one on which it can, where that is asked of what is read alone
pub works_on : (mode : Mode) (left : Option (List ℕ)) (text : List ℕ) → IsWithinLimits mode → text_for mode left ≡ Some text → IsWorkable mode text → WorksOn mode text
works_on (Run asked) left text within is works = works
works_on (One state asked) left text within is works = works
works_on (Check why) left text within is works = works
works_on (Conf name) left text within is works = works
works_on (Gen number size) left text within is works = let same : generated number size ≡ text = cc in subst CanRun same (generated_can_run number size within.1 within.2)
works_on (Scene scene) left text within is works = let same : scene_text scene ≡ text = cc in subst CanRun same (scenes_can_run scene)

-- the text of a mode that makes it itself
own_text : (mode : Mode) (left : Option (List ℕ)) → reads mode ≡ false → (text : List ℕ) × (text_for mode left ≡ Some text) × IsWorkable mode text
own_text (Run asked) left none = absurd cc
own_text (One state asked) left none = absurd cc
own_text (Check why) left none = absurd cc
own_text (Conf name) left none = absurd cc
own_text (Gen number size) left none = (generated number size, refl, tt)
own_text (Scene scene) left none = (scene_text scene, refl, tt)

-- so such a mode does its work, but for want of memory
pub own_work : (mode : Mode) (left old new : Option (List ℕ)) (status due : ℕ) (journal : List JournalLine)
    → (due ≡ 0) ⊎ (due ≡ 1) ⊎ (due ≡ 3) ⊎ (due ≡ 6) ⊎ (due ≡ 7) ⊎ (due ≡ 8) ⊎ (due ≡ 9) → Ends mode (text_for mode left) old new status due journal
    → IsWithinLimits mode → reads mode ≡ false → (due ≡ 0) ⊎ (due ≡ 3)
own_work mode left old new status due journal dues ends within none =
    let own = own_text mode left none in
    let all : (due ≡ 0) ⊎ (due ≡ 1) ⊎ (due ≡ 3) ⊎ (due ≡ 4) ⊎ (due ≡ 6) ⊎ (due ≡ 7) ⊎ (due ≡ 8) ⊎ (due ≡ 9) = grind (arith, dues) in
    works_out mode (text_for mode left) old new own.0 status due journal all ends own.1 (works_on mode left own.0 within own.1 own.2) (λ four. grind (arith, dues, four))

-- what a scene prints is its stated output
pub scene_stated : (scene : OneScene) (old new : Option (List ℕ)) (status due : ℕ) (journal : List JournalLine) → Ends (Scene scene) (text_for (Scene scene) None) old new status due journal → due ≡ 0
    → Delivers status 0 old new (scene_output scene)
scene_stated scene old new status due journal ends zero =
    let worked = ends.worked zero in
    subst (λ (text : List ℕ). Delivers status 0 old new text) (scenes_print_the_same scene worked.net journal worked.declared worked.settles.sound worked.settles.settled) worked.delivered
