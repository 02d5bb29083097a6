-- What is told of how a call ended, by its words and its mode.
use Rattle.std.proofs.Common.{◌≡◌, ℕ, List, Bool, true, false, Option, Some, None, String, Global, subst}
use Rattle.mc_call.proofs.Explaining.{told_of}
use Rattle.mc_call.specs.Reasons.{AreFeaturesOf, IsFaultOf, IsFaultOfTold, PrintsStop, Told, of_box, of_journal, of_text}
use Rattle.mc_lines.specs.declared.tail.Tail.TheVariants.{Nothing, Journal}
use Rattle.mc_model.specs.Worlds.{WorldState}
use Rattle.mc_net.proofs.Faults.{declares_or_faults}
use Rattle.mc_net.specs.Texts.{IsFault}
use Rattle.mc_scene.specs.Generated.{generated}
use Rattle.mc_scene.specs.Scenes.{scene_text}
use Rattle.mc_script.specs.declared.command.JournalLine.{JournalLine}
use Rattle.mc_seq.specs.declared.stopping.SettleStop.{SettleStop}
use Rattle.mc_settle_text.specs.Stops.{stop_place}
use Rattle.mc_text.specs.NameLists.{NameLists}
use Rattle.mc_top.proofs.MadeTexts.{generated_can_run, scenes_can_run}
use Rattle.mc_script_end.specs.Rings.{CanRun}
use Rattle.mc_top.specs.Modes.{IsFaultByWords, IsWithinLimits, tail_of, text_for}
use Rattle.mc_top.specs.Printed.{run_text}
use Rattle.mc_top.specs.Top.{IsTextFor}
use Rattle.mc_top.specs.declared.report.Report.{Report}
use Rattle.mc_words.proofs.OneMode.{asks_for_one}
use Rattle.mc_words.specs.Commands.{IsCommand}
use Rattle.mc_words.specs.declared.words.Mode.{Mode}
use Rattle.mc_words.specs.declared.words.Mode.TheVariants.{Check, Conf, Gen, One, Run, Scene}

-- a text that can be run has none
none_of : (text : List ℕ) (number line : ℕ) → CanRun text → IsFault Nothing text number line → ⊥
none_of text number line can fault = declares_or_faults Nothing text can.0 number line can.1 fault

-- so of one that is made, features alone may be told
made_told : (text made : List ℕ) (fault : Told) → text ≡ made → CanRun made → IsFaultOf Nothing text fault → IsFaultOfTold Nothing (Some made) fault
made_told text made (of_text number line shown detail) is can fault = absurd (none_of made number line can (subst (λ (t : List ℕ). IsFault Nothing t number line) is fault.0))
made_told text made (of_journal line shown) is can fault = absurd fault
made_told text made (of_box features) is can fault = subst (λ (t : List ℕ). AreFeaturesOf Nothing t features) is fault

-- so of the text on which a mode works
pub told_for : (mode : Mode) (left : Option (List ℕ)) (text : List ℕ) → IsWithinLimits mode → IsTextFor mode left text
    → (fault : Told) → IsFaultOf (tail_of mode) text fault → IsFaultOfTold (tail_of mode) (text_for mode left) fault
told_for (Run asked) left text within is fault found = told_of Nothing left text is fault found
told_for (One state asked) left text within is fault found = told_of Nothing left text is fault found
told_for (Check why) left text within is fault found = told_of Journal left text is fault found
told_for (Gen number size) left text within is fault found = made_told text (generated number size) fault is (generated_can_run number size within.1 within.2) found
told_for (Scene scene) left text within is fault found = made_told text (scene_text scene) fault is (scenes_can_run scene) found
told_for (Conf name) left text within is fault found = told_of Nothing left text is fault found

-- ---- scripts and words

-- what was printed for a stop has its word and a place
pub prints_stop : (report : Report) (asked : Bool) (names : NameLists) (world : WorldState) (stop : Option SettleStop) (journal : List JournalLine) (output : List ℕ)
    → output ≡ run_text report asked names world stop journal → PrintsStop stop output
prints_stop report asked names world None journal output is = tt
prints_stop report true names world (Some stop) journal output is = (stop_place names world stop, is)
prints_stop report false names world (Some stop) journal output is = (stop_place names world stop, is)

-- the text on which the mode works that the words ask for
pub told_by_words : (words : List (String Global)) (left : Option (List ℕ)) (mode : Mode) → IsCommand words mode
    → (fault : Told) → IsFaultOfTold (tail_of mode) (text_for mode left) fault → IsFaultByWords words left fault
told_by_words words left mode asks fault told = λ other is.
    subst (λ (m : Mode). IsFaultOfTold (tail_of m) (text_for m left) fault) (asks_for_one words mode other asks is) told
