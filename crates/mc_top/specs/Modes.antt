-- What a mode reads, draws and prints.
use Rattle.std.specs.Prelude.{◌≤◌, ◌++◌, ℕ, Bool, true, false, IsTrue, List, None, Some, String}
use Rattle.std.specs.Option.{unwrap_or}
use Rattle.mc_box.specs.BoxShapes.{is_feature}
use Rattle.mc_model.specs.Worlds.{WorldState, box_at}
use Rattle.mc_text.specs.NameLists.{NameLists, place_of}
use Rattle.std.specs.declared.alloc.Global.{Global}
use Rattle.std.specs.declared.option.Option.{Option}
use Rattle.mc_lines.specs.declared.tail.Tail.{Tail}
use Rattle.mc_lines.specs.declared.tail.Tail.TheVariants.{Nothing, Journal}
use Rattle.mc_net.specs.Nets.{DeclaresNet}
use Rattle.mc_net.specs.declared.net.Net.{Net}
use Rattle.mc_scene.specs.Generated.{generated}
use Rattle.mc_scene.specs.Scenes.{scene_text}
use Rattle.mc_scene.specs.declared.limit.TheConstants.{NUMBER_LIMIT, SIZE_LIMIT}
use Rattle.mc_script.specs.declared.command.JournalLine.{JournalLine}
use Rattle.mc_call.specs.Behind.{HasGoodJournal}
use Rattle.mc_call.specs.Reasons.{IsFaultOfTold, Told}
use Rattle.mc_script_end.specs.Printed.{journal_text}
use Rattle.mc_top.specs.Printed.{checked_text, conferences_text, run_text, summaries_text}
use Rattle.mc_top.specs.Summaries.{heading_text}
use Rattle.mc_top.specs.declared.report.Report.{Report}
use Rattle.mc_top.specs.declared.report.Report.TheVariants.{Conference, Paths, Summary}
use Rattle.mc_words.specs.Commands.{IsCommand, bytes_of}
use Rattle.mc_words.specs.declared.words.Mode.{Mode}
use Rattle.mc_words.specs.declared.words.Mode.TheVariants.{Check, Conf, Gen, One, Run, Scene}
use Rattle.mc_script_end.specs.Rings.{CanRun}

-- the numbers of a mode are within the limits of generated texts
abbrev pub IsWithinLimits : Mode → Type 0
IsWithinLimits (Gen number size) = (number ≤ NUMBER_LIMIT) × (1 ≤ size) × (size ≤ SIZE_LIMIT)
IsWithinLimits mode = Unit {0}

-- a mode's text comes from the source, and isn't the mode's own
abbrev pub reads : Mode → Bool
reads (Run journal) = true
reads (One state journal) = true
reads (Check why) = true
reads (Gen number size) = false
reads (Scene scene) = false
reads (Conf name) = true

-- the words ask for a mode that reads
abbrev pub AsksToRead : List (String Global) → Type 0
AsksToRead words = (mode : Mode) × IsCommand words mode × IsTrue (reads mode)

-- a mode checks a journal, and runs no script
abbrev pub checks : Mode → Bool
checks (Run journal) = false
checks (One state journal) = false
checks (Check why) = true
checks (Gen number size) = false
checks (Scene scene) = false
checks (Conf name) = false

-- a mode tells why paths closed
abbrev pub tells_why : Mode → Bool
tells_why (Check why) = why
tells_why mode = false

-- the text that a mode works on, where it is told: what the source has left, or the mode's own
abbrev pub text_for : Mode → Option (List ℕ) → Option (List ℕ)
text_for (Run journal) left = left
text_for (One state journal) left = left
text_for (Check why) left = left
text_for (Gen number size) left = Some (generated number size)
text_for (Scene scene) left = Some (scene_text scene)
text_for (Conf name) left = left

-- what may stand after the commands of that text
abbrev pub tail_of : Mode → Tail
tail_of (Run journal) = Nothing
tail_of (One state journal) = Nothing
tail_of (Check why) = Journal
tail_of (Gen number size) = Nothing
tail_of (Scene scene) = Nothing
tail_of (Conf name) = Nothing

-- what is told is the fault of the text on which the mode works that the words ask for
abbrev pub IsFaultByWords : List (String Global) → (left : Option (List ℕ)) → Told → Type 0
IsFaultByWords words left told =
    (mode : Mode) → IsCommand words mode → IsFaultOfTold (tail_of mode) (text_for mode left) told

-- the state at which the draws of a mode begin, if it draws. The turns of other modes are made by parts, in any order
abbrev pub draws_from : Mode → Option ℕ
draws_from (Run journal) = None
draws_from (One state journal) = Some state
draws_from (Check why) = None
draws_from (Gen number size) = None
draws_from (Scene scene) = None
draws_from (Conf name) = None

-- a box is a feature, if it is there
abbrev pub is_feature_at : WorldState → Option ℕ → Bool
is_feature_at world None = false
is_feature_at world (Some who) = is_feature (box_at world who).kind

-- a feature has this name
abbrev pub has_feature : NameLists → WorldState → List ℕ → Bool
has_feature names world name = is_feature_at world (place_of names.boxes name)

-- a feature has the name of the box that a mode is about, if it is about one
abbrev pub has_box : Mode → NameLists → WorldState → Bool
has_box (Run journal) names world = true
has_box (One state journal) names world = true
has_box (Check why) names world = true
has_box (Gen number size) names world = true
has_box (Scene scene) names world = true
has_box (Conf name) names world = has_feature names world (bytes_of name)

-- the number of a box that has a name
abbrev pub box_number : NameLists → List ℕ → ℕ
box_number names name = unwrap_or (place_of names.boxes name) 0

-- a text declares a network, and the journal after its commands settles all batches
pub record CanCheck (text : List ℕ) : Type 0 where
  pub net : Net
  pub declares : DeclaresNet Journal text net
  pub good : HasGoodJournal text net

-- a text can be run, and declares a feature of this name
pub record CanConfer (text name : List ℕ) : Type 0 where
  pub runs : CanRun text
  pub net : Net
  pub declares : DeclaresNet Nothing text net
  pub has : IsTrue (has_feature net.names net.world name)

-- a mode's work can be done on the text; that on its own can always
abbrev pub IsWorkable : Mode → List ℕ → Type 0
IsWorkable (Run journal) text = CanRun text
IsWorkable (One state journal) text = CanRun text
IsWorkable (Check why) text = CanCheck text
IsWorkable (Gen number size) text = Unit {0}
IsWorkable (Scene scene) text = Unit {0}
IsWorkable (Conf name) text = CanConfer text (bytes_of name)

-- what a mode reports of its settles
abbrev pub report_of : Mode → NameLists → Report
report_of (Run journal) names = Paths
report_of (One state journal) names = Paths
report_of (Check why) names = Paths
report_of (Gen number size) names = Summary number size
report_of (Scene scene) names = Paths
report_of (Conf name) names = Conference (box_number names (bytes_of name))

-- what a mode prints for a journal of the network
abbrev pub output_of : Mode → Net → List JournalLine → List ℕ
output_of (Run journal) net lines = run_text Paths journal net.names net.world None lines
output_of (One state journal) net lines = run_text Paths journal net.names net.world None lines
output_of (Check why) net lines = checked_text why net.names net.world lines
output_of (Gen number size) net lines = heading_text number size net.world ++ summaries_text 1 net.world lines
output_of (Scene scene) net lines = journal_text net.names 1 net.world lines
output_of (Conf name) net lines = conferences_text net.names (box_number net.names (bytes_of name)) 1 net.world lines
