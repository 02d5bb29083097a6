-- What a person is told of how a call ended.
use Rattle.std.specs.Prelude.{ℕ, ◌-◌, ◌==◌, ◌||◌, Bool, if◌then◌else◌, List, [], ◌∷◌, ◌++◌, codes, flat_map}
use Rattle.std.specs.Fmt.{decimal}
use Rattle.mc_explain.specs.Hints.{hints}
use Rattle.mc_explain.specs.Quotes.{quote, told_line}
use Rattle.mc_explain.specs.Sentences.{journal_rule, text_rule}
use Rattle.mc_explain.specs.declared.reason.Reason.{Reason}
use Rattle.mc_explain.specs.declared.reason.Reason.TheVariants.{ChannelInUse, FaultyJournal, FaultyText, Help, NoBox, NoMemory, ReadFault, Restless, Ring, Usage, VersionEnd, Worked, WriteFault}
use Rattle.mc_lines.specs.declared.detail.Detail.{Detail}
use Rattle.mc_replay.specs.declared.rule.TheConstants.{NOT_ENABLED, NOT_NEXT}
use Rattle.mc_text.specs.Lines.{has_bytes}

-- ---- sentences

-- how the program is called
abbrev pub commands : List (List ℕ)
commands =
    codes "  mediactl run [--journal]      settles the text on standard input, and prints its paths"
    ∷ codes "  mediactl one N [--journal]    the same, in an order that the number N draws"
    ∷ codes "  mediactl check                checks the journal that stands after the text on standard input"
    ∷ codes "  mediactl why                  the same, and tells of each closed path which turn closed it"
    ∷ codes "  mediactl gen N SIZE           draws SIZE chains of features by the number N, and prints a summary"
    ∷ codes "  mediactl scene pbx            prints the paths of one phone that speaks with two others in turn"
    ∷ codes "  mediactl scene prepaid        prints the paths of a prepaid call that a voice interrupts"
    ∷ codes "  mediactl conf BOX             runs the text, and prints whom a mixer at the feature BOX would let each party hear"
    ∷ codes "  mediactl grow                 runs the text, in which channels join and are cut after a line grow"
    ∷ codes "N is a number from 0 to 2147483647, and SIZE one from 1 to 50."
    ∷ codes "With --journal each turn is printed after the paths. The manual page mediactl(1) says more."
    ∷ []

-- the rule of texts that a line breaks
abbrev pub text_fault : ℕ → ℕ → List ℕ
text_fault number line =
    codes "line " ++ decimal line ++ codes " of the text breaks rule " ++ decimal number ++ codes ": "
    ++ text_rule number ++ codes "."

-- it is a turn that breaks the rule
abbrev pub is_of_turns : ℕ → Bool
is_of_turns number = number == NOT_ENABLED || number == NOT_NEXT

-- the rule of journals that a turn breaks, by the turn's number and its line in the text
abbrev pub turn_fault : ℕ → ℕ → ℕ → List ℕ
turn_fault number turn line =
    codes "line " ++ decimal line ++ codes " of the text, turn " ++ decimal turn
    ++ codes " of its journal, breaks rule " ++ decimal number ++ codes ": " ++ journal_rule number ++ codes "."

-- the rule that a line breaks after so many turns
abbrev pub line_fault : ℕ → ℕ → ℕ → List ℕ
line_fault number turns line =
    codes "line " ++ decimal line ++ codes " of the text, with " ++ decimal turns
    ++ codes " turns of its journal made, breaks rule " ++ decimal number ++ codes ": " ++ journal_rule number
    ++ codes "."

-- the rule of journals that is broken where so many turns, less one, were made
abbrev pub journal_fault : ℕ → ℕ → ℕ → List ℕ
journal_fault number turn line =
    if is_of_turns number then turn_fault number turn line else line_fault number (turn - 1) line

-- where a script stopped, and why
abbrev pub stop : (settle : ℕ) → (place why : List ℕ) → List ℕ
stop settle place why =
    codes "settle " ++ decimal settle ++ codes " of the script stopped at " ++ place ++ codes ": " ++ why

-- which features there are, by their names, each after a space
abbrev pub features_told : List ℕ → List ℕ
features_told features =
    if has_bytes features then codes ". Its features are:" ++ features ++ codes "." else codes ", nor any other."

-- no feature has this name
abbrev pub no_box : (place features : List ℕ) → List ℕ
no_box place features = codes "the text declares no feature " ++ place ++ features_told features

-- what there is to say of each reason
abbrev pub sentences : Reason → List (List ℕ)
sentences Worked = []
sentences Help = codes "the commands are:" ∷ commands
sentences Usage = codes "the words after the program's name are no command; the commands are:" ∷ commands
sentences (FaultyText number line text detail) = text_fault number line ∷ []
sentences (VersionEnd place settle) =
    stop settle place.items (codes
    "a hear command of this slot would need a version past the last one, 4294967295. Look at the first version of its device.")
    ∷ []
sentences (Ring place settle) =
    stop settle place.items
    (codes "this slot is on a ring of links, so a path has no ends. Look at the links that lead on from it.")
    ∷ []
sentences (Restless place settle) =
    stop settle place.items (codes
    "the program of this box made 256 steps in this settle, which is the most, and could make one more. Look at its when lines: they may lead round in a circle.")
    ∷ []
sentences (ChannelInUse place settle) =
    stop settle place.items (codes
    "a slot that is to be cut off must be closed, with goal close. Set both ends of its channel to close, and settle before the cut.")
    ∷ []
sentences (FaultyJournal number turn line text) = journal_fault number turn line ∷ []
sentences (NoBox place features) = no_box place.items features.items ∷ []
sentences NoMemory = codes "there wasn't enough memory. Nothing was printed." ∷ []
sentences ReadFault = codes "standard input couldn't be read. Nothing was printed." ∷ []
sentences WriteFault = codes "standard output couldn't be written. What was printed is only a part." ∷ []

-- ---- lines

-- a line that has bytes is shown
abbrev pub line_shown : List ℕ → List ℕ
line_shown bytes = if has_bytes bytes then quote bytes else []

-- so is that of a text, and then what helps with the rule that it breaks
abbrev pub text_shown : ℕ → List ℕ → Detail → List ℕ
text_shown number bytes detail =
    if has_bytes bytes then quote bytes ++ flat_map told_line (hints number bytes detail) else []

-- the line that is shown for a fault
abbrev pub shown : Reason → List ℕ
shown (FaultyText number line text detail) = text_shown number text.items detail
shown (FaultyJournal number turn line text) = line_shown text.items
shown reason = []

-- all that is told: nothing where all was done
abbrev pub explained : Reason → List ℕ
explained reason = flat_map told_line (sentences reason) ++ shown reason
