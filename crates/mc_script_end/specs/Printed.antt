-- What is printed of a script that ended: its settles, and its journal after them.
use Rattle.std.specs.Prelude.{ℕ, ◌+◌, Bool, true, List, [], ◌∷◌, ◌++◌, codes, Option, None}
use Rattle.mc_journal.specs.Printed.{print_journal}
use Rattle.mc_model.specs.Worlds.{WorldState}
use Rattle.mc_replay.specs.Journals.{next_world}
use Rattle.mc_script.specs.declared.command.JournalLine.{JournalLine}
use Rattle.mc_script.specs.declared.command.JournalLine.TheVariants.{Turn as Made, Settled}
use Rattle.mc_seq.specs.declared.stopping.SettleStop.{SettleStop}
use Rattle.mc_settle_text.specs.Paths.{settle_text}
use Rattle.mc_table.specs.Words.{line_of}
use Rattle.mc_text.specs.NameLists.{NameLists}

-- ---- settles

-- what is printed at the settles that replaying a journal from a world gives, numbered from a number on
abbrev pub at_settles : (print : ℕ → WorldState → List ℕ) → ℕ → WorldState → List JournalLine → List ℕ
at_settles print number world [] = []
at_settles print number world (Made turn ∷ journal) = at_settles print number (next_world world turn) journal
at_settles print number world (Settled ∷ journal) = print number world ++ at_settles print (number + 1) world journal

-- the settles of a journal, each with its paths
abbrev pub journal_text : NameLists → ℕ → WorldState → List JournalLine → List ℕ
journal_text names number world journal = at_settles (settle_text names) number world journal

-- ---- the journal itself

-- the line `journal`, and each line of the journal
abbrev pub journal_part : NameLists → List JournalLine → List ℕ
journal_part names journal = line_of (codes "journal" ∷ []) ++ print_journal names journal

-- after what was printed, where it is asked for and the script came to its end
abbrev pub with_journal : (asked : Bool) → Option SettleStop → NameLists → List JournalLine → List ℕ → List ℕ
with_journal true None names journal text = text ++ journal_part names journal
with_journal asked stop names journal text = text
