-- What a run prints as its journal is read again, and is good.
use Rattle.std.specs.Prelude.{◌≡◌, false, List, drop, ℕ}
use Rattle.mc_journal.specs.Laws.{ReadsBack}
use Rattle.mc_journal.specs.Printed.{print_journal}
use Rattle.mc_lines.specs.declared.tail.Tail.{Tail}
use Rattle.mc_lines.specs.declared.tail.Tail.TheVariants.{Journal}
use Rattle.mc_net.specs.declared.net.Net.{Net}
use Rattle.mc_script.specs.declared.command.JournalLine.{JournalLine}
use Rattle.mc_call.specs.Behind.{HasGoodJournal, HasJournalFault, is_too_long}
use Rattle.mc_top.specs.TextAlone.{SettlesText}

-- the printed lines of a journal that settles a text are read as these lines, with the names and shapes that the text
-- declares
abbrev pub RunsAreReadBack : Type 0
RunsAreReadBack =
    (tail : Tail) (text : List ℕ) (net : Net) (journal : List JournalLine) → SettlesText tail text net journal
    → ReadsBack net.names net.shape journal

-- where they stand after the commands of a text of this network, within its limit, the journal there is good, and has
-- no fault
abbrev pub PrintedJournalsAreGood : Type 0
PrintedJournalsAreGood =
    (text : List ℕ) (net : Net) (journal : List JournalLine) → SettlesText Journal text net journal
    → is_too_long text ≡ false → drop net.rest text ≡ print_journal net.names journal
    → HasGoodJournal text net × ((number turn : ℕ) → HasJournalFault text net number turn → ⊥)
