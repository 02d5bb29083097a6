-- What a run prints as its journal, `check` accepts after the text of the run.
use Rattle.std.specs.Prelude.{◌≡◌, ◌++◌, ℕ, false, IsTrue, List, Option, Some}
use Rattle.mc_net.specs.Followed.{ended}
use Rattle.mc_net.specs.declared.net.Net.{Net}
use Rattle.mc_script.specs.declared.command.JournalLine.{JournalLine}
use Rattle.mc_text.specs.NameLists.{NameLists}
use Rattle.mc_call.specs.Behind.{is_too_long}
use Rattle.mc_top.specs.Modes.{CanCheck, output_of}
use Rattle.mc_script_end.specs.Printed.{journal_part}
use Rattle.mc_top.specs.Top.{RefusesCheck, Worked}
use Rattle.mc_words.specs.Commands.{prints_journal}
use Rattle.mc_words.specs.declared.words.Mode.{Mode}
use Rattle.mc_words.specs.declared.words.Mode.TheVariants.{Check}

-- the text of a run, with an end for its last line, and then what the run printed from the line `journal` on
abbrev pub with_printed : (text : List ℕ) → NameLists → List JournalLine → List ℕ
with_printed text names journal = ended text ++ journal_part names journal

-- `check` accepts a text with a journal: it can do its work, and never refuses the journal; and each call that did its
-- work found this journal, and has these settles to print
pub record IsAccepted (text : List ℕ) (journal : List JournalLine) (settles : List ℕ) : Type 0 where
  pub can : CanCheck text
  pub never_refused : (old new : Option (List ℕ)) (status : ℕ) (kept : List JournalLine)
      → RefusesCheck (Some text) old new status kept → ⊥
  pub found : (old new : Option (List ℕ)) (status : ℕ) (kept : List JournalLine)
      → Worked (Check false) (Some text) old new status kept → kept ≡ journal
  pub prints : (old new : Option (List ℕ)) (status : ℕ) (kept : List JournalLine)
      → (check : Worked (Check false) (Some text) old new status kept)
      → output_of (Check false) check.net kept ≡ settles

-- a call prints settles and after them a journal, which `check` accepts after the text of the call, with the same
-- settles
pub record PrintsAccepted (mode : Mode) (text : List ℕ) (net : Net) (journal : List JournalLine) : Type 0 where
  pub settles : List ℕ
  pub printed : output_of mode net journal ≡ settles ++ journal_part net.names journal
  pub accepted : IsAccepted (with_printed text net.names journal) journal settles

-- so does each call that did its work on a text in a mode that prints the journal, as long as text and journal are
-- within the limit of both together
abbrev pub PrintedJournalsAreAccepted : Type 0
PrintedJournalsAreAccepted =
    (mode : Mode) (text : List ℕ) (old new : Option (List ℕ)) (status : ℕ) (journal : List JournalLine)
    → IsTrue (prints_journal mode)
    → (run : Worked mode (Some text) old new status journal)
    → is_too_long (with_printed text run.net.names journal) ≡ false → PrintsAccepted mode text run.net journal
