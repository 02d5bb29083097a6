-- The journal that stands after the commands of a text.
use Rattle.std.specs.Prelude.{◌≡◌, ℕ, ◌+◌, ◌||◌, Bool, false, List, drop, if◌then◌else◌, length, map, nat_lt, take}
use Rattle.std.specs.List.{before_last}
use Rattle.mc_text.specs.Lines.{is_line_end, lines}
use Rattle.mc_text.specs.NameLists.{NameLists}
use Rattle.mc_box.specs.BoxShapes.{BoxShapeState}
use Rattle.mc_journal.specs.Places.{line_place}
use Rattle.mc_journal.specs.Readings.{has_bad_line, journal_lines, readings}
use Rattle.mc_lines.specs.declared.limit.TheConstants.{JOURNAL_TEXT_LIMIT}
use Rattle.mc_net.specs.Nets.{batch_turns}
use Rattle.mc_net.specs.declared.net.Net.{Net}
use Rattle.mc_replay.specs.Faults.{IsJournalFault, StandsFor}
use Rattle.mc_replay.specs.Journals.{IsJournal}
use Rattle.mc_script.specs.declared.command.JournalLine.{JournalLine}

-- the text and its journal pass their limit
abbrev pub is_too_long : List ℕ → Bool
is_too_long text = nat_lt JOURNAL_TEXT_LIMIT (length text)

-- the bytes of the journal that begins at a place of a text. Those of a text that is too long end at the last line end
-- within the limit: the line that holds the byte with which it passes the limit isn't read, nor what is after
abbrev pub journal_bytes : List ℕ → (rest : ℕ) → List ℕ
journal_bytes text rest =
    if is_too_long text then before_last is_line_end (drop rest (take JOURNAL_TEXT_LIMIT text))
    else drop rest text

-- the lines of that journal, up to one that is none
abbrev pub tail_lines : NameLists → List BoxShapeState → List ℕ → (rest : ℕ) → List JournalLine
tail_lines names shape text rest = journal_lines names shape (journal_bytes text rest)

-- some line of it is none; the line with which a text passes the limit is none, whatever it says
abbrev pub has_bad_tail : NameLists → List BoxShapeState → List ℕ → (rest : ℕ) → Bool
has_bad_tail names shape text rest = has_bad_line names shape (journal_bytes text rest) || is_too_long text

-- the number of a line of the text, from 1: that on which the line of its journal stands that comes after so many
-- others, or the one that is no line of a journal. After the last line it is that of the end
abbrev pub journal_line : NameLists → List BoxShapeState → List ℕ → (rest before : ℕ) → ℕ
journal_line names shape text rest before =
    length (lines (take rest text)) + line_place (readings names shape (journal_bytes text rest)) before + 1

-- ---- by the network that the text declares

-- its lines are these, and no line of it is bad
pub record HasJournal (text : List ℕ) (net : Net) (journal : List JournalLine) : Type 0 where
  pub lines : journal ≡ tail_lines net.names net.shape text net.rest
  pub whole : has_bad_tail net.names net.shape text net.rest ≡ false

-- its first fault is this one
abbrev pub HasJournalFault : List ℕ → Net → (number turn : ℕ) → Type 0
HasJournalFault text net number turn =
    IsJournalFault net.world (map batch_turns net.batches.items) (tail_lines net.names net.shape text net.rest)
    (has_bad_tail net.names net.shape text net.rest) number turn

-- its first fault is on this line of the text: the lines of the journal that stand before it may stand there, and no
-- more
abbrev pub IsLineOfFault : List ℕ → Net → (line : ℕ) → Type 0
IsLineOfFault text net line =
    (before : ℕ)
    × StandsFor net.world (map batch_turns net.batches.items) (tail_lines net.names net.shape text net.rest) before
    × (line ≡ journal_line net.names net.shape text net.rest before)

-- it settles all batches: one settled segment for each
pub record HasGoodJournal (text : List ℕ) (net : Net) : Type 0 where
  pub settles : IsJournal net.world (map batch_turns net.batches.items) (tail_lines net.names net.shape text net.rest)
  pub whole : has_bad_tail net.names net.shape text net.rest ≡ false
