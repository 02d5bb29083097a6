-- A text with a journal after its commands.
use Rattle.std.specs.Prelude.{◌≤◌, ◌++◌, ℕ, List, [], ◌∷◌, codes, if◌then◌else◌, length}
use Rattle.mc_lines.specs.Rules.{text_limit}
use Rattle.mc_lines.specs.declared.tail.Tail.TheVariants.{Nothing, Journal}
use Rattle.mc_net.specs.Nets.{DeclaresNet}
use Rattle.mc_net.specs.declared.net.Net.{Net}
use Rattle.mc_text.specs.Lines.{is_line_end}

-- the line end that the last line of a text lacks
abbrev pub missing_end : List ℕ → List ℕ
missing_end [] = []
missing_end (byte ∷ []) = if is_line_end byte then [] else 10 ∷ []
missing_end (byte ∷ next ∷ bytes) = missing_end (next ∷ bytes)

-- the text, with an end for its last line, too
abbrev pub ended : List ℕ → List ℕ
ended text = text ++ missing_end text

-- the line `journal`, with its end
abbrev pub journal_line : List ℕ
journal_line = codes "journal" ++ 10 ∷ []

-- and then the line `journal`
abbrev pub up_to_journal : List ℕ → List ℕ
up_to_journal text = ended text ++ journal_line

-- and then a journal
abbrev pub followed : List ℕ → (journal : List ℕ) → List ℕ
followed text journal = up_to_journal text ++ journal

-- what a text declares where nothing may stand after its commands, it declares with any journal there, too, which
-- begins after the line `journal`
abbrev pub JournalsMayFollow : Type 0
JournalsMayFollow =
    (text journal : List ℕ) (net : Net) → DeclaresNet Nothing text net
    → length (followed text journal) ≤ text_limit Journal
    → DeclaresNet Journal (followed text journal) (record net { rest = length (up_to_journal text) })
