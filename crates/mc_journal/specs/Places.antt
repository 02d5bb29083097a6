-- Where the lines of a journal stand in its text.
use Rattle.std.specs.Prelude.{ℕ, suc, ◌-◌, ◌==◌, Bool, true, false, List, [], ◌∷◌, if◌then◌else◌}
use Rattle.mc_journal.specs.declared.reading.LineReading.{LineReading}
use Rattle.mc_journal.specs.declared.reading.LineReading.TheVariants.{Skipped, Line, Bad}

-- a line of the text is the wanted one: one of the journal where no other is to come before it, or one that is no line
-- of a journal
abbrev pub is_wanted : LineReading → (before : ℕ) → Bool
is_wanted Skipped before = false
is_wanted (Line line) before = before == 0
is_wanted Bad before = true

-- how many lines of the journal are still to come after a line of the text, before the wanted one
abbrev pub before_after : LineReading → (before : ℕ) → ℕ
before_after Skipped before = before
before_after (Line line) before = before - 1
before_after Bad before = before

-- how many lines of a text stand before the line of its journal that comes after so many others. Where the journal has
-- no such line it is the first of the text that is none, or the text's end
abbrev pub line_place : List LineReading → (before : ℕ) → ℕ
line_place [] before = 0
line_place (reading ∷ others) before =
    if is_wanted reading before then 0 else suc (line_place others (before_after reading before))
