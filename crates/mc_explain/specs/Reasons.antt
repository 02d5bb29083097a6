-- What is kept of a fault of a text or a journal.
use Rattle.std.specs.Prelude.{◌≡◌, ℕ, ◌-◌, List, [], get_or, take}
use Rattle.std.specs.declared.alloc.Global.{Global}
use Rattle.std.specs.Prelude.{Vec}
use Rattle.mc_explain.specs.declared.reason.Reason.{Reason}
use Rattle.mc_explain.specs.declared.reason.Reason.TheVariants.{FaultyJournal, FaultyText}
use Rattle.mc_lines.specs.declared.detail.Detail.{Detail}
use Rattle.mc_script.specs.declared.line.TheConstants.{LINE_LIMIT}
use Rattle.mc_text.specs.Lines.{lines}

-- the bytes of a line of a text, by its number from 1, as far as a line may have some; none where there is no such line
abbrev pub line_at : ℕ → List ℕ → List ℕ
line_at number text = take LINE_LIMIT (get_or (lines text) (number - 1) [])

-- the reason is that the text has a fault of this number on this line, with its bytes and what else is known of it
abbrev pub IsTextFault : ℕ → ℕ → Detail → List ℕ → Reason → Type 0
IsTextFault number line detail text reason =
    (told : Vec ℕ Global) × (reason ≡ FaultyText number line told detail) × (told.items ≡ line_at line text)

-- the reason is that the journal of a text has a fault of this number at this turn, on this line of the text, with its
-- bytes
abbrev pub IsFaultOfJournal : ℕ → ℕ → ℕ → List ℕ → Reason → Type 0
IsFaultOfJournal number turn line text reason =
    (told : Vec ℕ Global) × (reason ≡ FaultyJournal number turn line told) × (told.items ≡ line_at line text)
