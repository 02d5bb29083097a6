-- Reading a text: what the line at a place answers, and the fault of a text whose lines break no rule.
use Rattle.std.specs.Prelude.{ℕ, ◌≡◌, ◌+◌, ◌<◌, ◌≤◌, length, List, Option, Some, None, Result, Ok, Err}
use Rattle.mc_lines.specs.Forms.{IsInForm}
use Rattle.mc_lines.specs.Rules.{end_fault, line_fault, text_limit}
use Rattle.mc_lines.specs.SoFar.{Declared}
use Rattle.mc_lines.specs.Meaning.{line_after}
use Rattle.mc_lines.specs.declared.limit.TheConstants.{JOURNAL_TEXT_LIMIT}
use Rattle.mc_lines.specs.declared.tail.Tail.{Tail}
use Rattle.mc_net.specs.Texts.{text_end, text_lines}
use Rattle.mc_net.specs.declared.fault.NetFault.{NetFault}
use Rattle.mc_net.specs.declared.fault.NetFault.TheVariants.{Line, NoMemory}
use Rattle.mc_net.specs.declared.fault.TextFault.{TextFault}
use Rattle.mc_net.specs.declared.text.Place.{Place}

-- of a text of `total` bytes, the line at a place breaks no rule, and this is what is declared after it; or it breaks
-- one
abbrev pub ReadsHere : ℕ → Place → Declared → List ℕ → Result (Unit {0}) NetFault → Declared → Type 0
ReadsHere total place d line (Ok done) now =
    (line_fault total place.before d line ≡ None) × (line_after d line ≡ Some now) × IsInForm now
ReadsHere total place d line (Err (Line fault)) now =
    (line_fault total place.before d line ≡ Some fault.number) × (fault.line ≡ place.line)
ReadsHere total place d line (Err (NoMemory e)) now = Unit {0}

-- the fault of the end, which counts as a line of this number
abbrev pub fault_behind : ℕ → Option ℕ → Option TextFault
fault_behind number None = None
fault_behind number (Some broken) = Some (record { number = broken; line = number })

abbrev pub last_fault : Declared → ℕ → Option TextFault
last_fault d number = fault_behind number (end_fault d)

-- the place after the last line of a text that breaks no rule: a text that is too long doesn't pass its limit before it
pub record IsEndOf (tail : Tail) (text : List ℕ) (place : Place) : Type 0 where
  pub before : place.before ≡ text_end tail text
  pub line : place.line ≡ length (text_lines tail text) + 1
  pub few : place.line ≤ JOURNAL_TEXT_LIMIT + 2
  pub short : text_limit tail < length text → place.before ≤ text_limit tail
