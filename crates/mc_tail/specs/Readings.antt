-- What reading a line after `grow` answers.
use Rattle.std.specs.Prelude.{ℕ, ◌≡◌, List, Option, Some, None, Result, Ok, Err}
use Rattle.mc_program_lines.specs.Readings.{Declares}
use Rattle.mc_program_lines.specs.declared.fault.ReadFault.{ReadFault}
use Rattle.mc_script.specs.Rules.{least_broken}
use Rattle.mc_lines.specs.Forms.{IsInForm}
use Rattle.mc_net.specs.declared.fault.NetFault.{NetFault}
use Rattle.mc_net.specs.declared.fault.NetFault.TheVariants.{Line, NoMemory}
use Rattle.mc_net.specs.declared.text.Place.{Place}
use Rattle.mc_tail.specs.Meaning.{tail_after, tail_entry_after, tail_line_after}
use Rattle.mc_tail.specs.Rules.{tail_entry_fault, tail_line_fault, tail_rules}
use Rattle.mc_tail.specs.SoFar.{TailState}
use Rattle.mc_tail.specs.declared.keyword.TailKeyword.{TailKeyword}

-- a line of this kind is read
abbrev pub ReadsTailKind : TailState → Option TailKeyword → List (List ℕ) → Result (Unit {0}) ReadFault
    → TailState → Type 0
ReadsTailKind t kind words result now =
    Declares result now (least_broken (tail_rules t kind words)) (tail_after t kind words)

-- a line of words is, which may be skipped
abbrev pub ReadsTailEntry : TailState → List (List ℕ) → Result (Unit {0}) ReadFault → TailState → Type 0
ReadsTailEntry t words result now = Declares result now (tail_entry_fault t words) (tail_entry_after t words)

-- a line of a text of `total` bytes is, with so many bytes before it
abbrev pub ReadsTailLine : (total before : ℕ) → TailState → List ℕ → Result (Unit {0}) ReadFault → TailState → Type 0
ReadsTailLine total before t line result now =
    Declares result now (tail_line_fault total before t line) (tail_line_after t line)

-- the line at a place breaks no rule, and this is what is declared after it; or it breaks one
abbrev pub ReadsTailHere : ℕ → Place → TailState → List ℕ → Result (Unit {0}) NetFault → TailState → Type 0
ReadsTailHere total place t line (Ok done) now =
    (tail_line_fault total place.before t line ≡ None) × (tail_line_after t line ≡ Some now) × IsInForm now.declared
ReadsTailHere total place t line (Err (Line fault)) now =
    (tail_line_fault total place.before t line ≡ Some fault.number) × (fault.line ≡ place.line)
ReadsTailHere total place t line (Err (NoMemory e)) now = Unit {0}
