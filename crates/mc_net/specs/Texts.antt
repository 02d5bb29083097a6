-- A whole text: its first fault, and what it declares.
use Rattle.std.specs.Prelude.{ℕ, zero, suc, ◌≡◌, ◌+◌, ◌<◌, Bool, List, [], ◌∷◌, Option, Some, None, if◌then◌else◌, length, min, slice_index_or}
use Rattle.std.specs.Option.{unwrap_or}
use Rattle.mc_text.specs.Lines.{lines}
use Rattle.mc_lines.specs.Meaning.{line_after}
use Rattle.mc_lines.specs.Rules.{end_fault, ends_commands, line_fault}
use Rattle.mc_lines.specs.SoFar.{Declared, nothing}
use Rattle.mc_lines.specs.declared.tail.Tail.{Tail}
use Rattle.mc_net.specs.declared.fault.NetFault.{NetFault}
use Rattle.mc_net.specs.declared.fault.NetFault.TheVariants.{Line, NoMemory}

-- ---- the lines of a text

-- the first lines of a list, up to one that passes a test, and that one
abbrev pub up_to : (List ℕ → Bool) → List (List ℕ) → List (List ℕ)
up_to ends [] = []
up_to ends (line ∷ others) = line ∷ (if ends line then [] else up_to ends others)

-- the lines of a text: where a journal may stand after its commands, none after the one that ends them
abbrev pub text_lines : Tail → List ℕ → List (List ℕ)
text_lines tail text = up_to (ends_commands tail) (lines text)

-- ---- one line after another

-- what is declared after a line, with what the lines before it declared
abbrev pub declared_after : Declared → List ℕ → Declared
declared_after d line = unwrap_or (line_after d line) d

-- what the first lines declare, so many of them
abbrev pub declared_by : Tail → List (List ℕ) → ℕ → Declared
declared_by tail lines zero = nothing tail
declared_by tail lines (suc k) = declared_after (declared_by tail lines k) (slice_index_or lines k [])

-- how many bytes stand before a line, with the ends of those before it
abbrev pub bytes_before : List (List ℕ) → ℕ → ℕ
bytes_before lines zero = 0
bytes_before lines (suc k) = bytes_before lines k + (length (slice_index_or lines k []) + 1)

-- where the line after the last of a text begins, which is the end of the text where there is none
abbrev pub text_end : Tail → List ℕ → ℕ
text_end tail text = min (bytes_before (text_lines tail text) (length (text_lines tail text))) (length text)

-- the least number of the rules that the line at an index breaks, of a text with so many bytes
abbrev pub fault_at : Tail → ℕ → List (List ℕ) → ℕ → Option ℕ
fault_at tail total lines k =
    line_fault total (bytes_before lines k) (declared_by tail lines k) (slice_index_or lines k [])

-- no line before an index breaks a rule
abbrev pub AreSound : Tail → ℕ → List (List ℕ) → ℕ → Type 0
AreSound tail total lines count = (k : ℕ) → k < count → fault_at tail total lines k ≡ None

-- ---- a whole text

-- the text's first fault: a line, by its number from 1, breaks the rule of this number and none with a lesser one, and
-- no line before it breaks a rule. The end counts as one more line
pub data IsFault (tail : Tail) (text : List ℕ) : ℕ → ℕ → Type 0 where
  at_line : {number : ℕ} (k : ℕ) → k < length (text_lines tail text)
      → AreSound tail (length text) (text_lines tail text) k
      → fault_at tail (length text) (text_lines tail text) k ≡ Some number → IsFault tail text number (k + 1)
  at_end : {number : ℕ} → AreSound tail (length text) (text_lines tail text) (length (text_lines tail text))
      → end_fault (declared_by tail (text_lines tail text) (length (text_lines tail text))) ≡ Some number
      → IsFault tail text number (length (text_lines tail text) + 1)

-- the text is in the grammar, and this is what it declares
pub record Says (tail : Tail) (text : List ℕ) (d : Declared) : Type 0 where
  pub sound : AreSound tail (length text) (text_lines tail text) (length (text_lines tail text))
  pub ended : end_fault (declared_by tail (text_lines tail text) (length (text_lines tail text))) ≡ None
  pub declared : d ≡ declared_by tail (text_lines tail text) (length (text_lines tail text))

-- why a text isn't taken: its first fault, or want of memory, which says nothing of the text
abbrev pub RefusesText : Tail → List ℕ → NetFault → Type 0
RefusesText tail text (Line fault) = IsFault tail text fault.number fault.line
RefusesText tail text (NoMemory e) = Unit {0}
