-- What stands after the line `grow` of a text: its first fault, and what its lines say.
use Rattle.std.specs.Prelude.{ℕ, zero, suc, ◌≡◌, ◌+◌, ◌<◌, List, [], Option, Some, None, drop, length, slice_index_or}
use Rattle.std.specs.Option.{unwrap_or}
use Rattle.mc_text.specs.Lines.{lines}
use Rattle.mc_lines.specs.SoFar.{Declared}
use Rattle.mc_lines.specs.declared.tail.Tail.TheVariants.{Grow}
use Rattle.mc_net.specs.Texts.{Says, bytes_before, declared_by, text_end, text_lines}
use Rattle.mc_net.specs.declared.fault.NetFault.{NetFault}
use Rattle.mc_net.specs.declared.fault.NetFault.TheVariants.{Line, NoMemory}
use Rattle.mc_tail.specs.Meaning.{tail_line_after}
use Rattle.mc_tail.specs.Rules.{tail_line_fault}
use Rattle.mc_tail.specs.SoFar.{TailState}
use Rattle.mc_tail.specs.declared.tail.TailText.{TailText}

-- ---- the lines after `grow`

-- up to the line `grow` the text is in the grammar
abbrev pub HasHead : List ℕ → Type 0
HasHead text = (d : Declared) × Says Grow text d

-- how many lines there are up to it
abbrev pub head_count : List ℕ → ℕ
head_count text = length (text_lines Grow text)

-- what they declare
abbrev pub head : List ℕ → Declared
head text = declared_by Grow (text_lines Grow text) (head_count text)

-- the lines after it
abbrev pub tail_lines : List ℕ → List (List ℕ)
tail_lines text = lines (drop (text_end Grow text) text)

-- ---- one line after another

-- before the first of them no channel is cut
abbrev pub tail_start : List ℕ → TailState
tail_start text = record { declared = head text; out = []; items = [] }

-- what is declared after a line, with what the lines before it declared
abbrev pub tail_state_after : TailState → List ℕ → TailState
tail_state_after t line = unwrap_or (tail_line_after t line) t

-- what so many of the lines declare
abbrev pub tail_by : List ℕ → ℕ → TailState
tail_by text zero = tail_start text
tail_by text (suc k) = tail_state_after (tail_by text k) (slice_index_or (tail_lines text) k [])

-- how many bytes of the text stand before one of them
abbrev pub bytes_before_tail : List ℕ → ℕ → ℕ
bytes_before_tail text k = text_end Grow text + bytes_before (tail_lines text) k

-- the least number of the rules that one of them breaks
abbrev pub tail_fault_at : List ℕ → ℕ → Option ℕ
tail_fault_at text k =
    tail_line_fault (length text) (bytes_before_tail text k) (tail_by text k) (slice_index_or (tail_lines text) k [])

-- none of the first lines breaks a rule, so many of them
abbrev pub AreSoundTail : List ℕ → ℕ → Type 0
AreSoundTail text count = (k : ℕ) → k < count → tail_fault_at text k ≡ None

-- ---- all of them

-- the first fault after `grow`: a line, by its number in the whole text, breaks the rule of this number and none with
-- a lesser one, and no line before it breaks a rule
pub data IsTailFault (text : List ℕ) : ℕ → ℕ → Type 0 where
  at_tail_line : {number : ℕ} (k : ℕ) → k < length (tail_lines text) → AreSoundTail text k
      → tail_fault_at text k ≡ Some number → IsTailFault text number (head_count text + k + 1)

-- what stands after `grow` is in the grammar, and this is what it leads to
pub record SaysTail (text : List ℕ) (t : TailState) : Type 0 where
  pub sound : AreSoundTail text (length (tail_lines text))
  pub state : t ≡ tail_by text (length (tail_lines text))

-- it is, and these are its names, shapes and items
pub record DeclaresTail (text : List ℕ) (tail : TailText) : Type 0 where
  pub state : TailState
  pub says : SaysTail text state
  pub names : tail.names ≡ state.declared.names
  pub shape : tail.shape ≡ state.declared.shape
  pub items : tail.items.items ≡ state.items

-- why it isn't taken: its first fault, or want of memory, which says nothing of the text
abbrev pub RefusesTail : List ℕ → NetFault → Type 0
RefusesTail text (Line fault) = IsTailFault text fault.number fault.line
RefusesTail text (NoMemory e) = Unit {0}
