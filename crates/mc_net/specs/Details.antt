-- What is known of a text's first fault beside its number and line.
use Rattle.std.specs.Prelude.{ℕ, ◌-◌, List, [], slice_index_or}
use Rattle.mc_text.specs.Lines.{words}
use Rattle.mc_lines.specs.Details.{detail_of}
use Rattle.mc_lines.specs.declared.detail.Detail.{Detail}
use Rattle.mc_lines.specs.declared.tail.Tail.{Tail}
use Rattle.mc_net.specs.Texts.{declared_by, text_lines}

-- what is known of the line at fault, with what the lines before it declare; the end of the text is a line without
-- words
abbrev pub fault_detail : Tail → List ℕ → (number line : ℕ) → Detail
fault_detail tail text number line =
    detail_of (declared_by tail (text_lines tail text) (line - 1))
    (words (slice_index_or (text_lines tail text) (line - 1) [])) number
