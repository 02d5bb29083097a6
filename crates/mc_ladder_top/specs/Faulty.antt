-- A faulty journal, up to its first fault.
use Rattle.std.specs.Prelude.{◌≡◌, ℕ, List, ◌++◌, codes, map, take}
use Rattle.mc_lines.specs.declared.tail.Tail.TheVariants.{Journal}
use Rattle.mc_net.specs.Nets.{DeclaresNet, batch_turns}
use Rattle.mc_net.specs.declared.net.Net.{Net}
use Rattle.mc_replay.specs.Faults.{StandsFor}
use Rattle.mc_script.specs.declared.command.JournalLine.{JournalLine}
use Rattle.mc_call.specs.Behind.{tail_lines}
use Rattle.mc_call.specs.Printed.{journal_fault_line}
use Rattle.mc_ladder_top.specs.Drawn.{IsLadder}
use Rattle.mc_ladder_top.specs.Requests.{Requested}
use Rattle.mc_ladder_top.specs.declared.picture.Picture.{Picture}
use Rattle.mc_ladder_top.specs.declared.picture.Picture.TheVariants.{Text, Svg, Page}

-- these are the lines of the journal after a text that stand before its first fault: the first ones that may all stand
-- where they do, and no more of them
abbrev pub AreLinesBeforeFault : (text : List ℕ) → Net → (before : List JournalLine) → Type 0
AreLinesBeforeFault text net before =
    (count : ℕ)
    × StandsFor net.world (map batch_turns net.batches.items) (tail_lines net.names net.shape text net.rest) count
    × (before ≡ take count (tail_lines net.names net.shape text net.rest))

-- the same by a network that the text declares
abbrev pub StandBeforeFault : (text : List ℕ) → (before : List JournalLine) → Type 0
StandBeforeFault text before = (net : Net) × DeclaresNet Journal text net × AreLinesBeforeFault text net before

-- a line as a comment of a picture or a page
abbrev pub comment_of : (line : List ℕ) → List ℕ
comment_of line = codes "<!--\n" ++ line ++ codes "-->\n"

-- what stands after the ladder of these lines: the line that `check` prints for the fault, in a picture as a comment
abbrev pub fault_note : Picture → (number turn : ℕ) → List ℕ
fault_note (Text style) number turn = journal_fault_line number turn
fault_note Svg number turn = comment_of (journal_fault_line number turn)
fault_note Page number turn = comment_of (journal_fault_line number turn)

-- the output is the ladder, as it is asked for, of the lines before the first fault, and then what is said of this
-- fault
pub record IsLadderUpToFault (request : Requested) (text : List ℕ) (number turn : ℕ) (output : List ℕ) : Type 0 where
  pub before : List JournalLine
  pub ladder : List ℕ
  pub lines : StandBeforeFault text before
  pub drawn : IsLadder request text before ladder
  pub noted : output ≡ ladder ++ fault_note request.picture number turn
