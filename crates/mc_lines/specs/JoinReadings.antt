-- What reading a `join` line answers.
use Rattle.std.specs.Prelude.{ℕ, ◌≡◌, ◌&&◌, Bool, List, Some, None, Result, Ok, Err, if◌then◌else◌, nat_lt}
use Rattle.mc_program_lines.specs.declared.fault.ReadFault.{ReadFault}
use Rattle.mc_program_lines.specs.declared.fault.ReadFault.TheVariants.{Line, NoMemory}
use Rattle.mc_script.specs.Rules.{least_broken}
use Rattle.mc_script.specs.declared.command.LineFault.{LineFault}
use Rattle.mc_lines.specs.BoxLines.{channel_seen}
use Rattle.mc_lines.specs.Joins.{join_rules, join_seen}
use Rattle.mc_lines.specs.Meaning.{channel_after}
use Rattle.mc_lines.specs.SoFar.{Declared}
use Rattle.mc_lines.specs.declared.reader.channels.ChannelLine.{ChannelLine}

-- of a fault and a rule that is broken, too, the one with the lesser number
abbrev pub lesser : (number : ℕ) → Bool → ℕ → ℕ
lesser number more fault = if more && nat_lt number fault then number else fault

-- a `join` line breaks no rule and declares this channel, or it is refused by the least number of those that it breaks
abbrev pub SpellsJoin : Declared → List (List ℕ) → Result ChannelLine LineFault → Type 0
SpellsJoin d words (Ok line) =
    (least_broken (join_rules d words) ≡ None) × (channel_after d words ≡ Some (channel_seen d line))
SpellsJoin d words (Err e) = least_broken (join_rules d words) ≡ Some e.number

-- and what it declares is declared now; memory runs out only where it breaks none
abbrev pub ReadsJoin : Declared → List (List ℕ) → Result ChannelLine ReadFault → Declared → Type 0
ReadsJoin d words (Ok line) now =
    (least_broken (join_rules d words) ≡ None)
    × (channel_after d words ≡ Some (channel_seen d line))
    × (now ≡ join_seen d line)
ReadsJoin d words (Err (Line e)) now = least_broken (join_rules d words) ≡ Some e.number
ReadsJoin d words (Err (NoMemory e)) now = least_broken (join_rules d words) ≡ None
