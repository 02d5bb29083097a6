-- Lines by which channels join after the commands: `chan` lines that come later.
use Rattle.std.specs.Prelude.{ℕ, ◌==◌, ◌&&◌, ◌||◌, Bool, false, List, [], ◌∷◌, ◌++◌, Option, Some, None, Result, Err, if◌then◌else◌, map}
use Rattle.std.specs.List.{slice_get}
use Rattle.mc_box.specs.BoxShapes.{BoxShapeState, shape_of}
use Rattle.mc_script.specs.Places.{box_named, unless}
use Rattle.mc_script.specs.declared.command.LineFault.{LineFault}
use Rattle.mc_script.specs.declared.command.Command.{Command}
use Rattle.mc_script.specs.declared.rule.TheConstants.{NOT_SETTLED, WRONG_WORD}
use Rattle.mc_lines.specs.BoxLines.{channel_seen}
use Rattle.mc_lines.specs.Rules.{channel_rules, is_pending}
use Rattle.mc_lines.specs.SoFar.{Declared}
use Rattle.mc_lines.specs.declared.reader.channels.ChannelLine.{ChannelLine}
use Rattle.mc_lines.specs.declared.section.Section.TheVariants as section

-- these rules, the one of a number being broken by something else, too
abbrev pub also_broken : (number : ℕ) → Bool → List (ℕ × Bool) → List (ℕ × Bool)
also_broken number more rules = map (λ rule. (rule.0, rule.1 || (rule.0 == number && more))) rules

-- the box is known, and has a program
abbrev pub has_program : List BoxShapeState → Option ℕ → Bool
has_program shape None = false
has_program shape (Some who) = (shape_of shape who).programmed

-- a box that a `join` line names has a program
abbrev pub names_programmed : Declared → List (List ℕ) → Bool
names_programmed d words =
    has_program d.shape (box_named d.names (slice_get words 1))
    || has_program d.shape (box_named d.names (slice_get words 3))

-- where channels are declared
abbrev pub among_channels : Declared → Declared
among_channels d = record d { section = section.Channels }

-- after the commands
abbrev pub after_commands : Declared → Declared
after_commands d = record d { section = section.Commands }

-- `join MEDIUM BOX SLOT BOX SLOT`, after a settle: as `chan` where channels are declared, of boxes without a program
abbrev pub join_rules : Declared → List (List ℕ) → List (ℕ × Bool)
join_rules d words =
    also_broken WRONG_WORD (names_programmed d words) (channel_rules (among_channels d) words)
    ++ (NOT_SETTLED, is_pending d.commands) ∷ []

-- whether a channel may join: no box of it has a program, and commands were settled
abbrev pub check_joins : (programmed pending : Bool) → Result (Unit {0}) LineFault
check_joins programmed pending =
    if programmed then Err (record { number = WRONG_WORD }) else unless pending NOT_SETTLED tt

-- what is declared after a `join` line
abbrev pub join_seen : Declared → ChannelLine → Declared
join_seen d line = after_commands (channel_seen d line)

-- a command comes last
abbrev pub with_command : Declared → Command → Declared
with_command d command = record d { section = section.Commands; commands = d.commands ++ command ∷ [] }
