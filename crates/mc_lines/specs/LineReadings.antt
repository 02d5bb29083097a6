-- What reading a line of a text answers, by the kind of line: what it declares is declared now, or it is refused by the
-- least number of the rules that it breaks.
use Rattle.std.specs.Prelude.{ℕ, ◌≡◌, Bool, true, false, if◌then◌else◌, List, [], ◌∷◌, length, nat_le, Option, Some, Result, Ok, Err}
use Rattle.std.specs.Option.{is_some}
use Rattle.mc_text.specs.NameLists.{place_of}
use Rattle.mc_text.specs.declared.limit.TheConstants.{BOX_LIMIT, CODEC_LIMIT}
use Rattle.mc_program_lines.specs.Readings.{Declares}
use Rattle.mc_program_lines.specs.declared.fault.ReadFault.{ReadFault}
use Rattle.mc_script.specs.Places.{is_overlong}
use Rattle.mc_script.specs.Rules.{least_broken}
use Rattle.mc_script.specs.declared.rule.TheConstants.{GIVEN_TWICE, LIMIT_PASSED, NAME_TOO_LONG}
use Rattle.mc_script.specs.declared.command.LineFault.{LineFault}
use Rattle.mc_script.specs.declared.keyword.CommandWord.{CommandWord}
use Rattle.mc_lines.specs.BoxLines.{also_seen, channel_seen, device_seen, joining_rules, send_seen, widening_rules}
use Rattle.mc_lines.specs.Meaning.{after_by, command_after, entry_after, line_after, program_link_after, send_after, with_new_box, with_new_codec, words_after}
use Rattle.mc_lines.specs.Rules.{command_line_rules, entry_fault, line_fault, program_link_rules, rules_by, send_rules, words_rules}
use Rattle.mc_lines.specs.SoFar.{Declared, DeclaredBox}
use Rattle.mc_lines.specs.declared.reader.boxes.DeviceLine.{DeviceLine}
use Rattle.mc_lines.specs.declared.reader.channels.ChannelLine.{ChannelLine}
use Rattle.mc_lines.specs.declared.reader.sends.SendLine.{SendLine}
use Rattle.mc_lines.specs.declared.section.Keyword.{Keyword}
use Rattle.mc_lines.specs.declared.section.Keyword.TheVariants.{Also, Chan, Dev}

-- a line is refused by its fault, and else these rules are left to ask of what it spells, seen by a view
abbrev pub LeavesRules : {X Y : Type 0} → (X → Y) → (X → List (ℕ × Bool)) → Result X LineFault → Option ℕ → Option Y
    → Type 0
LeavesRules view rules (Ok x) fault meaning = (fault ≡ least_broken (rules x)) × (meaning ≡ Some (view x))
LeavesRules view rules (Err e) fault meaning = fault ≡ Some e.number

-- a line of this kind, whose words are those after the first, spells something, seen as what is declared after it
abbrev pub SpellsKind : {X : Type 0} → (X → Declared) → (X → List (ℕ × Bool)) → Declared → Keyword → List (List ℕ)
    → Result X LineFault → Type 0
SpellsKind view rules d kind words result =
    LeavesRules view rules result (least_broken (rules_by d (Some kind) words)) (after_by d (Some kind) words)

-- the rules on a name that comes last in a list: none is the same, there is room, and it isn't too long
abbrev pub name_rules : List (List ℕ) → ℕ → List ℕ → List (ℕ × Bool)
name_rules names limit name =
    (GIVEN_TWICE, is_some (place_of names name)) ∷ (LIMIT_PASSED, nat_le limit (length names))
    ∷ (NAME_TOO_LONG, is_overlong (Some name)) ∷ []

-- the first of them that a name breaks which is too long
abbrev pub overlong : (used full : Bool) → ℕ
overlong used full = if used then GIVEN_TWICE else (if full then LIMIT_PASSED else NAME_TOO_LONG)

-- the name of a codec may be the last
abbrev pub codec_name_rules : Declared → List ℕ → List (ℕ × Bool)
codec_name_rules d name = name_rules d.names.codecs CODEC_LIMIT name

-- the name of a box may be the last
abbrev pub box_name_rules : Declared → List ℕ → List (ℕ × Bool)
box_name_rules d name = name_rules d.names.boxes BOX_LIMIT name

-- the name on the line of a device may be the last
abbrev pub device_name_rules : Declared → DeviceLine → List (ℕ × Bool)
device_name_rules d line = box_name_rules d line.name.now

-- the line of a device does, after `dev`
abbrev pub SpellsDevice : Declared → List (List ℕ) → Result DeviceLine LineFault → Type 0
SpellsDevice d words result = SpellsKind (device_seen d) (device_name_rules d) d Dev words result

-- the line of a send list does, after `send`, where send lists stand apart
abbrev pub SpellsSends : Declared → List (List ℕ) → Result SendLine LineFault → Type 0
SpellsSends d words result =
    LeavesRules (send_seen d) (λ line. []) result (least_broken (send_rules d words)) (send_after d words)

-- the line of a channel does, after `chan`
abbrev pub SpellsChannel : Declared → List (List ℕ) → Result ChannelLine LineFault → Type 0
SpellsChannel d words result = SpellsKind (channel_seen d) (joining_rules d) d Chan words result

-- the line of a tunnel more does, after `also`
abbrev pub SpellsAlso : Declared → List (List ℕ) → Result ChannelLine LineFault → Type 0
SpellsAlso d words result = SpellsKind (also_seen d) (widening_rules d) d Also words result

-- a line of this kind is read
abbrev pub ReadsKind : Declared → Keyword → List (List ℕ) → Result (Unit {0}) ReadFault → Declared → Type 0
ReadsKind d kind words result now =
    Declares result now (least_broken (rules_by d (Some kind) words)) (after_by d (Some kind) words)

-- a box of this name is
abbrev pub ReadsBox : Declared → List ℕ → DeclaredBox → Result (Unit {0}) ReadFault → Declared → Type 0
ReadsBox d name declared result now =
    Declares result now (least_broken (box_name_rules d name)) (Some (with_new_box d name declared))

-- a codec of this name is
abbrev pub ReadsCodec : Declared → List ℕ → Result (Unit {0}) ReadFault → Declared → Type 0
ReadsCodec d name result now =
    Declares result now (least_broken (codec_name_rules d name)) (Some (with_new_codec d name))

-- a `link` line in the programs is
abbrev pub ReadsProgramLink : Declared → List (List ℕ) → Result (Unit {0}) ReadFault → Declared → Type 0
ReadsProgramLink d words result now =
    Declares result now (least_broken (program_link_rules d words)) (program_link_after d words)

-- the line of a command is
abbrev pub ReadsCommandLine : Declared → CommandWord → List (List ℕ) → Result (Unit {0}) ReadFault → Declared → Type 0
ReadsCommandLine d kind words result now =
    Declares result now (least_broken (command_line_rules d kind words)) (command_after d kind words)

-- the version line is
abbrev pub ReadsVersion : Declared → List (List ℕ) → Result (Unit {0}) ReadFault → Declared → Type 0
ReadsVersion d words result now =
    Declares result now (least_broken (words_rules false d words)) (words_after false d words)

-- a line of words after it is
abbrev pub ReadsWords : Declared → List (List ℕ) → Result (Unit {0}) ReadFault → Declared → Type 0
ReadsWords d words result now = Declares result now (least_broken (words_rules true d words)) (words_after true d words)

-- a line of words is, wherever it stands
abbrev pub ReadsEntry : Declared → List (List ℕ) → Result (Unit {0}) ReadFault → Declared → Type 0
ReadsEntry d words result now = Declares result now (entry_fault d words) (entry_after d words)

-- a line of a text of `total` bytes is, with so many bytes before it
abbrev pub ReadsLine : (total before : ℕ) → Declared → List ℕ → Result (Unit {0}) ReadFault → Declared → Type 0
ReadsLine total before d line result now = Declares result now (line_fault total before d line) (line_after d line)
