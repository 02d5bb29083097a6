-- What is known of a line's fault beside the number of its rule. It is asked of a line that breaks this rule and none
-- of a lesser number, so a table has no more tests than tell the causes of one rule apart, in the order of the line's
-- words. The words are those after the one that opens the line, which is counted in their places.
use Rattle.std.specs.Prelude.{ℕ, ◌+◌, ◌==◌, ◌||◌, not, Bool, false, List, [], ◌∷◌, Option, Some, None, drop, if◌then◌else◌, length, nat_le, position}
use Rattle.std.specs.List.{slice_get}
use Rattle.std.specs.Option.{is_none, option_and_then, option_map, unwrap_or}
use Rattle.mc_text.specs.NameLists.{NameLists, place_of}
use Rattle.mc_text.specs.Spelling.{is_spelt}
use Rattle.mc_text.specs.declared.limit.TheConstants.{BOX_LIMIT}
use Rattle.mc_script.specs.Places.{box_named, is_misspelt, is_no, lacks, lacks_slot}
use Rattle.mc_script.specs.Rules.{is_no_device, is_no_feature}
use Rattle.mc_script.specs.declared.keyword.CommandWord.{CommandWord}
use Rattle.mc_script.specs.declared.keyword.CommandWord.TheVariants as command
use Rattle.mc_script.specs.declared.rule.TheConstants.{LIMIT_PASSED, NO_SUCH_SLOT, UNDECLARED, WRONG_WORD}
use Rattle.mc_program_lines.specs.Programs.{PartState, open_part_of, waits_for}
use Rattle.mc_program_lines.specs.declared.limit.TheConstants.{TRANSITION_LIMIT}
use Rattle.mc_program_lines.specs.declared.part.WaitWord.{WaitWord}
use Rattle.mc_program_lines.specs.declared.part.WaitWord.TheVariants as waits
use Rattle.mc_lines.specs.BoxLines.{last_ends}
use Rattle.mc_lines.specs.Rules.{begins_digit, codec_words, is_full, is_late, is_program_link, kind_of, open_block, shapes, spelt_medium}
use Rattle.mc_lines.specs.SoFar.{Declared}
use Rattle.mc_lines.specs.declared.detail.Detail.{Detail}
use Rattle.mc_lines.specs.declared.detail.Detail.TheVariants as detail
use Rattle.mc_lines.specs.declared.detail.Limit.{Limit}
use Rattle.mc_lines.specs.declared.detail.Limit.TheVariants as limit
use Rattle.mc_lines.specs.declared.detail.Why.TheVariants as why
use Rattle.mc_lines.specs.declared.section.Keyword.{Keyword}
use Rattle.mc_lines.specs.declared.section.Keyword.TheVariants as keyword
use Rattle.mc_lines.specs.declared.section.Section.TheVariants as section

-- ---- words and what is open

-- of these words, how many stand before the first that is no codec's name
abbrev pub first_undeclared : NameLists → List (List ℕ) → ℕ
first_undeclared names words = unwrap_or (position (λ word. is_none (place_of names.codecs word)) words) 0

-- of these words, how many stand before the first that isn't spelt as a name
abbrev pub first_misspelt : List (List ℕ) → ℕ
first_misspelt words = unwrap_or (position (λ word. not (is_spelt word)) words) 0

-- the words of a `dev` line after the name begin with a version
abbrev pub has_version : List (List ℕ) → Bool
has_version [] = false
has_version (first ∷ others) = begins_digit first

-- the part whose lines these are
abbrev pub open_part : Declared → Option PartState
open_part d = option_and_then open_part_of (open_block d)

-- the box of the program whose lines these are
abbrev pub open_box : Declared → Option ℕ
open_box d = option_map (λ block. block.who) (open_block d)

-- what a `when` line waits for
abbrev pub awaited : List (List ℕ) → Option WaitWord
awaited words = option_and_then waits_for (slice_get words 0)

-- ---- a word that isn't declared

-- `dev NAME CODEC ..` or `dev NAME VERSION CODEC ..`
abbrev pub undeclared_by_device : NameLists → List (List ℕ) → ℕ
undeclared_by_device names words =
    (if has_version (drop 1 words) then 3 else 2) + first_undeclared names (codec_words (drop 1 words))

-- `send BOX CODEC ..`
abbrev pub undeclared_by_send : NameLists → List (List ℕ) → ℕ
undeclared_by_send names words =
    if lacks names.boxes (slice_get words 0) then 1 else 2 + first_undeclared names (drop 1 words)

-- `chan MEDIUM BOX SLOT BOX SLOT`
abbrev pub undeclared_by_channel : NameLists → List (List ℕ) → ℕ
undeclared_by_channel names words = if lacks names.boxes (slice_get words 1) then 2 else 4

-- `tell BOX WORD`
abbrev pub undeclared_by_tell : NameLists → List (List ℕ) → ℕ
undeclared_by_tell names words = if lacks names.boxes (slice_get words 0) then 1 else 2

-- `when told WORD TARGET` or `when is SLOT STATE TARGET`, of which the target isn't declared
abbrev pub target_place : Option WaitWord → ℕ
target_place (Some waits.Told) = 3
target_place other = 4

-- the place of the first word that isn't declared; of the lines that aren't named here it is the box, which stands
-- first
abbrev pub undeclared_place : Declared → Option Keyword → List (List ℕ) → ℕ
undeclared_place d (Some keyword.Dev) words = undeclared_by_device d.names words
undeclared_place d (Some keyword.Send) words = undeclared_by_send d.names words
undeclared_place d (Some keyword.Chan) words = undeclared_by_channel d.names words
undeclared_place d (Some keyword.When) words = target_place (awaited words)
undeclared_place d (Some (keyword.Command command.Tell)) words = undeclared_by_tell d.names words
undeclared_place d other words = 1

-- ---- a word that may not stand in its place

-- no line may begin so here
abbrev pub opening : Detail
opening = detail.Word 0 why.Opening

-- `codec NAME`, `dev NAME ..` or `feat NAME`, which may come too late
abbrev pub wrong_in_name : Bool → Detail
wrong_in_name late = if late then opening else detail.Word 1 why.Misspelt

-- `send BOX CODEC ..`
abbrev pub wrong_in_send : Declared → Detail
wrong_in_send d = if not d.sends_apart || is_late d section.Boxes then opening else detail.Word 1 why.NoDevice

-- `chan MEDIUM BOX SLOT BOX SLOT`
abbrev pub wrong_in_channel : Declared → List (List ℕ) → Detail
wrong_in_channel d words =
    if is_late d section.Channels then opening
    else (if is_no spelt_medium (slice_get words 0) then detail.Word 1 why.Fixed
    else detail.Word (if is_misspelt (slice_get words 2) then 3 else 5) why.Misspelt)

-- `also MEDIUM SLOT SLOT`
abbrev pub wrong_in_also : Declared → List (List ℕ) → Detail
wrong_in_also d words =
    if is_late d section.Channels || length d.channels == 0 then opening
    else (if is_no spelt_medium (slice_get words 0) then detail.Word 1 why.Fixed
    else detail.Word (if is_misspelt (slice_get words 1) then 2 else 3) why.Misspelt)

-- `prog BOX STATE ..`
abbrev pub wrong_in_program : Declared → List (List ℕ) → Detail
wrong_in_program d words =
    if is_late d section.Programs then opening
    else (if is_no_feature (shapes d) (box_named d.names (slice_get words 0)) then detail.Word 1 why.NoFeature
    else detail.Word (2 + first_misspelt (drop 1 words)) why.Misspelt)

-- `state NAME`
abbrev pub wrong_in_state : Declared → Detail
wrong_in_state d = if is_none (open_block d) then opening else detail.Word 1 why.NotNext

-- `goal SLOT GOAL`
abbrev pub wrong_in_goal : Declared → Detail
wrong_in_goal d = if is_none (open_part d) then opening else detail.Word 2 why.Fixed

-- `when is SLOT STATE TARGET` or `when told WORD TARGET`, in a part
abbrev pub wrong_in_wait : Option WaitWord → Detail
wrong_in_wait (Some waits.Is) = detail.Word 3 why.Fixed
wrong_in_wait (Some waits.Told) = detail.Word 2 why.Misspelt
wrong_in_wait None = detail.Word 1 why.Fixed

abbrev pub wrong_in_when : Declared → List (List ℕ) → Detail
wrong_in_when d words = if is_none (open_part d) then opening else wrong_in_wait (awaited words)

-- `hear BOX SLOT SWITCH` or `talk BOX SLOT SWITCH`
abbrev pub wrong_in_media : Declared → List (List ℕ) → Detail
wrong_in_media d words =
    if is_no_device (shapes d) (box_named d.names (slice_get words 0)) then detail.Word 1 why.NoDevice
    else detail.Word 3 why.Fixed

-- a command; in the programs `link` is none, and is wrong there where no part is open
abbrev pub wrong_in_command : Declared → CommandWord → List (List ℕ) → Detail
wrong_in_command d command.Set words = detail.Word 3 why.Fixed
wrong_in_command d command.Link words =
    if is_program_link d.section command.Link then opening else detail.Word 1 why.NoFeature
wrong_in_command d command.Hear words = wrong_in_media d words
wrong_in_command d command.Talk words = wrong_in_media d words
wrong_in_command d command.Tell words = detail.Word 1 why.NoProgram
wrong_in_command d command.Settle words = opening

-- the word that may not stand in its place
abbrev pub wrong_word : Declared → Option Keyword → List (List ℕ) → Detail
wrong_word d (Some keyword.Codec) words = wrong_in_name (is_late d section.Codecs)
wrong_word d (Some keyword.Dev) words = wrong_in_name (is_late d section.Boxes)
wrong_word d (Some keyword.Feat) words = wrong_in_name (is_late d section.Boxes)
wrong_word d (Some keyword.Send) words = wrong_in_send d
wrong_word d (Some keyword.Chan) words = wrong_in_channel d words
wrong_word d (Some keyword.Also) words = wrong_in_also d words
wrong_word d (Some keyword.Prog) words = wrong_in_program d words
wrong_word d (Some keyword.State) words = wrong_in_state d
wrong_word d (Some keyword.Goal) words = wrong_in_goal d
wrong_word d (Some keyword.When) words = wrong_in_when d words
wrong_word d (Some (keyword.Command kind)) words = wrong_in_command d kind words
wrong_word d other words = opening

-- ---- a slot that its box hasn't

-- `link SLOT SLOT` in a part, and `link BOX SLOT SLOT`
abbrev pub no_slot_by_link : Declared → List (List ℕ) → ℕ
no_slot_by_link d words =
    if is_program_link d.section command.Link
    then (if lacks_slot d.names (open_box d) (slice_get words 0) then 1 else 2)
    else (if lacks_slot d.names (box_named d.names (slice_get words 0)) (slice_get words 1) then 2 else 3)

-- the place of the slot; in the lines that aren't named here one word stands before it
abbrev pub no_slot_place : Declared → Option Keyword → List (List ℕ) → ℕ
no_slot_place d (Some keyword.Goal) words = 1
no_slot_place d (Some (keyword.Command command.Link)) words = no_slot_by_link d words
no_slot_place d other words = 2

-- ---- a limit that is passed

-- `dev NAME CODEC ..`
abbrev pub passed_by_device : NameLists → Limit
passed_by_device names = if nat_le BOX_LIMIT (length names.boxes) then limit.Boxes else limit.ListedCodecs

-- the box is known, and has as many slots as it may have
abbrev pub is_full_box : NameLists → Option ℕ → Bool
is_full_box names None = false
is_full_box names (Some who) = is_full names who

-- `chan MEDIUM BOX SLOT BOX SLOT`
abbrev pub passed_by_channel : NameLists → List (List ℕ) → Limit
passed_by_channel names words =
    if is_full_box names (box_named names (slice_get words 1))
    || is_full_box names (box_named names (slice_get words 3))
    then limit.Slots
    else limit.Channels

-- `also MEDIUM SLOT SLOT`, between two boxes
abbrev pub passed_by_also : NameLists → Option (ℕ × ℕ) → Limit
passed_by_also names None = limit.Tunnels
passed_by_also names (Some ends) = if is_full names ends.0 || is_full names ends.1 then limit.Slots else limit.Tunnels

-- `when ..`, in a part
abbrev pub passed_by_when : Option PartState → Limit
passed_by_when None = limit.ToldWords
passed_by_when (Some part) =
    if nat_le TRANSITION_LIMIT (length part.transitions) then limit.Transitions else limit.ToldWords

-- the limit, of a line that may pass one
abbrev pub passed_limit : Declared → Option Keyword → List (List ℕ) → Detail
passed_limit d (Some keyword.Codec) words = detail.Limit limit.Codecs
passed_limit d (Some keyword.Dev) words = detail.Limit (passed_by_device d.names)
passed_limit d (Some keyword.Feat) words = detail.Limit limit.Boxes
passed_limit d (Some keyword.Send) words = detail.Limit limit.ListedCodecs
passed_limit d (Some keyword.Chan) words = detail.Limit (passed_by_channel d.names words)
passed_limit d (Some keyword.Also) words = detail.Limit (passed_by_also d.names (last_ends d.channels))
passed_limit d (Some keyword.Prog) words = detail.Limit limit.States
passed_limit d (Some keyword.When) words = detail.Limit (passed_by_when (open_part d))
passed_limit d (Some (keyword.Command kind)) words = detail.Limit limit.Commands
passed_limit d other words = detail.Nothing

-- ---- any line

-- what is known of the fault of a line of this kind
abbrev pub detail_by : Declared → Option Keyword → List (List ℕ) → (number : ℕ) → Detail
detail_by d kind words number =
    if number == UNDECLARED then detail.Word (undeclared_place d kind words) why.Undeclared
    else (if number == WRONG_WORD then wrong_word d kind words
    else (if number == NO_SUCH_SLOT then detail.Word (no_slot_place d kind words) why.NoSlot
    else (if number == LIMIT_PASSED then passed_limit d kind words
    else detail.Nothing)))

-- what is known of a line's fault beside the number of its rule, by all words of the line
abbrev pub detail_of : Declared → (words : List (List ℕ)) → (number : ℕ) → Detail
detail_of d words number = detail_by d (kind_of words) (drop 1 words) number
