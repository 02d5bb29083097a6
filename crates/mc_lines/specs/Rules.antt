-- The rules on the lines of a text, by their numbers: every rule is asked of every line, with what the lines before it
-- declared. The words are those after the first.
use Rattle.std.specs.Prelude.{ℕ, ◌+◌, ◌-◌, ◌==◌, ◌&&◌, ◌||◌, not, Bool, true, false, List, [], ◌∷◌, ◌++◌, Option, Some, None, codes, drop, if◌then◌else◌, length, nat_le, nat_lt}
use Rattle.std.specs.List.{list_any, slice_get}
use Rattle.std.specs.Option.{is_none, is_some, option_and_then, option_map, unwrap_or}
use Rattle.std.specs.Str.{bytes_eq}
use Rattle.mc_signal.specs.declared.Medium.{Medium}
use Rattle.mc_signal.specs.declared.Medium.TheVariants.{Audio, Video}
use Rattle.mc_text.specs.Lines.{words}
use Rattle.mc_text.specs.NameLists.{NameLists, place_of, slot_names}
use Rattle.mc_text.specs.Spelling.{is_digit, number_of}
use Rattle.mc_text.specs.declared.limit.TheConstants.{BOX_LIMIT, CODEC_LIMIT, SLOT_LIMIT}
use Rattle.mc_box.specs.BoxShapes.{BoxShapeState}
use Rattle.mc_script.specs.Places.{are_same, box_named, has, is_misspelt, is_no, is_overlong, lacks}
use Rattle.mc_script.specs.Rules.{begins_hash, byte_rules, command_word, is_no_device, kind_rules, least_broken}
use Rattle.mc_script.specs.declared.command.Command.{Command}
use Rattle.mc_script.specs.declared.command.Command.TheVariants.{Stimulus}
use Rattle.mc_script.specs.declared.keyword.CommandWord.{CommandWord}
use Rattle.mc_script.specs.declared.keyword.CommandWord.TheVariants as command
use Rattle.mc_script.specs.declared.rule.TheConstants.{EXTRA_WORD, GIVEN_TWICE, LIMIT_PASSED, MISSING_WORD, NAME_TOO_LONG, NOT_SETTLED, NO_BEGIN, NO_VERSION_LINE, SAME_BOX, TEXT_TOO_LONG, UNDECLARED, UNFINISHED, WRONG_VERSION, WRONG_WORD}
use Rattle.mc_program_lines.specs.Programs.{BlockState, block_goal_rules, block_link_rules, block_when_rules, in_block, is_unfinished_block, new_part_rules, new_program_rules}
use Rattle.mc_lines.specs.SoFar.{Declared}
use Rattle.mc_program_lines.specs.WordLists.{has_repeat}
use Rattle.mc_lines.specs.declared.section.Keyword.{Keyword}
use Rattle.mc_lines.specs.declared.section.Keyword.TheVariants as keyword
use Rattle.mc_lines.specs.declared.section.Section.{Section}
use Rattle.mc_lines.specs.declared.section.Section.TheVariants as section
use Rattle.mc_lines.specs.declared.tail.Tail.{Tail}
use Rattle.mc_lines.specs.declared.tail.Tail.TheVariants.{Nothing, Journal, Grow}
use Rattle.mc_plan.specs.Plans.{last_channel}
use Rattle.mc_model.specs.declared.channel.TheConstants.{TUNNEL_LIMIT}
use Rattle.mc_lines.specs.declared.limit.TheConstants.{CHANNEL_LIMIT, COMMAND_LIMIT, JOURNAL_TEXT_LIMIT, LIST_LIMIT, TEXT_LIMIT}

-- ---- limits

-- the most bytes of a text, with what stands after its commands
abbrev pub text_limit : Tail → ℕ
text_limit Nothing = TEXT_LIMIT
text_limit Journal = JOURNAL_TEXT_LIMIT
text_limit Grow = TEXT_LIMIT

-- how many bytes are read at most: one more than the limit
abbrev pub read_limit : Tail → ℕ
read_limit tail = text_limit tail + 1

-- ---- the end of the commands

-- a journal may stand after the commands
abbrev pub has_journal : Tail → Bool
has_journal Nothing = false
has_journal Journal = true
has_journal Grow = false

-- lines by which the network grows may
abbrev pub has_growth : Tail → Bool
has_growth Grow = true
has_growth other = false

-- `journal`, the only word
abbrev pub is_journal : List (List ℕ) → Bool
is_journal (first ∷ []) = bytes_eq first (codes "journal")
is_journal words = false

-- `grow`, the only word
abbrev pub is_grow : List (List ℕ) → Bool
is_grow (first ∷ []) = bytes_eq first (codes "grow")
is_grow words = false

-- the line ends the commands of a text: its only word is the one that does, where something may stand after them
abbrev pub ends_commands : Tail → List ℕ → Bool
ends_commands Nothing line = false
ends_commands Journal line = is_journal (words line)
ends_commands Grow line = is_grow (words line)

-- ---- sections and first words

-- the place of a section in the order
abbrev pub rank : Section → ℕ
rank section.Version = 0
rank section.Codecs = 1
rank section.Boxes = 2
rank section.Channels = 3
rank section.Programs = 4
rank section.Begin = 5
rank section.Commands = 6

-- a later section has begun than this one
abbrev pub is_late : Declared → Section → Bool
is_late d s = nat_lt (rank s) (rank d.section)

-- a word that opens a line after `begin`
abbrev pub keyword_of_script : List ℕ → Option Keyword
keyword_of_script word =
    if bytes_eq word (codes "journal") then Some keyword.Journal
    else (if bytes_eq word (codes "grow") then Some keyword.Grow
    else option_map (λ kind. keyword.Command kind) (command_word word))

-- a word that opens a line after the channels
abbrev pub keyword_of_program : List ℕ → Option Keyword
keyword_of_program word =
    if bytes_eq word (codes "prog") then Some keyword.Prog
    else (if bytes_eq word (codes "state") then Some keyword.State
    else (if bytes_eq word (codes "goal") then Some keyword.Goal
    else (if bytes_eq word (codes "when") then Some keyword.When
    else (if bytes_eq word (codes "begin") then Some keyword.Begin
    else keyword_of_script word))))

-- the word that opens a line; where `send`, `journal` and `grow` do so the rules of their lines say
abbrev pub keyword_of : List ℕ → Option Keyword
keyword_of word =
    if bytes_eq word (codes "media") then Some keyword.Media
    else (if bytes_eq word (codes "codec") then Some keyword.Codec
    else (if bytes_eq word (codes "dev") then Some keyword.Dev
    else (if bytes_eq word (codes "feat") then Some keyword.Feat
    else (if bytes_eq word (codes "send") then Some keyword.Send
    else (if bytes_eq word (codes "chan") then Some keyword.Chan
    else (if bytes_eq word (codes "also") then Some keyword.Also
    else keyword_of_program word))))))

-- the kind of line that these words open
abbrev pub kind_of : List (List ℕ) → Option Keyword
kind_of words = option_and_then keyword_of (slice_get words 0)

-- ---- values of words

abbrev pub spelt_medium : List ℕ → Option Medium
spelt_medium word =
    if bytes_eq word (codes "audio") then Some Audio else (if bytes_eq word (codes "video") then Some Video else None)

abbrev pub begins_digit : List ℕ → Bool
begins_digit [] = false
begins_digit (first ∷ others) = is_digit first

-- a `dev` line's words after the name, less a version
abbrev pub codec_words : List (List ℕ) → List (List ℕ)
codec_words [] = []
codec_words (first ∷ others) = if begins_digit first then others else first ∷ others

-- the version that a `dev` line gives isn't a number from 1 on
abbrev pub has_bad_version : List (List ℕ) → Bool
has_bad_version [] = false
has_bad_version (first ∷ others) = begins_digit first && not (nat_lt 0 (unwrap_or (number_of first) 0))

-- some word is no codec's name
abbrev pub lists_undeclared : NameLists → List (List ℕ) → Bool
lists_undeclared names words = list_any (λ word. is_none (place_of names.codecs word)) words

-- ---- codecs, boxes, channels

-- `codec NAME`
abbrev pub codec_rules : Declared → List (List ℕ) → List (ℕ × Bool)
codec_rules d words =
    (WRONG_WORD, is_late d section.Codecs || is_misspelt (slice_get words 0))
    ∷ (MISSING_WORD, is_none (slice_get words 0))
    ∷ (EXTRA_WORD, is_some (slice_get words 1))
    ∷ (GIVEN_TWICE, has d.names.codecs (slice_get words 0))
    ∷ (LIMIT_PASSED, nat_le CODEC_LIMIT (length d.names.codecs))
    ∷ (NAME_TOO_LONG, is_overlong (slice_get words 0))
    ∷ []

-- `dev NAME CODEC CODEC ..` or `dev NAME VERSION CODEC CODEC ..`
abbrev pub device_rules : Declared → List (List ℕ) → List (ℕ × Bool)
device_rules d words =
    let listed = codec_words (drop 1 words) in
    (UNDECLARED, lists_undeclared d.names listed)
    ∷ (WRONG_WORD, is_late d section.Boxes || is_misspelt (slice_get words 0))
    ∷ (MISSING_WORD, is_none (slice_get words 0))
    ∷ (WRONG_VERSION, has_bad_version (drop 1 words))
    ∷ (GIVEN_TWICE, has d.names.boxes (slice_get words 0) || has_repeat listed)
    ∷ (LIMIT_PASSED, nat_le BOX_LIMIT (length d.names.boxes) || nat_lt LIST_LIMIT (length listed))
    ∷ (NAME_TOO_LONG, is_overlong (slice_get words 0))
    ∷ []

-- `feat NAME`
abbrev pub feature_rules : Declared → List (List ℕ) → List (ℕ × Bool)
feature_rules d words =
    (WRONG_WORD, is_late d section.Boxes || is_misspelt (slice_get words 0))
    ∷ (MISSING_WORD, is_none (slice_get words 0))
    ∷ (EXTRA_WORD, is_some (slice_get words 1))
    ∷ (GIVEN_TWICE, has d.names.boxes (slice_get words 0))
    ∷ (LIMIT_PASSED, nat_le BOX_LIMIT (length d.names.boxes))
    ∷ (NAME_TOO_LONG, is_overlong (slice_get words 0))
    ∷ []

-- the box is known, and had a `send` line
abbrev pub has_sent : List ℕ → Option ℕ → Bool
has_sent senders None = false
has_sent senders (Some who) = list_any (λ sender. sender == who) senders

-- `send BOX CODEC CODEC ..`, of a device
abbrev pub send_rules : Declared → List (List ℕ) → List (ℕ × Bool)
send_rules d words =
    let who = box_named d.names (slice_get words 0) in
    (UNDECLARED, lacks d.names.boxes (slice_get words 0) || lists_undeclared d.names (drop 1 words))
    ∷ (WRONG_WORD, is_late d section.Boxes || is_no_device d.shape who)
    ∷ (MISSING_WORD, is_none (slice_get words 0))
    ∷ (GIVEN_TWICE, has_sent d.senders who || has_repeat (drop 1 words))
    ∷ (LIMIT_PASSED, nat_lt LIST_LIMIT (length (drop 1 words)))
    ∷ []

-- where send lists don't stand apart, `send` opens no line
abbrev pub send_line_rules : Declared → Bool → List (List ℕ) → List (ℕ × Bool)
send_line_rules d false words = (WRONG_WORD, true) ∷ []
send_line_rules d true words = send_rules d words

-- where a box is known, a test of its slots
abbrev pub of_slots : NameLists → Option ℕ → (List (List ℕ) → Bool) → Bool
of_slots names None test = false
of_slots names (Some who) test = test (slot_names names who)

-- `chan MEDIUM BOX SLOT BOX SLOT`
abbrev pub channel_rules : Declared → List (List ℕ) → List (ℕ × Bool)
channel_rules d words =
    let from = box_named d.names (slice_get words 1) in
    let to = box_named d.names (slice_get words 3) in
    (UNDECLARED, lacks d.names.boxes (slice_get words 1) || lacks d.names.boxes (slice_get words 3))
    ∷ (
      WRONG_WORD,
      is_late d section.Channels || is_no spelt_medium (slice_get words 0)
          || (is_some from && is_misspelt (slice_get words 2)) || (is_some to && is_misspelt (slice_get words 4)),
    )
    ∷ (MISSING_WORD, is_none (slice_get words 4))
    ∷ (EXTRA_WORD, is_some (slice_get words 5))
    ∷ (
      GIVEN_TWICE,
      of_slots d.names from (λ slots. has slots (slice_get words 2))
          || of_slots d.names to (λ slots. has slots (slice_get words 4)),
    )
    ∷ (SAME_BOX, are_same from to)
    ∷ (
      LIMIT_PASSED,
      of_slots d.names from (λ slots. nat_le SLOT_LIMIT (length slots))
          || of_slots d.names to (λ slots. nat_le SLOT_LIMIT (length slots)) || nat_le CHANNEL_LIMIT (length d.channels),
    )
    ∷ (
      NAME_TOO_LONG,
      (is_some from && is_overlong (slice_get words 2))
          || (is_some to && is_overlong (slice_get words 4)),
    )
    ∷ []

-- a box has as many slots as it may have
abbrev pub is_full : NameLists → ℕ → Bool
is_full names who = nat_le SLOT_LIMIT (length (slot_names names who))

-- `also MEDIUM SLOT SLOT`, of the two boxes of the last `chan` line
abbrev pub also_rules : Declared → List (List ℕ) → List (ℕ × Bool)
also_rules d words =
    let ends = last_channel d.channels in (
      WRONG_WORD,
      is_late d section.Channels || length d.channels == 0 || is_no spelt_medium (slice_get words 0)
          || is_misspelt (slice_get words 1) || is_misspelt (slice_get words 2),
    )
    ∷ (MISSING_WORD, is_none (slice_get words 2))
    ∷ (EXTRA_WORD, is_some (slice_get words 3))
    ∷ (
      GIVEN_TWICE,
      has (slot_names d.names ends.from) (slice_get words 1)
          || has (slot_names d.names ends.to) (slice_get words 2),
    )
    ∷ (LIMIT_PASSED, is_full d.names ends.from || is_full d.names ends.to || nat_le TUNNEL_LIMIT (length ends.tunnels))
    ∷ (NAME_TOO_LONG, is_overlong (slice_get words 1) || is_overlong (slice_get words 2))
    ∷ []

-- ---- programs

-- the shapes of the boxes, for commands
abbrev pub shapes : Declared → List BoxShapeState
shapes d = d.shape

-- the program whose lines these are: the last one, as long as no line of a later section came
abbrev pub block_in : Section → List BlockState → Option BlockState
block_in section.Programs blocks = slice_get blocks (length blocks - 1)
block_in other blocks = None

abbrev pub open_block : Declared → Option BlockState
open_block d = block_in d.section d.blocks

abbrev pub is_unfinished : Declared → Bool
is_unfinished d = is_unfinished_block (open_block d)

-- `prog BOX STATE STATE ..`
abbrev pub program_rules : Declared → List (List ℕ) → List (ℕ × Bool)
program_rules d words = new_program_rules d.names (shapes d) (is_late d section.Programs) (is_unfinished d) words

-- `state NAME`
abbrev pub state_rules : Declared → List (List ℕ) → List (ℕ × Bool)
state_rules d words = new_part_rules (is_late d section.Programs) (open_block d) words

-- ---- begin and commands

-- `begin`
abbrev pub begin_rules : Declared → List (List ℕ) → List (ℕ × Bool)
begin_rules d words =
    (WRONG_WORD, is_late d section.Begin) ∷ (EXTRA_WORD, is_some (slice_get words 0)) ∷ (UNFINISHED, is_unfinished d)
    ∷ []

-- `journal` opens a line after `begin`, where a journal may stand after the commands
abbrev pub journal_rules : Bool → List (List ℕ) → List (ℕ × Bool)
journal_rules false words = (WRONG_WORD, true) ∷ []
journal_rules true words = (EXTRA_WORD, is_some (slice_get words 0)) ∷ []

-- some command is one, and no settle
abbrev pub awaits_settle : Option Command → Bool
awaits_settle (Some (Stimulus turn)) = true
awaits_settle other = false

-- commands came since the last settle
abbrev pub is_pending : List Command → Bool
is_pending commands = awaits_settle (slice_get commands (length commands - 1))

-- `grow` opens a line after `begin` and after a settle, where lines by which the network grows may stand after the
-- commands
abbrev pub grow_rules : (may pending : Bool) → List (List ℕ) → List (ℕ × Bool)
grow_rules false pending words = (WRONG_WORD, true) ∷ []
grow_rules true pending words = (EXTRA_WORD, is_some (slice_get words 0)) ∷ (NOT_SETTLED, pending) ∷ []

-- a command, wherever it stands
abbrev pub command_line_rules : Declared → CommandWord → List (List ℕ) → List (ℕ × Bool)
command_line_rules d kind words =
    kind_rules d.names (shapes d) (Some kind) words
    ++ (LIMIT_PASSED, nat_le COMMAND_LIMIT (length d.commands))
    ∷ (UNFINISHED, is_unfinished d)
    ∷ []

-- ---- any line

-- a `link` line in the programs, which is a part's and no command
abbrev pub is_program_link : Section → CommandWord → Bool
is_program_link section.Programs command.Link = true
is_program_link other kind = false

abbrev pub program_link_rules : Declared → List (List ℕ) → List (ℕ × Bool)
program_link_rules d words = in_block (λ block. block_link_rules d.names (shapes d) block words) (open_block d)

abbrev pub rules_by : Declared → Option Keyword → List (List ℕ) → List (ℕ × Bool)
rules_by d (Some keyword.Codec) words = codec_rules d words
rules_by d (Some keyword.Dev) words = device_rules d words
rules_by d (Some keyword.Feat) words = feature_rules d words
rules_by d (Some keyword.Send) words = send_line_rules d d.sends_apart words
rules_by d (Some keyword.Chan) words = channel_rules d words
rules_by d (Some keyword.Also) words = also_rules d words
rules_by d (Some keyword.Prog) words = program_rules d words
rules_by d (Some keyword.State) words = state_rules d words
rules_by d (Some keyword.Goal) words = in_block (λ block. block_goal_rules d.names block words) (open_block d)
rules_by d (Some keyword.When) words = in_block (λ block. block_when_rules d.names block words) (open_block d)
rules_by d (Some keyword.Begin) words = begin_rules d words
rules_by d (Some keyword.Journal) words = journal_rules (d.begun && has_journal d.tail) words
rules_by d (Some keyword.Grow) words = grow_rules (d.begun && has_growth d.tail) (is_pending d.commands) words
rules_by d (Some (keyword.Command kind)) words =
    if is_program_link d.section kind then program_link_rules d words else command_line_rules d kind words
rules_by d other words = (WRONG_WORD, true) ∷ []

-- `media 1` or `media 2`, the two words
abbrev pub is_version : List (List ℕ) → Bool
is_version (first ∷ second ∷ []) =
    bytes_eq first (codes "media") && (bytes_eq second (codes "1") || bytes_eq second (codes "2"))
is_version words = false

-- the number of such a line is 2
abbrev pub is_second : List (List ℕ) → Bool
is_second (first ∷ second ∷ others) = bytes_eq second (codes "2")
is_second words = false

-- the rules on the words of a line that isn't skipped; the first such line is the version line, of which nothing else
-- is asked
abbrev pub words_rules : Bool → Declared → List (List ℕ) → List (ℕ × Bool)
words_rules false d words = (NO_VERSION_LINE, not (is_version words)) ∷ []
words_rules true d words = rules_by d (kind_of words) (drop 1 words)

-- a line without words, or one whose first word begins with #
abbrev pub is_skipped : List (List ℕ) → Bool
is_skipped [] = true
is_skipped (first ∷ others) = begins_hash first

abbrev pub line_words_rules : Bool → Declared → List (List ℕ) → List (ℕ × Bool)
line_words_rules true d words = []
line_words_rules false d words = words_rules d.versioned d words

-- the least number of the rules on its words that a line breaks
abbrev pub entry_fault : Declared → List (List ℕ) → Option ℕ
entry_fault d words = least_broken (line_words_rules (is_skipped words) d words)

-- the line holds the byte with which the text passes this limit; so many bytes stand before the line, and its end
-- belongs to it
abbrev pub passes_limit : (limit total before : ℕ) → List ℕ → Bool
passes_limit limit total before line = nat_lt limit total && nat_le before limit && nat_le limit (before + length line)

-- every rule on a line, in the order of their numbers
abbrev pub line_rules : ℕ → ℕ → Declared → List ℕ → List (ℕ × Bool)
line_rules total before d line =
    (TEXT_TOO_LONG, passes_limit (text_limit d.tail) total before line)
    ∷ (byte_rules line ++ line_words_rules (is_skipped (words line)) d (words line))

-- the least number of the rules that a line breaks
abbrev pub line_fault : ℕ → ℕ → Declared → List ℕ → Option ℕ
line_fault total before d line = least_broken (line_rules total before d line)

-- the rules on the end of a text, as on one more line
abbrev pub end_rules : Declared → List (ℕ × Bool)
end_rules d =
    (UNFINISHED, is_unfinished d) ∷ (NO_BEGIN, d.versioned && not d.begun) ∷ (NO_VERSION_LINE, not d.versioned) ∷ []

abbrev pub end_fault : Declared → Option ℕ
end_fault d = least_broken (end_rules d)
