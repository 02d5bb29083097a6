-- The rules on the lines after `grow`, by their numbers: every rule is asked of every line, with what the lines before
-- it declared. The words are those after the first.
use Rattle.std.specs.Prelude.{ℕ, ◌==◌, ◌||◌, Bool, true, false, List, [], ◌∷◌, ◌++◌, Option, Some, None, codes, drop, if◌then◌else◌, slice_index_or}
use Rattle.std.specs.List.{slice_get}
use Rattle.std.specs.Option.{is_none, is_some, option_and_then, option_map}
use Rattle.std.specs.Str.{bytes_eq}
use Rattle.mc_text.specs.Lines.{words}
use Rattle.mc_model.specs.Worlds.{ChannelState}
use Rattle.mc_box.specs.BoxShapes.{BoxShapeState, shape_of}
use Rattle.mc_plan.specs.Plans.{no_channel}
use Rattle.mc_script.specs.Places.{lacks}
use Rattle.mc_script.specs.Rules.{byte_rules, least_broken}
use Rattle.mc_script.specs.declared.keyword.CommandWord.{CommandWord}
use Rattle.mc_script.specs.declared.rule.TheConstants.{EXTRA_WORD, MISSING_WORD, NOT_SETTLED, NO_SUCH_SLOT, TEXT_TOO_LONG, UNDECLARED, WRONG_WORD}
use Rattle.mc_lines.specs.Joins.{also_broken, join_rules}
use Rattle.mc_lines.specs.Rules.{command_line_rules, is_pending, is_skipped, keyword_of, passes_limit, rules_by, text_limit}
use Rattle.mc_lines.specs.SoFar.{Declared}
use Rattle.mc_lines.specs.declared.section.Keyword.{Keyword}
use Rattle.mc_lines.specs.declared.section.Keyword.TheVariants as keyword
use Rattle.mc_lines.specs.declared.tail.Tail.TheVariants.{Grow}
use Rattle.mc_tail.specs.SoFar.{TailState, channel_named, is_cut, names_out}
use Rattle.mc_tail.specs.declared.keyword.TailKeyword.{TailKeyword}
use Rattle.mc_tail.specs.declared.keyword.TailKeyword.TheVariants as tail

-- ---- first words

-- a word that opens a line before `grow` as one that opens a line after it
abbrev pub tail_kind : Keyword → TailKeyword
tail_kind (keyword.Command kind) = tail.Command kind
tail_kind other = tail.Earlier other

-- the word that opens a line
abbrev pub tail_keyword : List ℕ → Option TailKeyword
tail_keyword word =
    if bytes_eq word (codes "join") then Some tail.Join
    else (if bytes_eq word (codes "cut") then Some tail.Cut else option_map tail_kind (keyword_of word))

-- the kind of line that these words open
abbrev pub tail_kind_of : List (List ℕ) → Option TailKeyword
tail_kind_of words = option_and_then tail_keyword (slice_get words 0)

-- ---- commands and cuts

-- a command of which no slot is out
abbrev pub tail_command_rules : TailState → CommandWord → List (List ℕ) → List (ℕ × Bool)
tail_command_rules t kind words =
    also_broken NO_SUCH_SLOT (names_out t kind words) (command_line_rules t.declared kind words)

-- a box that has a program
abbrev pub is_programmed : List BoxShapeState → ℕ → Bool
is_programmed shape who = (shape_of shape who).programmed

-- one of the boxes of a channel has a program
abbrev pub joins_programmed_at : List BoxShapeState → List ChannelState → ℕ → Bool
joins_programmed_at shape channels channel =
    is_programmed shape (slice_index_or channels channel no_channel).from
    || is_programmed shape (slice_index_or channels channel no_channel).to

-- the channel is known, and one does
abbrev pub joins_programmed : Declared → Option ℕ → Bool
joins_programmed d None = false
joins_programmed d (Some channel) = joins_programmed_at d.shape d.channels channel

-- `cut BOX SLOT`, of a channel without a program at either end
abbrev pub cut_word_rules : Declared → List (List ℕ) → List (ℕ × Bool)
cut_word_rules d words =
    (UNDECLARED, lacks d.names.boxes (slice_get words 0))
    ∷ (WRONG_WORD, joins_programmed d (channel_named d (slice_get words 0) (slice_get words 1)))
    ∷ (MISSING_WORD, is_none (slice_get words 1))
    ∷ (EXTRA_WORD, is_some (slice_get words 2))
    ∷ []

-- and of a slot that a channel has and that isn't out, after a settle
abbrev pub cut_channel_rules : TailState → Option ℕ → List (ℕ × Bool)
cut_channel_rules t channel =
    (NO_SUCH_SLOT, is_none channel || is_cut t.out channel) ∷ (NOT_SETTLED, is_pending t.declared.commands) ∷ []

abbrev pub cut_rules : TailState → List (List ℕ) → List (ℕ × Bool)
cut_rules t words =
    cut_word_rules t.declared words
    ++ cut_channel_rules t (channel_named t.declared (slice_get words 0) (slice_get words 1))

-- ---- any line

-- the fault is that of this rule
abbrev pub is_fault : ℕ → Option ℕ → Bool
is_fault number None = false
is_fault number (Some broken) = broken == number

-- a line that belongs before `grow`: where it names what isn't declared, that comes first
abbrev pub earlier_rules : Declared → Keyword → List (List ℕ) → List (ℕ × Bool)
earlier_rules d kind words =
    (UNDECLARED, is_fault UNDECLARED (least_broken (rules_by d (Some kind) words))) ∷ (WRONG_WORD, true) ∷ []

abbrev pub tail_rules : TailState → Option TailKeyword → List (List ℕ) → List (ℕ × Bool)
tail_rules t (Some tail.Join) words = join_rules t.declared words
tail_rules t (Some tail.Cut) words = cut_rules t words
tail_rules t (Some (tail.Command kind)) words = tail_command_rules t kind words
tail_rules t (Some (tail.Earlier kind)) words = earlier_rules t.declared kind words
tail_rules t None words = (WRONG_WORD, true) ∷ []

-- the rules on the words of a line, unless it is skipped
abbrev pub tail_words_rules : Bool → TailState → List (List ℕ) → List (ℕ × Bool)
tail_words_rules true t words = []
tail_words_rules false t words = tail_rules t (tail_kind_of words) (drop 1 words)

-- the least number of the rules on its words that a line breaks
abbrev pub tail_entry_fault : TailState → List (List ℕ) → Option ℕ
tail_entry_fault t words = least_broken (tail_words_rules (is_skipped words) t words)

-- every rule on a line of a text of `total` bytes, with so many before it
abbrev pub tail_line_rules : (total before : ℕ) → TailState → List ℕ → List (ℕ × Bool)
tail_line_rules total before t line =
    (TEXT_TOO_LONG, passes_limit (text_limit Grow) total before line)
    ∷ (byte_rules line ++ tail_words_rules (is_skipped (words line)) t (words line))

-- the least number of the rules that the line breaks
abbrev pub tail_line_fault : (total before : ℕ) → TailState → List ℕ → Option ℕ
tail_line_fault total before t line = least_broken (tail_line_rules total before t line)
