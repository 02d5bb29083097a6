-- What else helps where a line breaks a rule: the word at fault, the limit that was passed, and the form of such a
-- line.
use Rattle.std.specs.Prelude.{ℕ, ◌==◌, ◌||◌, Bool, List, [], ◌∷◌, ◌++◌, codes, flat_map, get_or, if◌then◌else◌}
use Rattle.std.specs.Fmt.{decimal}
use Rattle.std.specs.Str.{bytes_eq}
use Rattle.mc_explain.specs.Quotes.{escaped}
use Rattle.mc_lines.specs.declared.detail.Detail.{Detail}
use Rattle.mc_lines.specs.declared.detail.Detail.TheVariants as detail
use Rattle.mc_lines.specs.declared.detail.Limit.{Limit}
use Rattle.mc_lines.specs.declared.detail.Limit.TheVariants as limit
use Rattle.mc_lines.specs.declared.detail.Why.{Why}
use Rattle.mc_lines.specs.declared.detail.Why.TheVariants as why
use Rattle.mc_lines.specs.declared.limit.TheConstants.{CHANNEL_LIMIT, COMMAND_LIMIT, LIST_LIMIT}
use Rattle.mc_model.specs.declared.channel.TheConstants.{TUNNEL_LIMIT}
use Rattle.mc_program_lines.specs.declared.limit.TheConstants.{STATE_LIMIT, TRANSITION_LIMIT}
use Rattle.mc_script.specs.declared.rule.TheConstants.{EXTRA_WORD, MISSING_WORD, NO_SUCH_SLOT, UNDECLARED, WRONG_VERSION, WRONG_WORD}
use Rattle.mc_text.specs.Lines.{words}
use Rattle.mc_text.specs.declared.limit.TheConstants.{BOX_LIMIT, CODEC_LIMIT, SLOT_LIMIT, TOLD_LIMIT}

-- what is said of the lines that a word opens, among words with that
abbrev pub said_of : List (List ℕ × List ℕ) → (word : List ℕ) → List ℕ
said_of [] word = codes "no line of a text begins with this word"
said_of (entry ∷ entries) word = if bytes_eq entry.0 word then entry.1 else said_of entries word

-- the form of the lines that a word opens
abbrev pub forms : List (List ℕ × List ℕ)
forms =
    (codes "media", codes "media 1, or media 2: the first line alone")
    ∷ (codes "codec", codes "codec NAME")
    ∷ (codes "dev", codes "dev NAME CODEC .., or dev NAME VERSION CODEC ..")
    ∷ (codes "feat", codes "feat NAME")
    ∷ (codes "send", codes "send DEVICE CODEC .., in version 2 alone")
    ∷ (codes "chan", codes "chan MEDIUM BOX SLOT BOX SLOT, with audio or video for MEDIUM")
    ∷ (codes "also", codes "also MEDIUM SLOT SLOT, after a chan line")
    ∷ (codes "prog", codes "prog FEATURE STATE STATE ..")
    ∷ (codes "state", codes "state STATE, in the order of the prog line")
    ∷ (codes "goal", codes "goal SLOT GOAL after a state line, with open, close or hold for GOAL")
    ∷ (
      codes "when",
      codes
          "when told WORD STATE, or when is SLOT IT STATE with closed, opening, opened, flowing or closing for IT, after a state line",
    )
    ∷ (codes "begin", codes "begin, once")
    ∷ (codes "journal", codes "journal, after the commands, under check and why alone")
    ∷ (codes "set", codes "set BOX SLOT GOAL after begin, with open, close or hold for GOAL")
    ∷ (codes "link", codes "link FEATURE SLOT SLOT after begin, or link SLOT SLOT after a state line")
    ∷ (codes "hear", codes "hear DEVICE SLOT on, or hear DEVICE SLOT off, after begin")
    ∷ (codes "talk", codes "talk DEVICE SLOT on, or talk DEVICE SLOT off, after begin")
    ∷ (codes "tell", codes "tell FEATURE WORD after begin, for a feature with a program")
    ∷ (codes "settle", codes "settle, after begin")
    ∷ (codes "grow", codes "grow, after the commands, under grow alone")
    ∷ (codes "join", codes "join MEDIUM BOX SLOT BOX SLOT after grow, with audio or video for MEDIUM")
    ∷ (codes "cut", codes "cut BOX SLOT, after grow")
    ∷ []

abbrev pub form_of : List ℕ → List ℕ
form_of word = said_of forms word

-- the first word of a line
abbrev pub first_word : List ℕ → List ℕ
first_word line = get_or (words line) 0 []

-- the form of such a line helps with the rule
abbrev pub wants_form : ℕ → Bool
wants_form number =
    number == UNDECLARED || number == WRONG_WORD || number == MISSING_WORD || number == EXTRA_WORD
    || number == WRONG_VERSION || number == NO_SUCH_SLOT

-- the form of lines like this one, where it helps with the rule
abbrev pub form_hint : ℕ → (line : List ℕ) → List (List ℕ)
form_hint number line = if wants_form number then (codes "such a line: " ++ form_of (first_word line)) ∷ [] else []

-- ---- the word at fault, and the limit

-- why a word is at fault
abbrev pub why_says : Why → List ℕ
why_says why.Undeclared = codes "it isn't declared"
why_says why.NoSlot = codes "the box has no slot of that name"
why_says why.Opening = codes "no line may begin with it here"
why_says why.Fixed = codes "another word must stand in its place"
why_says why.Misspelt = codes "a name begins with a small letter, and has small letters, digits, - and _ alone"
why_says why.NotNext = codes "another state of the prog line is next"
why_says why.NoDevice = codes "this box is no device"
why_says why.NoFeature = codes "this box is no feature"
why_says why.NoProgram = codes "this box has no program"

-- how many parts a whole may have
abbrev pub at_most : (whole : List ℕ) → (most : ℕ) → (parts : List ℕ) → List ℕ
at_most whole most parts = whole ++ codes " has at most " ++ decimal most ++ codes " " ++ parts

-- which limit was passed, and its value
abbrev pub limit_says : Limit → List ℕ
limit_says limit.Codecs = at_most (codes "a text") CODEC_LIMIT (codes "codecs")
limit_says limit.ListedCodecs = at_most (codes "a dev or send line") LIST_LIMIT (codes "codecs")
limit_says limit.Boxes = at_most (codes "a text") BOX_LIMIT (codes "boxes")
limit_says limit.Channels = at_most (codes "a text") CHANNEL_LIMIT (codes "channels")
limit_says limit.Tunnels = at_most (codes "a channel") TUNNEL_LIMIT (codes "tunnels")
limit_says limit.Slots = at_most (codes "a box") SLOT_LIMIT (codes "slots")
limit_says limit.States = at_most (codes "a program") STATE_LIMIT (codes "states")
limit_says limit.Transitions = at_most (codes "a state") TRANSITION_LIMIT (codes "transitions")
limit_says limit.ToldWords = at_most (codes "a text") TOLD_LIMIT (codes "told words")
limit_says limit.Commands = at_most (codes "a text") COMMAND_LIMIT (codes "commands")

-- the word at a place of a line, counted from 0
abbrev pub word_at : (line : List ℕ) → (place : ℕ) → List ℕ
word_at line place = get_or (words line) place []

-- a word, as a terminal can show it, and why it is at fault
abbrev pub word_says : List ℕ → Why → List ℕ
word_says word why = codes "at fault is " ++ flat_map escaped word ++ codes ": " ++ why_says why

-- what is known of a fault beside its rule
abbrev pub detail_hint : Detail → (line : List ℕ) → List (List ℕ)
detail_hint detail.Nothing line = []
detail_hint (detail.Word place why) line = word_says (word_at line place) why ∷ []
detail_hint (detail.Limit limit) line = (codes "the limit: " ++ limit_says limit) ∷ []

-- what helps with a rule that the line breaks: the word at fault or the limit, and the form of such a line
abbrev pub hints : ℕ → (line : List ℕ) → Detail → List (List ℕ)
hints number line detail = detail_hint detail line ++ form_hint number line
