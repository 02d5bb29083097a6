-- What each rule says to a person, and each stop.
use Rattle.std.specs.Prelude.{ℕ, ◌==◌, List, [], ◌∷◌, codes, if◌then◌else◌}
use Rattle.mc_replay.specs.declared.rule.TheConstants.{ENDS_EARLY, NOT_ENABLED, NOT_NEXT, NOT_SETTLED, NO_LINE}
use Rattle.mc_script.specs.declared.rule.TheConstants.{EXTRA_WORD, GIVEN_TWICE, LIMIT_PASSED, LINE_TOO_LONG, MISSING_WORD, NAME_TOO_LONG, NOT_SETTLED as NOT_SETTLED_BEFORE, NO_BEGIN, NO_SUCH_SLOT, NO_VERSION_LINE, SAME_BOX, SAME_SLOT, STRANGE_BYTE, TEXT_TOO_LONG, TWO_MEDIA, UNDECLARED, UNFINISHED, WRONG_VERSION, WRONG_WORD}

-- the sentence of the rule of this number, among rules with theirs
abbrev pub sentence_in : List (ℕ × List ℕ) → ℕ → List ℕ
sentence_in [] number = codes "no rule has this number"
sentence_in (rule ∷ rules) number = if rule.0 == number then rule.1 else sentence_in rules number

-- the rules on the lines of a text, each with its sentence
abbrev pub text_rules : List (ℕ × List ℕ)
text_rules = (
  TEXT_TOO_LONG,
  codes
      "the text is too long: it may have 1048576 bytes, and under check and why 16777216 with its journal",
)
    ∷ (LINE_TOO_LONG, codes "the line has more than 256 bytes")
    ∷ (STRANGE_BYTE, codes "the line has a byte that no text may have, such as a tab or a carriage return")
    ∷ (UNDECLARED, codes "the line names a codec, a box, a state or a told word that isn't declared")
    ∷ (WRONG_WORD, codes "a word of the line may not stand in its place")
    ∷ (MISSING_WORD, codes "a word is missing at the end of the line")
    ∷ (EXTRA_WORD, codes "the line has a word too many")
    ∷ (
      WRONG_VERSION,
      codes
          "the first version of a device must be a number from 1 to 4294967295, without a leading zero",
    )
    ∷ (
      GIVEN_TWICE,
      codes
          "a name is taken, a codec is listed twice, or a device gets a second send line, a box a second program, or a slot a second goal",
    )
    ∷ (SAME_BOX, codes "the channel has one box at both ends")
    ∷ (NO_SUCH_SLOT, codes "the box has no slot of that name")
    ∷ (SAME_SLOT, codes "the line links a slot to itself")
    ∷ (TWO_MEDIA, codes "the line links a slot for audio and one for video")
    ∷ (LIMIT_PASSED, codes "the line passes a limit of texts")
    ∷ (UNFINISHED, codes "the program that ends here lacks a state, or a state of it lacks the goal of a slot")
    ∷ (NO_BEGIN, codes "the text ends without a line begin, which must stand after what it declares, also where no command follows")
    ∷ (NO_VERSION_LINE, codes "the first line of a text must be media 1 or media 2")
    ∷ (NAME_TOO_LONG, codes "a new name has more than 16 bytes")
    ∷ (NOT_SETTLED_BEFORE, codes "commands stand before this line without a settle after them")
    ∷ []

-- the rules on journals
abbrev pub journal_rules : List (ℕ × List ℕ)
journal_rules =
    (NOT_ENABLED, codes "this turn can't happen here: look at what the turns before it left to its slot or its box")
    ∷ (NO_LINE, codes "a line that no journal may have: look for a misspelt word, or for a name that the text doesn't declare")
    ∷ (
      NOT_SETTLED,
      codes
          "not all is settled: a command, a signal, a retry or a step of a program is still to come, or links make a ring; or the script has no further settle",
    )
    ∷ (NOT_NEXT, codes "this command isn't the next one that the script has for its box: look at the order of the script")
    ∷ (ENDS_EARLY, codes "the journal ends before the script does: look for a settle that is missing at its end")
    ∷ []

-- what a rule of texts says, by its number
abbrev pub text_rule : ℕ → List ℕ
text_rule number = sentence_in text_rules number

-- and a rule of journals
abbrev pub journal_rule : ℕ → List ℕ
journal_rule number = sentence_in journal_rules number
