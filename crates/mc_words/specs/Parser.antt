-- The command by which words are parsed, and what its matches say.
use Rattle.std.specs.Prelude.{◌≡◌, Bool, true, List, Some, codes, nat_lt}
use Rattle.mc_words.specs.Arguments.{words_met}
use Rattle.clap.specs.Words.{App, Row, Rule, Text, count_of, first_of, new_app, new_rule, with_rule}
use Rattle.clap.specs.declared.builder.action.ArgAction.TheVariants.{Count}

-- a flag that is counted
abbrev pub journal_rule : Rule
journal_rule = record (new_rule (codes "journal")) { long = Some (codes "journal"); action = Some Count }

-- the words' command: a counted flag and three plain words, without help
abbrev pub words_command : App
words_command =
    let named = new_app (codes "mediactl") in
    let bare : App = record named { top = record named.top { no_binary_name = true; disable_help_flag = true } } in
    with_rule (with_rule (with_rule (with_rule bare journal_rule) (new_rule (codes "first")))
    (new_rule (codes "second"))) (new_rule (codes "third"))

-- the rows of a parse have these plain words, and say whether the flag was met
pub record HasWords (plain : List Text) (journal : Bool) (rows : List Row) : Type 0 where
  pub words : words_met (first_of (codes "first") rows) (first_of (codes "second") rows) (first_of (codes "third") rows)
      ≡ plain
  pub flag : nat_lt 0 (count_of (codes "journal") rows) ≡ journal
