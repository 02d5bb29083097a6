use Rattle.std.proofs.Common.{map, rules, string_bytes}
use Rattle.clap.specs.Words.{found_of, rows_of}
use Rattle.mc_words.specs.Arguments.{HasNoOtherFlag, has_journal_flag, plain_words}
use Rattle.mc_words.specs.Parser.{HasWords}
use Rattle.mc_words.proofs.Parsed.{arguments_are}
use Rattle.mc_words.proofs.arguments.read_arguments.Goals as goal

pub returns-clause-some : goal.returns-clause-some
returns-clause-some c =
    let texts = map string_bytes c.args.words.now in
    let has : HasWords (plain_words texts) (has_journal_flag texts) (rows_of (found_of c.in-Some.matches)) × HasNoOtherFlag texts = search rules in
    arguments_are texts c.in-Some.matches _ _ _ _ has c.get_str.ensures c.get_str-2.ensures c.get_str-3.ensures c.get_count.ensures.value
