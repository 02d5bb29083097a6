use Rattle.std.proofs.Common.{map, option_map, rules, string_bytes}
use Rattle.mc_livetop.proofs.Asking.{asks_if_none}
use Rattle.mc_words.specs.Arguments.{AreArguments}
use Rattle.mc_livetop.proofs.words.read_live.Goals as goal

pub returns-clause-none : goal.returns-clause-none
returns-clause-none c =
    let texts = map string_bytes c.args.words.now in
    let arguments = c.in-Some.arguments in
    let are : AreArguments texts (option_map (λ s. s.now) arguments.first) (option_map (λ s. s.now) arguments.second) (option_map (λ s. s.now) arguments.third) arguments.journal = search rules in
    asks_if_none c.args.words.now _ _ _ _ _ c.command_of.result are c.command_of.ensures c.operators_of-asked.ensures.none
