use Rattle.std.proofs.Common.{map, option_map, rules, string_bytes}
use Rattle.mc_words.specs.Arguments.{AreArguments, AreFew}
use Rattle.mc_words.proofs.WordsGiven.{asks_for_few, asks_if_none, asks_if_some}
use Rattle.mc_words.proofs.words.read_mode.Goals as goal

pub returns-clause-some : goal.returns-clause-some
returns-clause-some c =
    let texts = map string_bytes c.args.words.now in
    let arguments = c.in-Some.arguments in
    let are : AreArguments texts (option_map (λ s. s.now) arguments.first) (option_map (λ s. s.now) arguments.second) (option_map (λ s. s.now) arguments.third) arguments.journal = search rules in
    asks_if_some texts _ _ _ _ c.mode_of.result are c.mode_of.ensures.some

pub returns-clause-none : goal.returns-clause-none
returns-clause-none c =
    let texts = map string_bytes c.args.words.now in
    let arguments = c.in-Some.arguments in
    let are : AreArguments texts (option_map (λ s. s.now) arguments.first) (option_map (λ s. s.now) arguments.second) (option_map (λ s. s.now) arguments.third) arguments.journal = search rules in
    asks_if_none texts _ _ _ _ c.mode_of.result are c.mode_of.ensures.none

pub returns-in_default-clause-none : goal.returns-in_default-clause-none
returns-in_default-clause-none c =
    let not_few : AreFew (map string_bytes c.args.words.now) → ⊥ = search rules in
    asks_for_few (map string_bytes c.args.words.now) not_few
