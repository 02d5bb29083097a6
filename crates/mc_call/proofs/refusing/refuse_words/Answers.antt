use Rattle.std.proofs.Common.{map, string_bytes}
use Rattle.mc_call.specs.Answers.{TellsNothing}
use Rattle.mc_call.proofs.Answering.{answers_delivered}
use Rattle.mc_call.proofs.Explaining.{told_usage}
use Rattle.mc_call.proofs.refusing.refuse_words.Goals as goal
use Rattle.mc_words.specs.Help.{asks_for_help}

pub returns-clause-answers : goal.returns-clause-answers
returns-clause-answers g c =
    answers_delivered _ _ _ _ _ _ _ _ _ _ c.deliver.ensures.due
    (λ old new appends. told_usage TellsNothing (asks_for_help (map string_bytes c.args.words.now)) old new c.deliver.result.journal.items)
    c.deliver.ensures.delivers c.deliver.ensures.due (rw c.usage_reason.ensures at c.deliver.ensures.reason) c.deliver.ensures.fault
