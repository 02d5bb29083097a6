use Rattle.std.proofs.Common.{◌++◌, ◌∙◌, List, ℕ, ap}
use Rattle.std.proofs.lemmas.Result.{on_ok_weaker}
use Rattle.mc_explain.specs.Quotes.{told_line}
use Rattle.mc_explain.proofs.Faults.{line_fault_is}
use Rattle.mc_explain.proofs.explanation.put_line_fault.Goals as goal

pub returns : goal.returns
returns c =
    on_ok_weaker c.put_line.result
    (λ ends. ends ∙ ap (λ (sentence : List ℕ). c.args.out.now.items ++ told_line sentence) (line_fault_is c.args.number c.args.turns c.args.line c.journal_rule-rule.result.now c.deref.result.now c.journal_rule-rule.ensures (c.deref.ensures ∙ c.in_ok-sentence.ensures.ok)))
    c.put_line.ensures
