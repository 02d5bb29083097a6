use Rattle.std.proofs.Common.{◌++◌, ◌∙◌, List, ℕ, ap}
use Rattle.std.proofs.lemmas.Result.{on_ok_weaker}
use Rattle.mc_explain.specs.Quotes.{told_line}
use Rattle.mc_explain.proofs.Faults.{most_is}
use Rattle.mc_explain.proofs.hints.put_most.Goals as goal

pub returns : goal.returns
returns c =
    on_ok_weaker c.put_line.result
    (λ ends. ends ∙ ap (λ (sentence : List ℕ). c.args.out.now.items ++ told_line sentence)
    (most_is c.args.most c.args.whole.now c.args.parts.now c.deref.result.now (c.deref.ensures ∙ c.in_ok-sentence.ensures.ok)))
    c.put_line.ensures
