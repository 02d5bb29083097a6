use Rattle.std.proofs.lemmas.Result.{on_ok_weaker}
use Rattle.std.proofs.Common.{◌∙◌, ap, rules}
use Rattle.mc_explain.specs.Hints.{form_of}
use Rattle.mc_explain.proofs.Faults.{form_told}
use Rattle.mc_explain.proofs.hints.put_form.Goals as goal

pub returns : goal.returns
returns c =
    on_ok_weaker c.put_line.result
    (form_told c.args.number c.args.line.now c.form_of-form.result.now c.deref.result.now c.args.out.now.items c.put_line.new.out.items
    (search rules) (c.form_of-form.ensures ∙ ap form_of c.first_word.ensures) (c.deref.ensures ∙ c.in_ok-sentence.ensures.ok))
    c.put_line.ensures
