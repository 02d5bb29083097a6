use Rattle.std.proofs.Common.{IfOk, subst, sym}
use Rattle.mc_top.specs.Top.{IsTextFor}
use Rattle.mc_words.specs.declared.words.Mode.{Mode}
use Rattle.mc_top.proofs.top.text_of.Goals as goal

pub returns-in-Run-clause-text : goal.returns-in-Run-clause-text
returns-in-Run-clause-text g c =
    subst (λ (m : Mode). IfOk c.read_up_to.result (λ text. IsTextFor m (g.S.Source.left c.args.source.now) text.items)) (sym c.in-Run.is) c.read_up_to.ensures.text

pub returns-in-One-clause-text : goal.returns-in-One-clause-text
returns-in-One-clause-text g c =
    subst (λ (m : Mode). IfOk c.read_up_to-in-One.result (λ text. IsTextFor m (g.S.Source.left c.args.source.now) text.items)) (sym c.in-One.is) c.read_up_to-in-One.ensures.text

pub returns-in-Conf-clause-text : goal.returns-in-Conf-clause-text
returns-in-Conf-clause-text g c =
    subst (λ (m : Mode). IfOk c.read_up_to-in-Conf.result (λ text. IsTextFor m (g.S.Source.left c.args.source.now) text.items)) (sym c.in-Conf.is) c.read_up_to-in-Conf.ensures.text

pub returns-in-Check-clause-text : goal.returns-in-Check-clause-text
returns-in-Check-clause-text g c =
    subst (λ (m : Mode). IfOk c.read_up_to-in-Check.result (λ text. IsTextFor m (g.S.Source.left c.args.source.now) text.items)) (sym c.in-Check.is) c.read_up_to-in-Check.ensures.text
