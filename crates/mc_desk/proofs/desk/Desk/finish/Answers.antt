use Rattle.std.proofs.Common.{◌∙◌, ap, sym, length}
use Rattle.std.proofs.lemmas.List.{length-map}
use Rattle.mc_desk.specs.declared.log.Log.{Log}
use Rattle.mc_desk.specs.Desks.{accepted_of}
use Rattle.mc_desk.proofs.Gathering.{count_is}
use Rattle.mc_desk.proofs.desk.Desk.finish.Goals as goal

pub drain-requires-clause-back : goal.drain-requires-clause-back
drain-requires-clause-back g c =
    ap (λ (l : Log). length l.known) c.gather.ensures.view
    ∙ (length-map c.args.operators.items accepted_of ∙ (count_is c.args.self c.args.operators.items c.requires.operators ∙ (sym c.requires.taker.operators ∙ sym (ap (λ (l : Log). l.made) c.gather.ensures.view))))
