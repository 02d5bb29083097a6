use Rattle.std.proofs.Common.{◌++◌, ◌∷◌, ◌∙◌, List, [], ap, sym}
use Rattle.mc_signal.specs.declared.Tagged.{Tagged}
use Rattle.mc_divided.proofs.Tables.{next_taken}
use Rattle.mc_divided.proofs.whole.copy_of.Goals as goal

pub loop-place-preserved : goal.loop-place-preserved
loop-place-preserved c =
    next_taken c.args.signals.now.items c.loop-place.copy.items c.push.new.self.items c.loop-place.place c.get.result
    c.loop-place.invariant
    (c.push.ensures.items ∙ ap (λ (l : List Tagged). l ++ c.get.result ∷ []) c.in_ok-reserve.ensures.items)
    (sym c.get.ensures)
