use Rattle.std.proofs.Common.{◌+◌, ◌++◌, ◌∷◌, [], refl, ap, ◌∙◌}
use Rattle.mc_part.proofs.Turned.{turned}
use Rattle.mc_part.proofs.part.Part.turn.Goals as goal

pub returns-clause-made : goal.returns-clause-made
returns-clause-made g c =
    let a = c.args.self.now in
    turned a (record a { engine = c.step.new.self; stamp = c.max-stamp.result + 1; log = c.push.new.self }) c.args.who c.args.event
    c.keeps.ensures.lanes c.in_ok-step.ensures.ok (ap (λ n. n + 1) c.max-stamp.ensures)
    (c.push.ensures.items ∙ ap (λ l. l ++ record { stamp = c.max-stamp.result + 1; who = c.args.who; event = c.args.event } ∷ []) c.reserve.ensures.items) refl
