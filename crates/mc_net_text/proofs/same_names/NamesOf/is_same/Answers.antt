use Rattle.std.proofs.Common.{◌≡◌, [], arith, sym, ◌∙◌, rules}
use Rattle.std.proofs.lemmas.List.{take_more_same}
use Rattle.mc_net_text.specs.Names.{names_in}
use Rattle.mc_net_text.proofs.same_names.NamesOf.is_same.Goals as goal

pub loop-number-preserved : goal.loop-number-preserved
loop-number-preserved c =
    let here : c.name.result.now ≡ c.name-in-loop-number.result.now = search rules in
    take_more_same (names_in c.args.names.now c.args.self) (names_in c.args.other.now c.args.self) c.loop-number.number []
    (omega (arith, c.count-count.ensures.count)) (omega (arith, c.count.ensures.count, c.if-count.false)) c.loop-number.invariant (sym c.name.ensures ∙ (here ∙ c.name-in-loop-number.ensures))
