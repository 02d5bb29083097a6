use Rattle.std.proofs.Common.{◌≡◌, ◌++◌, ◌∷◌, [], List, ◌∙◌, ap, sym, take, rules, arith}
use Rattle.std.proofs.lemmas.List.{take_more}
use Rattle.std.proofs.lemmas.Option.{get_or_from_slice_get}
use Rattle.mc_worker.specs.declared.logged.Logged.{Logged}
use Rattle.mc_team.proofs.round.copy_of.Goals as goal

pub loop-index-preserved : goal.loop-index-preserved
loop-index-preserved c =
    let log : List Logged = c.args.log.now.items in
    let items : c.push.new.self.items ≡ c.loop-index.copy.items ++ c.get.result ∷ [] = search rules in
    let same = get_or_from_slice_get log c.loop-index.index c.get.result c.get.result (sym c.get.ensures) in
    items
    ∙ (ap (λ (l : List Logged). l ++ c.get.result ∷ []) c.loop-index.invariant
    ∙ (ap (λ (entry : Logged). take c.loop-index.index log ++ entry ∷ []) (sym same)
    ∙ sym (take_more log c.loop-index.index c.get.result (omega arith))))
