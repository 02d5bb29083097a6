use Rattle.std.proofs.Common.{◌≡◌, false, arith}
use Rattle.std.proofs.lemmas.Grind.{common_steps}
use Rattle.mc_net_text.proofs.Alike.{each, refuted}
use Rattle.mc_net_text.proofs.same.are_same.Goals as goal

pub returns-then-not-is_same : goal.returns-then-not-is_same
returns-then-not-is_same g c = λ same.
    let not_same : c.is_same.result ≡ false = grind (arith, common_steps) in
    refuted c.is_same.result c.is_same.ensures not_same
    (each g.T.Compared.seen c.args.list.now c.args.other.now c.loop-k.k c.index-list-k.result c.index-other-k.result
    (omega arith) (omega arith) c.index-list-k.is c.index-other-k.is same)
