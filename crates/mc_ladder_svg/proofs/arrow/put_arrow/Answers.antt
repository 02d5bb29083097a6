use Rattle.std.proofs.lemmas.Result.{on_ok_weaker}
use Rattle.mc_ladder_svg.proofs.Chains.{three}
use Rattle.mc_ladder_svg.proofs.arrow.put_arrow.Goals as goal

pub returns : goal.returns
returns c = on_ok_weaker c.put_end.result (λ last. three _ _ _ _ _ _ _ c.in_ok-put_line.ensures c.in_ok-put_dot.ensures last) c.put_end.ensures
