use Rattle.std.proofs.lemmas.Result.{on_ok_weaker}
use Rattle.mc_ladder_svg.proofs.Chains.{four}
use Rattle.mc_ladder_svg.proofs.drawing.put_picture.Goals as goal

pub returns : goal.returns
returns c = on_ok_weaker c.put_bytes-3.result (λ last. four _ _ _ _ _ _ _ _ _ c.in_ok-put_opening.ensures c.in_ok-put_bytes.ensures c.in_ok-put_bytes-2.ensures last) c.put_bytes-3.ensures
