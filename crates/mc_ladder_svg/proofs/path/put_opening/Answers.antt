use Rattle.std.proofs.lemmas.Result.{on_ok_weaker}
use Rattle.mc_ladder_svg.proofs.Chains.{three}
use Rattle.mc_ladder_svg.proofs.path.put_opening.Goals as goal

pub returns : goal.returns
returns c = on_ok_weaker c.put_place.result (λ last. three _ _ _ _ _ _ _ c.in_ok-put_start.ensures c.in_ok-put_boxes.ensures last) c.put_place.ensures
