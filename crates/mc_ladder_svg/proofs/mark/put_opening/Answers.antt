use Rattle.std.proofs.lemmas.Result.{on_ok_weaker}
use Rattle.mc_ladder_svg.proofs.Chains.{three}
use Rattle.mc_ladder_svg.proofs.mark.put_opening.Goals as goal

pub returns : goal.returns
returns c = on_ok_weaker c.put_row_place.result (λ last. three _ _ _ _ _ _ _ c.in_ok-put_row_start.ensures c.in_ok-put_box_class.ensures last) c.put_row_place.ensures
