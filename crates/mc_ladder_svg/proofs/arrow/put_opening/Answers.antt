use Rattle.std.proofs.lemmas.Result.{on_ok_weaker}
use Rattle.mc_ladder_svg.proofs.Chains.{four}
use Rattle.mc_ladder_svg.proofs.arrow.put_opening.Goals as goal

pub returns : goal.returns
returns c = on_ok_weaker c.put_row_place.result (λ last. four _ _ _ _ _ _ _ _ _ c.in_ok-put_row_start.ensures c.in_ok-put_box_class.ensures c.in_ok-put_box_class-2.ensures last) c.put_row_place.ensures
