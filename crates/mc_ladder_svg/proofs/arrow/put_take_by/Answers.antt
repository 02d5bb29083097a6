use Rattle.std.proofs.lemmas.Result.{on_ok_weaker}
use Rattle.mc_ladder_svg.proofs.Chains.{four}
use Rattle.mc_ladder_svg.proofs.arrow.put_take_by.Goals as goal

pub returns : goal.returns
returns c = on_ok_weaker c.put_row_end.result (λ last. four _ _ _ _ _ _ _ _ _ c.in_ok-put_opening.ensures c.in_ok-put_title.ensures c.in_ok-put_picture.ensures last) c.put_row_end.ensures
