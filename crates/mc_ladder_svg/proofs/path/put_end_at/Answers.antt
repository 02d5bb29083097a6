use Rattle.std.proofs.lemmas.Result.{on_ok_weaker}
use Rattle.mc_ladder_svg.proofs.Chains.{two}
use Rattle.mc_ladder_svg.proofs.path.put_end_at.Goals as goal

pub returns : goal.returns
returns c = on_ok_weaker c.put_told.result (λ last. two _ _ _ _ _ c.in_ok-put_goal.ensures last) c.put_told.ensures
