use Rattle.std.proofs.lemmas.Result.{on_ok_weaker}
use Rattle.mc_ladder_svg.proofs.Chains.{two}
use Rattle.mc_ladder_svg.proofs.arrow.put_slot_names.Goals as goal

pub returns : goal.returns
returns c = on_ok_weaker c.put_far_name.result (λ last. two _ _ _ _ _ c.in_ok-put_near_name.ensures last) c.put_far_name.ensures
