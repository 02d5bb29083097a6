use Rattle.std.proofs.lemmas.Result.{on_ok_weaker}
use Rattle.mc_ladder_svg.proofs.Chains.{four}
use Rattle.mc_ladder_svg.proofs.arrow.put_title.Goals as goal

pub returns : goal.returns
returns c = on_ok_weaker c.put_signal.result (λ last. four _ _ _ _ _ _ _ _ _ c.in_ok-put_place.ensures c.in_ok-put_bytes.ensures c.in_ok-put_place-2.ensures last) c.put_signal.ensures
