use Rattle.std.proofs.lemmas.Result.{on_ok_weaker}
use Rattle.mc_ladder_svg.proofs.Chains.{four}
use Rattle.mc_ladder_svg.proofs.arrow.put_picture.Goals as goal

pub returns : goal.returns
returns c = on_ok_weaker c.put_slot_names.result (λ last. four _ _ _ _ _ _ _ _ _ c.in_ok-put_bytes.ensures c.in_ok-put_arrow.ensures c.in_ok-put_words.ensures last) c.put_slot_names.ensures
