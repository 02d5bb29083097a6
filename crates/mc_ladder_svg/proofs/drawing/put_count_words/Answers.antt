use Rattle.std.proofs.lemmas.Result.{on_ok_weaker}
use Rattle.mc_ladder_svg.proofs.Chains.{three}
use Rattle.mc_ladder_svg.proofs.drawing.put_count_words.Goals as goal

pub returns : goal.returns
returns c = on_ok_weaker c.put_bytes.result (λ last. three _ _ _ _ _ _ _ c.in_ok-put_count_text.ensures c.in_ok-put_count_text-2.ensures last) c.put_bytes.ensures
