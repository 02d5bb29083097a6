use Rattle.std.proofs.lemmas.Result.{on_ok_weaker}
use Rattle.mc_ladder_svg.proofs.Chains.{four}
use Rattle.mc_ladder_svg.proofs.settle.put_opening_by.Goals as goal

pub returns : goal.returns
returns c = on_ok_weaker c.put_bytes.result (λ last. four _ _ _ _ _ _ _ _ _ c.in_ok-put_block_tag.ensures c.in_ok-put_block.ensures c.in_ok-put_uprights.ensures last) c.put_bytes.ensures
