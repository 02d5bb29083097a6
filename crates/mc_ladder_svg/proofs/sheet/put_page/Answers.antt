use Rattle.std.proofs.lemmas.Result.{on_ok_weaker}
use Rattle.mc_ladder_svg.proofs.Chains.{five}
use Rattle.mc_ladder_svg.proofs.sheet.put_page.Goals as goal

pub returns : goal.returns
returns c = on_ok_weaker c.put_bytes.result (λ last. five _ _ _ _ _ _ _ _ _ _ _ c.in_ok-put_size.ensures c.in_ok-put_style_sheet.ensures c.in_ok-put_ground.ensures c.in_ok-put_uprights.ensures last) c.put_bytes.ensures
