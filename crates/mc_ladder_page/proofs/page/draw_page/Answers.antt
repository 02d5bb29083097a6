use Rattle.mc_ladder_page.proofs.Chains.{whole}
use Rattle.mc_ladder_page.proofs.page.draw_page.Goals as goal

pub returns : goal.returns
returns c =
    whole _ _ _ _ _ _ _ _ _ _ c.in_ok-page.ensures.items c.in_ok-put_bytes.ensures c.in_ok-put_bytes-2.ensures c.in_ok-put_data.ensures c.in_ok-put_bytes-3.ensures
