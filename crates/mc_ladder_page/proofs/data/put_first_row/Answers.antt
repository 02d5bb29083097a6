use Rattle.std.proofs.lemmas.Result.{on_ok_weaker}
use Rattle.mc_ladder_page.proofs.Chains.{three}
use Rattle.mc_ladder_page.proofs.data.put_first_row.Goals as goal

pub returns : goal.returns
returns c = on_ok_weaker c.put_bytes-2.result (λ last. three _ _ _ _ _ _ _ c.in_ok-put_bytes.ensures c.in_ok-put_changes.ensures last) c.put_bytes-2.ensures
