use Rattle.std.proofs.lemmas.Result.{on_ok_weaker}
use Rattle.mc_ladder_page.proofs.Chains.{three}
use Rattle.mc_ladder_page.proofs.row.put_row_by.Goals as goal

pub returns : goal.returns
returns c = on_ok_weaker c.put_bytes.result (λ last. three _ _ _ _ _ _ _ c.in_ok-put_row_name.ensures c.in_ok-put_changes.ensures last) c.put_bytes.ensures
