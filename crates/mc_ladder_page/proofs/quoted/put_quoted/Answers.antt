use Rattle.std.proofs.lemmas.Result.{on_ok_weaker}
use Rattle.mc_ladder_page.proofs.Chains.{three}
use Rattle.mc_ladder_page.proofs.quoted.put_quoted.Goals as goal

pub returns : goal.returns
returns c = on_ok_weaker c.put_bytes-3.result (λ last. three _ _ _ _ _ _ _ c.in_ok-put_bytes.ensures c.in_ok-put_bytes-2.ensures last) c.put_bytes-3.ensures
