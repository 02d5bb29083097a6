use Rattle.std.proofs.Common.{◌++◌, ◌∙◌, List, ℕ, ap, ap₂, codes}
use Rattle.std.proofs.lemmas.Result.{on_ok_weaker}
use Rattle.mc_ladder_page.specs.Cells.{quoted}
use Rattle.mc_ladder_page.specs.Data.{entry_opening, kind_word}
use Rattle.mc_ladder_page.proofs.Chains.{four}
use Rattle.mc_ladder_page.proofs.network.put_box.Goals as goal

pub returns : goal.returns
returns c =
    on_ok_weaker c.put_bytes.result
    (λ last. four _ _ _ _ _ _ _ _ _ c.in_ok-put_opening.ensures c.in_ok-put_quoted.ensures c.in_ok-put_quoted-2.ensures last
    ∙ ap₂ (λ (name kind : List ℕ). c.args.out.now.items ++ (entry_opening c.args.who ++ quoted name ++ quoted kind ++ codes "]"))
    c.box_word.ensures.name (c.kind_word.ensures ∙ ap kind_word c.is_device_at.ensures))
    c.put_bytes.ensures
