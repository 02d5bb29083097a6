use Rattle.std.proofs.Common.{◌++◌, ◌∙◌, List, ℕ, ap, ap₂, codes}
use Rattle.std.proofs.lemmas.Result.{on_ok_weaker}
use Rattle.mc_slot.specs.declared.Slot.{Slot}
use Rattle.mc_table.specs.Words.{medium_word}
use Rattle.mc_ladder_page.specs.Cells.{quoted}
use Rattle.mc_ladder_page.specs.Data.{entry_opening}
use Rattle.mc_ladder_page.proofs.Chains.{four}
use Rattle.mc_ladder_page.proofs.network.put_slot_by.Goals as goal

pub returns : goal.returns
returns c =
    on_ok_weaker c.put_bytes.result
    (λ last. four _ _ _ _ _ _ _ _ _ c.in_ok-put_opening.ensures c.in_ok-put_quoted.ensures c.in_ok-put_quoted-2.ensures last
    ∙ ap₂ (λ (name medium : List ℕ). c.args.out.now.items ++ (entry_opening c.args.who ++ quoted name ++ quoted medium ++ codes "]"))
    c.slot_word.ensures.name (c.medium_word.ensures ∙ ap (λ (s : Slot). medium_word s.medium) c.slot.ensures))
    c.put_bytes.ensures
