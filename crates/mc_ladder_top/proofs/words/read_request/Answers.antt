use Rattle.std.proofs.Common.{◌∙◌, IfNone, ap, map, string_bytes, subst, sym}
use Rattle.std.proofs.lemmas.Result.{IfOk-weaker}
use Rattle.mc_ladder_top.specs.Words.{AreTaken}
use Rattle.mc_ladder_top.proofs.Taking.{asked_none, asked_some, asks_for_it, by_parts, refused, taken}
use Rattle.mc_ladder_top.proofs.words.read_request.Goals as goal

pub returns-in_ok-boxes-in-Ok-clause-some : goal.returns-in_ok-boxes-in-Ok-clause-some
returns-in_ok-boxes-in-Ok-clause-some c =
    let settles = ap (map (λ word. word.now)) c.deref.ensures.value ∙ c.in_ok-values_of-in-Ok.ensures in
    asked_some c.args.words.now c.request_by.result _ c.request_by.ensures
    (asks_for_it c.args.words.now c.in-Ok.matches c.get_count-ascii.result c.get_count-svg.result c.get_count-html.result c.get_count-up_to_fault.result _ _ _
    (taken _ (map string_bytes c.args.words.now) c.in-Ok.matches c.in_ok-ladder_command.ensures c.in-Ok.ensures.kinds c.in-Ok.ensures.matches)
    c.get_count-ascii.ensures.value c.get_count-svg.ensures.value c.get_count-html.ensures.value c.get_count-up_to_fault.ensures.value settles c.in_ok-boxes-in-Ok.ensures
    (by_parts _ _ _ _ _ _ c.picture_of-picture.ensures c.settles_of-settles.ensures))

pub returns-in_ok-boxes-in-Ok-clause-none : goal.returns-in_ok-boxes-in-Ok-clause-none
returns-in_ok-boxes-in-Ok-clause-none c =
    let settles = ap (map (λ word. word.now)) c.deref.ensures.value ∙ c.in_ok-values_of-in-Ok.ensures in
    asked_none c.args.words.now c.request_by.result _ c.request_by.ensures
    (asks_for_it c.args.words.now c.in-Ok.matches c.get_count-ascii.result c.get_count-svg.result c.get_count-html.result c.get_count-up_to_fault.result _ _ _
    (taken _ (map string_bytes c.args.words.now) c.in-Ok.matches c.in_ok-ladder_command.ensures c.in-Ok.ensures.kinds c.in-Ok.ensures.matches)
    c.get_count-ascii.ensures.value c.get_count-svg.ensures.value c.get_count-html.ensures.value c.get_count-up_to_fault.ensures.value settles c.in_ok-boxes-in-Ok.ensures
    (by_parts _ _ _ _ _ _ c.picture_of-picture.ensures c.settles_of-settles.ensures))

pub returns-in-Err-clause-none : goal.returns-in-Err-clause-none
returns-in-Err-clause-none c =
    let none = refused _ c.args.words.now c.in-Err.error c.in_ok-ladder_command.ensures c.in-Err.ensures.kinds in
    IfOk-weaker c.none_unless_memory.result _ _
    (λ read h. subst (λ p. IfNone p (AreTaken c.args.words.now → ⊥)) (sym h.0) (none h.1)) c.none_unless_memory.ensures
