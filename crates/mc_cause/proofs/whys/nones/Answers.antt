use Rattle.std.proofs.Common.{◌++◌, ℕ, List, [], ◌∷◌, Option, None, ap, ◌∙◌}
use Rattle.std.proofs.lemmas.List.{replicate-append-replicate}
use Rattle.mc_cause.proofs.whys.nones.Goals as goal

abbrev the_none : Option ℕ
the_none = None

pub loop-done-preserved : goal.loop-done-preserved
loop-done-preserved c =
    c.in_ok-push.ensures.items ∙ (ap (λ (l : List (Option ℕ)). l ++ the_none ∷ []) c.loop-done.invariant ∙ replicate-append-replicate c.loop-done._done 1 the_none)
