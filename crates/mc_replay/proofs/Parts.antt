-- A turn of a run, and the worlds before it and after it.
use Rattle.std.proofs.Common.{◌≡◌, ◌++◌, ◌∙◌, List, [], ◌∷◌, Some, IsSome, Option, refl, sym, subst}
use Rattle.mc_box.proofs.Options.{then_some}
use Rattle.mc_box.specs.declared.event.Turn.{Turn}
use Rattle.mc_model.specs.Steps.{after, run, step}
use Rattle.mc_model.specs.Worlds.{WorldState}
use Rattle.mc_replay.proofs.Prefixes.{after_is, run_parts}

-- a turn of a run can happen after those before it
pub step_there : (one two : List Turn) (turn : Turn) (world last : WorldState) → run world (one ++ turn ∷ two) ≡ Some last → IsSome (step (after world one) turn)
step_there one two turn world last goes =
    let parts = run_parts one (turn ∷ two) world last goes in
    let next = then_some (λ (w : WorldState). run w two) (step parts.0 turn) last parts.2 in
    subst (λ (w : WorldState). IsSome (step w turn)) (sym (after_is world parts.0 one parts.1))
    (subst (λ (o : Option WorldState). IsSome o) (sym next.1) refl)

-- two worlds at which a run ends are one
pub one_world : (one other : WorldState) → Some one ≡ Some other → one ≡ other
one_world one other same = cc

-- the last turn of a run leads from the world before it to the last one
pub last_step : (one : List Turn) (turn : Turn) (world here last : WorldState) → run world one ≡ Some here → run world (one ++ turn ∷ []) ≡ Some last → step here turn ≡ Some last
last_step one turn world here last ran goes =
    let parts = run_parts one (turn ∷ []) world last goes in
    let next = then_some (λ (w : WorldState). run w []) (step parts.0 turn) last parts.2 in
    subst (λ (w : WorldState). step w turn ≡ Some last) (one_world parts.0 here (sym parts.1 ∙ ran)) (next.1 ∙ next.2)
