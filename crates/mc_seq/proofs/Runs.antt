-- Runs one after another.
use Rattle.std.proofs.Common.{◌≡◌, ◌++◌, List, [], ◌∷◌, Some, ap, ◌∙◌}
use Rattle.std.specs.Option.{option_and_then}
use Rattle.mc_model.specs.Steps.{run, step}
use Rattle.mc_model.specs.Worlds.{WorldState}
use Rattle.mc_box.specs.declared.event.Turn.{Turn}
use Rattle.mc_box.proofs.Options.{then_some}

-- the turns after a run go on from its last world
pub run-append : (one two : List Turn) (world next : WorldState) → run world one ≡ Some next → run world (one ++ two) ≡ run next two
run-append [] two world next goes = let same : world ≡ next = cc in ap (λ (w : WorldState). run w two) same
run-append (turn ∷ one) two world next goes =
    let first = then_some (λ (w : WorldState). run w one) (step world turn) next goes in
    ap (option_and_then (λ (w : WorldState). run w (one ++ two))) first.1 ∙ run-append one two first.0 next first.2
