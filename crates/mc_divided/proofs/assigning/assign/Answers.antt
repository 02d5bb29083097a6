use Rattle.std.proofs.Common.{ℕ, List, sym, subst}
use Rattle.mc_divided.specs.Assigning.{HaveParts}
use Rattle.mc_divided.proofs.Parting.{one_part}
use Rattle.mc_divided.proofs.assigning.assign.Goals as goal

pub returns : goal.returns
returns c =
    subst (λ (l : List ℕ). HaveParts c.args.boxes l 1) (sym c.in_ok-parts-2.ensures)
    (one_part c.args.boxes c.requires)
