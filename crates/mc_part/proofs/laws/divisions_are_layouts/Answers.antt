use Rattle.mc_part.proofs.Layouts.{divisions_are_layouts}
use Rattle.mc_part.proofs.laws.divisions_are_layouts.Goals as goal

pub returns : goal.returns
returns c = divisions_are_layouts
