use Rattle.std.proofs.Common.{refl}
use Rattle.mc_box.proofs.laws.command_table.Goals as goal

pub returns : goal.returns
returns c = record { sets = λ change. refl; media = λ change. refl; tells = λ word. refl; takes = λ local. refl; retries = λ local. refl; shifts = refl }
