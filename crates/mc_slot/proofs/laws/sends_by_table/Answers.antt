use Rattle.mc_slot.proofs.Tables.{sends_by_table}
use Rattle.mc_slot.proofs.laws.sends_by_table.Goals as goal

pub returns : goal.returns
returns c = sends_by_table
