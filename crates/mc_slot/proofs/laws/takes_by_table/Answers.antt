use Rattle.mc_slot.proofs.Tables.{takes_by_table}
use Rattle.mc_slot.proofs.laws.takes_by_table.Goals as goal

pub returns : goal.returns
returns c = takes_by_table
