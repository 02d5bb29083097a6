use Rattle.mc_ladder_page.proofs.Given.{rows_give_worlds}
use Rattle.mc_ladder_page.proofs.laws.rows_give_worlds.Goals as goal

pub returns : goal.returns
returns c = rows_give_worlds
