use Rattle.mc_part.proofs.Leads.{divisions_lead_away}
use Rattle.mc_part.proofs.laws.divisions_lead_away.Goals as goal

pub returns : goal.returns
returns c = divisions_lead_away
