use Rattle.mc_program_laws.proofs.ToldWords.{told_word_leads}
use Rattle.mc_program_laws.proofs.told.told_word_leads.Goals as goal

pub returns : goal.returns
returns c = told_word_leads
