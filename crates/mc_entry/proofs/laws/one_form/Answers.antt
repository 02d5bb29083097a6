use Rattle.mc_entry.proofs.OneForm.{one_form}
use Rattle.mc_entry.proofs.laws.one_form.Goals as goal

pub returns : goal.returns
returns c = one_form
