use Rattle.mc_signal.proofs.Equal.{codecs_tell_list}
use Rattle.mc_signal.proofs.laws.codecs_tell_list.Goals as goal

pub returns : goal.returns
returns c = codecs_tell_list
